-- The chart is closed under its steps, and every set of facts that is so contains it. Assumes nothing.
use Rattle.std.proofs.Common.{ℕ, List}
use Rattle.grammar.specs.Grammar.{Grammar}
use Rattle.chart.specs.Chart.{Fact, Chart, first, one, two}
use Rattle.chart.specs.Theorems.{Closed}

pub chart_closed : (g : Grammar) (w : List ℕ) → Closed g w (Chart g w)
chart_closed g w = record { begins = λ z b. first b; steps = λ x z c s. one c s; joins = λ x y z c d s. two c d s }

pub least : (g : Grammar) (w : List ℕ) (S : Fact → Type 0) → Closed g w S → {f : Fact} → Chart g w f → S f
least g w S k (first {z = z} b) = k.begins z b
least g w S k (one {x = x} {z = z} c s) = k.steps x z (least g w S k c) s
least g w S k (two {x = x} {y = y} {z = z} c d s) = k.joins x y z (least g w S k c) (least g w S k d) s

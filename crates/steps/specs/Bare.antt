-- The bare rule of a place. Assumes nothing.
use Rattle.std.specs.Prelude.{◌≡◌, ℕ, Some, None, Option, MatchOption}
use Rattle.grammar.specs.Grammar.{Grammar, Production, production_at}
use Rattle.chart.specs.Chart.{bare_rule}
use Rattle.cells.specs.declared.Rule.{Rule}
use Rattle.cells.specs.Facts.{rule_of}

-- Absent just where the place is empty.
abbrev pub BareAt : Grammar → ℕ → Option Rule → Type 0
BareAt g p r = MatchOption r (production_at g p ≡ None) (λ z. (q : Production) × (production_at g p ≡ Some q) × (rule_of z ≡ bare_rule g p q))

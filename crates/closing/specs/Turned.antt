-- One turn: a fact was taken, and all steps from it and the facts up to it were added. Assumes nothing.
use Rattle.std.specs.Prelude.{ℕ, ◌+◌, ◌⊎◌, List}
use Rattle.grammar.specs.Grammar.{Grammar}
use Rattle.chart.specs.Chart as chart
use Rattle.chart.specs.Chart.{Step, Join}
use Rattle.cells.specs.declared.Cell.{Cell}
use Rattle.cells.specs.declared.Fact.{Fact}
use Rattle.cells.specs.Facts.{meant}
use Rattle.fact_log.specs.Log.{Logged}
use Rattle.closing.specs.State.{Has}

pub record Turned (g : Grammar) (w : List ℕ) (cs cs' : List Cell) (base at : ℕ) (f : Fact) (e : ℕ) : Type 0 where
  pub steps : (z : chart.Fact) → Step g w (meant f) z → Has cs' base e z
  pub joins : (h : Fact) (z : chart.Fact) → Logged cs base (at + 1) h → Join g (meant f) (meant h) z ⊎ Join g (meant h) (meant f) z → Has cs' base e z

-- Cells that hold a grammar before cell `base`, and from there on facts of the chart of w. Assumes nothing.
use Rattle.std.specs.Prelude.{ℕ, ◌≤◌, List, length, take}
use Rattle.grammar.specs.Grammar.{Grammar}
use Rattle.faults.specs.Sound.{Sound}
use Rattle.cells.specs.declared.Cell.{Cell}
use Rattle.rows.specs.declared.counts.Counts.{Counts}
use Rattle.rows.specs.Meaning.{rows_meaning}
use Rattle.rows.specs.Links.{Linked}
use Rattle.closing.specs.State.{State}

-- The grammar that the cells before `base` mean.
unfoldable pub grammar_in : List Cell → ℕ → Counts → Grammar
grammar_in cs base counts = rows_meaning (take base cs) counts

-- It is sound, and its live places are linked; there are no more tokens than positions go.
pub record Ready (counts : Counts) (w : List ℕ) (cs : List Cell) (base n limit : ℕ) : Type 0 where
  pub sound : Sound (grammar_in cs base counts)
  pub linked : Linked (take base cs) counts
  pub few : length w ≤ 200
  pub state : State (grammar_in cs base counts) w cs base n limit

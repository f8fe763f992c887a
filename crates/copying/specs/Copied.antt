-- A grammar copied into cells. Assumes nothing.
use Rattle.std.specs.Prelude.{◌≡◌, ℕ, List, ◌++◌, map, length, drop}
use Rattle.grammar.specs.Grammar.{Grammar}
use Rattle.chart.specs.Chart.{grammar_cells}
use Rattle.cells.specs.declared.Cell.{Cell}
use Rattle.rows.specs.declared.counts.Counts.{Counts}
use Rattle.rows.specs.Counted.{CountsOf}
use Rattle.rows.specs.Meaning.{rows_meaning}
use Rattle.rows.specs.Links.{Linked}
use Rattle.copying.specs.Layout.{grammar_rows}
use Rattle.copying.specs.Written.{plain}

-- The cells that the grammar takes, with the least heights of its categories.
abbrev pub grammar_part : Grammar → List ℕ → List Cell
grammar_part g hs = map plain (grammar_rows g hs)

-- The first cells hold the rows of the grammar, and the others are as they were. With the grammar's counts these rows mean the
-- grammar, and their links go through its live places.
pub record Copied (g : Grammar) (hs : List ℕ) (before after : List Cell) : Type 0 where
  pub cells : after ≡ grammar_part g hs ++ drop (grammar_cells g) before
  pub many : length (grammar_part g hs) ≡ grammar_cells g
  pub meaning : (n : Counts) → CountsOf g n → rows_meaning (grammar_part g hs) n ≡ g
  pub linked : (n : Counts) → CountsOf g n → Linked (grammar_part g hs) n

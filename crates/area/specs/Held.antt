-- What an area holds: the rows of a grammar first, then the facts of the chart of the tokens, and the tokens at the far end, the
-- first in the last cell; all other cells are zero. Assumes nothing.
use Rattle.std.specs.Prelude.{◌≡◌, ℕ, suc, ◌+◌, ◌-◌, ◌<◌, ◌≤◌, List, length, take, replicate, slice_index, ◌≢◌}
use Rattle.std.specs.List.{AllByRecursion}
use Rattle.grammar.specs.Grammar.{Grammar}
use Rattle.faults.specs.Sound.{Sound}
use Rattle.soundness.specs.Heights.{LeastHeights}
use Rattle.chart.specs.Chart as chart
use Rattle.chart.specs.Chart.{Chart, Member, Apart, grammar_cells}
use Rattle.cells.specs.declared.Cell.{Cell}
use Rattle.cells.specs.declared.Row.TheVariants.{Nothing, Token}
use Rattle.cells.specs.Facts.{zero_cell}
use Rattle.rows.specs.Counted.{CountsOf}
use Rattle.rows.specs.Links.{Linked}
use Rattle.copying.specs.Copied.{grammar_part}
use Rattle.copying.specs.Written.{plain}
use Rattle.fact_log.specs.Index.{cell_of}
use Rattle.closing.specs.Ready.{grammar_in}
use Rattle.extending.specs.Charted.{Charted}
use Rattle.area.specs.declared.numbers.Numbers.{Numbers}

-- The most tokens of a note.
abbrev pub most_tokens : ℕ
most_tokens = 64

-- Token i of w stands in the cell i before the last, which holds nothing else.
abbrev pub TokensIn : List Cell → List ℕ → Type 0
TokensIn cs w = (i : ℕ) → i < length w → cell_of cs (length cs - suc i) ≡ plain (Token (slice_index w i))

-- The area holds the grammar g, with the least heights of its categories, the tokens w, and the facts of their chart, all of them,
-- each once. Their order is free; with it the rows of the cells are determined, and so are all cells that hold no fact.
pub record Held (g : Grammar) (w : List ℕ) (cs : List Cell) (n : Numbers) : Type 0 where
  pub heights : List ℕ
  pub least : LeastHeights g heights
  pub sound : Sound g
  pub counted : CountsOf g n.counts
  pub rows : take (grammar_cells g) cs ≡ grammar_part g heights
  pub meant : grammar_in cs (grammar_cells g) n.counts ≡ g
  pub linked : Linked (take (grammar_cells g) cs) n.counts
  pub many : n.held ≡ length w
  pub few : length w ≤ most_tokens
  pub known : AllByRecursion (λ t. t < g.tokens) w
  pub fits : length w ≤ length cs
  pub tokens : TokensIn cs w
  pub charted : Charted g w cs (grammar_cells g) n.end (length cs - length w)

-- The cells in use for the tokens w are more than `len`: the grammar's, one for each token, and one for each fact of a list of
-- facts of their chart, each once.
pub record TooFew (g : Grammar) (w : List ℕ) (len : ℕ) : Type 0 where
  pub facts : List chart.Fact
  pub apart : Apart facts
  pub sound : (z : chart.Fact) → Member z facts → Chart g w z
  pub more : len < grammar_cells g + length w + length facts

-- What stands in the cells stays where it is.
abbrev pub Unmoved : List Cell → List Cell → Type 0
Unmoved cs cs' = (p : ℕ) → (cell_of cs p).row ≢ Nothing → (cell_of cs' p).row ≡ (cell_of cs p).row

-- Every cell is zero.
abbrev pub AllZero : List Cell → Type 0
AllZero cs = cs ≡ replicate (length cs) zero_cell

-- An area that is in use, and what is read of it. Assumes nothing.
use Rattle.std.specs.Prelude.{◌≡◌, ℕ, ◌-◌, List, length, take}
use Rattle.grammar.specs.Grammar.{Grammar}
use Rattle.chart.specs.Chart.{grammar_cells}
use Rattle.cells.specs.declared.Cell.{Cell}
use Rattle.rows.specs.declared.held.Rows.{Rows}
use Rattle.rows.specs.Counted.{CountsOf}
use Rattle.rows.specs.Links.{Linked}
use Rattle.rows.specs.Meaning.{cells_of, rows_meaning}
use Rattle.closing.specs.declared.Room.{Room}
use Rattle.closing.specs.declared.charted.Chart.{Chart}
use Rattle.area.specs.declared.numbers.Numbers.{Numbers}
use Rattle.area.specs.declared.contents.Contents.{Contents}
use Rattle.area.specs.Held.{Held}

-- The cells with these numbers hold some grammar and tokens.
abbrev pub InUse : List Cell → Numbers → Type 0
InUse cs n = (g : Grammar) × (w : List ℕ) × Held g w cs n

-- Facts may lie after the grammar's rows and before the tokens.
abbrev pub RoomOf : Grammar → List ℕ → List Cell → Room → Type 0
RoomOf g w cs r = (r.base ≡ grammar_cells g) × (r.limit ≡ length cs - length w)

-- The rows are those of the grammar in these cells, with its counts: they mean it, and their links are right.
abbrev pub SourceOf : Grammar → List Cell → Rows → Type 0
SourceOf g cs s = (rows_meaning (cells_of s) s.counts ≡ g) × Linked (cells_of s) s.counts × (cells_of s ≡ take (grammar_cells g) cs) × CountsOf g s.counts

-- What is read of cells that hold g and w.
pub record ContentsOf (g : Grammar) (w : List ℕ) (cs : List Cell) (n : Numbers) (v : Contents) : Type 0 where
  pub cells : v.cells.now ≡ cs
  pub numbers : v.numbers ≡ n
  pub source : SourceOf g cs v.source
  pub tokens : v.tokens.items ≡ w

-- The chart of g and w, as it stands in cells that hold them.
pub record ChartOf (g : Grammar) (w : List ℕ) (cs : List Cell) (n : Numbers) (c : Chart Rows) : Type 0 where
  pub source : SourceOf g cs c.source.now
  pub tokens : c.tokens.now ≡ w
  pub cells : c.cells.now ≡ cs
  pub room : RoomOf g w cs c.room
  pub end : c.end ≡ n.end

-- Rows written into cells. Assumes nothing.
use Rattle.std.specs.Prelude.{◌≡◌, ℕ, suc, List, [], ◌∷◌, Option, slice_set}
use Rattle.grammar.specs.Grammar.{from_one}
use Rattle.cells.specs.declared.Cell.{Cell}
use Rattle.cells.specs.declared.Row.{Row}
use Rattle.cells.specs.Facts.{no_link, zero_cell}

-- The cell that holds a row, and nothing else.
abbrev pub plain : Row → Cell
plain r =
    record { row = r; wait = zero_cell.wait; fact = no_link; first = no_link; second = no_link; third = no_link; whole = no_link }

-- The cells with these rows in them, from a cell on.
abbrev pub written : ℕ → List Row → List Cell → List Cell
written cell [] cells = cells
written cell (r ∷ rs) cells = written (suc cell) rs (slice_set cells cell (plain r))

-- What is answered for i, counted from 1, is row i: nothing past the last.
abbrev pub Answers : (ℕ → Option Row → Type 0) → List Row → Type 0
Answers says rows = (i : ℕ) (r : Option Row) → says i r → r ≡ from_one rows i

-- The links of a cell in each of the five indices of the facts. Assumes nothing.
use Rattle.std.specs.Prelude.{ℕ, cond, ◌==◌}
use Rattle.cells.specs.declared.Link.{Link}
use Rattle.cells.specs.declared.Cell.{Cell}

unfoldable pub link_at : Cell → ℕ → Link
link_at c s = cond (s == 0) c.fact (cond (s == 1) c.first (cond (s == 2) c.second (cond (s == 3) c.third c.whole)))

-- The cell with another link in index s.
unfoldable pub with_link : Cell → ℕ → Link → Cell
with_link c s l =
    cond (s == 0) (record { row = c.row; wait = c.wait; fact = l; first = c.first; second = c.second; third = c.third; whole = c.whole })
    (cond (s == 1) (record { row = c.row; wait = c.wait; fact = c.fact; first = l; second = c.second; third = c.third; whole = c.whole })
    (cond (s == 2) (record { row = c.row; wait = c.wait; fact = c.fact; first = c.first; second = l; third = c.third; whole = c.whole })
    (cond (s == 3) (record { row = c.row; wait = c.wait; fact = c.fact; first = c.first; second = c.second; third = l; whole = c.whole })
    (record { row = c.row; wait = c.wait; fact = c.fact; first = c.first; second = c.second; third = c.third; whole = l }))))

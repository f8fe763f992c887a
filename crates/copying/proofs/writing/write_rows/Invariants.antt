use Rattle.std.proofs.Common.{◌≡◌, ◌+◌, ◌≤◌, List, length, drop}
use Rattle.cells.specs.declared.Row.{Row}
use Rattle.copying.specs.Written.{written, Answers}
use Rattle.copying.proofs.writing.write_rows.Given as goal

abbrev pub invariant-loop-i : goal.invariant-loop-i
invariant-loop-i g l =
    (rows : List Row) → Answers (goal.F-post g l.row) rows → length rows ≤ l.most → (l.i ≤ length rows) × (written (l.cell + l.i) (drop l.i rows) l.cells ≡ written l.cell rows l.initial.cells)

use Rattle.std.proofs.Common.{◌≡◌, ◌+◌, Option, unwrap_or, ap, ◌∙◌, slice_index_or, arith}
use Rattle.cells.specs.declared.Cell.{Cell}
use Rattle.cells.specs.Facts.{zero_cell}
use Rattle.rows.proofs.Reading.{row_near}
use Rattle.rows.proofs.held.Rows.row_after.Goals as goal

pub returns : goal.returns
returns c =
    let cells = c.args.self.now.rows.now in
    let read : c.unwrap_or.result ≡ slice_index_or cells c.saturating_add-cell.result zero_cell =
    c.unwrap_or.ensures ∙ (ap (λ (o : Option Cell). unwrap_or o zero_cell) c.copied.ensures ∙ c.get.ensures.lookup.4 (omega arith) zero_cell) in
    ap (λ (x : Cell). x.row) read ∙ row_near cells (c.args.first + c.args.i) c.saturating_add-cell.result (λ l. omega (arith, c.saturating_add-cell.ensures)) (λ l. omega (arith, c.saturating_add-cell.ensures))

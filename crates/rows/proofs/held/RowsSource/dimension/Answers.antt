use Rattle.std.proofs.Common.{ℕ, Some, None, ap, ◌∙◌}
use Rattle.std.specs.List.{slice_get}
use Rattle.rows.specs.declared.sorts.Part.{Part}
use Rattle.rows.specs.Sorts.{dimension_in}
use Rattle.rows.specs.Meaning.{cells_of, category_part, rows_in}
use Rattle.rows.proofs.Reading.{nth_via}
use Rattle.rows.proofs.held.RowsSource.dimension.Goals as goal

pub returns-in_err-row : goal.returns-in_err-row
returns-in_err-row c =
    let cells = cells_of c.args.self.now in
    c.from_residual.ensures
    ∙ nth_via dimension_in (λ o. o) cells (category_part c.args.self.now.counts) c.args.category None (c.in_err-row.ensures ∙ ap (λ (p : Part). slice_get (rows_in cells p) c.args.category) c.category_part.ensures)

pub returns : goal.returns
returns c =
    let cells = cells_of c.args.self.now in
    ap (λ (d : ℕ). Some d) c.dimension_in.ensures
    ∙ nth_via dimension_in (λ o. o) cells (category_part c.args.self.now.counts) c.args.category (Some c.in_ok-row.row)
    (c.in_ok-row.ensures ∙ ap (λ (p : Part). slice_get (rows_in cells p) c.args.category) c.category_part.ensures)

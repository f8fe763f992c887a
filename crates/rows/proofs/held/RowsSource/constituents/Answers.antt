use Rattle.std.proofs.Common.{ℕ, length, Some, None, sym, ap, ◌∙◌}
use Rattle.std.specs.Option.{option_map}
use Rattle.rows.specs.Meaning.{cells_of, constituent_read}
use Rattle.rows.proofs.Reading.{function_via, length_read}
use Rattle.rows.proofs.held.RowsSource.constituents.Goals as goal

pub returns-in_err-row : goal.returns-in_err-row
returns-in_err-row c =
    c.from_residual.ensures
    ∙ function_via (option_map (λ h. length h.constituents)) (cells_of c.args.self.now) c.args.self.now.counts c.args.function None
    c.in_err-row.ensures

pub returns : goal.returns
returns c =
    let s = cells_of c.args.self.now in
    let part = c.in_ok-row.row.constituents in
    ap (λ (n : ℕ). Some n) (sym (length_read (constituent_read s) s part.first part.count))
    ∙ function_via (option_map (λ h. length h.constituents)) s c.args.self.now.counts c.args.function (Some c.in_ok-row.row)
    c.in_ok-row.ensures

use Rattle.std.proofs.Common.{Some, None, ◌∙◌}
use Rattle.std.specs.Option.{option_map}
use Rattle.rows.specs.Meaning.{cells_of}
use Rattle.rows.proofs.Reading.{function_via}
use Rattle.rows.proofs.held.RowsSource.arity.Goals as goal

pub returns-in_err-row : goal.returns-in_err-row
returns-in_err-row c =
    c.from_residual.ensures
    ∙ function_via (option_map (λ h. h.arity)) (cells_of c.args.self.now) c.args.self.now.counts c.args.function None c.in_err-row.ensures

pub returns : goal.returns
returns c =
    function_via (option_map (λ h. h.arity)) (cells_of c.args.self.now) c.args.self.now.counts c.args.function
    (Some c.in_ok-row.row) c.in_ok-row.ensures

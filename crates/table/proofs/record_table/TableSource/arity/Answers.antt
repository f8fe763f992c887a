use Rattle.std.proofs.Common.{Some, None, ◌∙◌}
use Rattle.std.specs.Option.{option_map}
use Rattle.table.proofs.Spelling.{function_via}
use Rattle.table.proofs.record_table.TableSource.arity.Goals as goal

pub returns-in_err-row : goal.returns-in_err-row
returns-in_err-row c =
    c.from_residual.ensures ∙ function_via (option_map (λ h. h.arity)) c.args.self.now c.args.function None c.in_err-row.ensures

pub returns : goal.returns
returns c =
    function_via (option_map (λ h. h.arity)) c.args.self.now c.args.function (Some c.in_ok-row.row) c.in_ok-row.ensures

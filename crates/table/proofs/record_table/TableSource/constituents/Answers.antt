use Rattle.std.proofs.Common.{length, Some, None, sym, ap, ◌∙◌, arith}
use Rattle.std.proofs.lemmas.List.{length-map}
use Rattle.std.specs.Option.{option_map}
use Rattle.table.proofs.Lookups.{no_longer}
use Rattle.table.proofs.Spelling.{function_via}
use Rattle.table.proofs.record_table.TableSource.constituents.Goals as goal

pub returns-in_err-row : goal.returns-in_err-row
returns-in_err-row c =
    c.from_residual.ensures
    ∙ function_via (option_map (λ h. length h.constituents)) c.args.self.now c.args.function None c.in_err-row.ensures

pub overflow_cast-result : goal.overflow_cast-result
overflow_cast-result c = omega (arith, no_longer c.in_ok-row.row.count _ c.constituent_rows.result.now c.constituent_rows.ensures)

pub returns : goal.returns
returns c =
    ap Some (ap length c.constituent_rows.ensures ∙ sym (length-map _ _))
    ∙ function_via (option_map (λ h. length h.constituents)) c.args.self.now c.args.function (Some c.in_ok-row.row) c.in_ok-row.ensures

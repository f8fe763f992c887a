use Rattle.std.proofs.Common.{Some, None, ap, ◌∙◌}
use Rattle.grammar.specs.Grammar.{from_one, and_then}
use Rattle.table.proofs.Spelling.{production_via}
use Rattle.table.proofs.record_table.TableSource.argument.Goals as goal

pub returns-in_err-row : goal.returns-in_err-row
returns-in_err-row c =
    c.from_residual.ensures
    ∙ production_via (λ o. and_then o (λ q. from_one q.arguments c.args.index)) c.args.self.now c.args.place None c.in_err-row.ensures

pub returns : goal.returns
returns c =
    c.row_from_one.ensures
    ∙ (ap (λ xs. from_one xs c.args.index) c.part_of.ensures
    ∙ production_via (λ o. and_then o (λ q. from_one q.arguments c.args.index)) c.args.self.now c.args.place (Some c.in_ok-row.row) c.in_ok-row.ensures)

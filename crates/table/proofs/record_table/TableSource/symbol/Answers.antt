use Rattle.std.proofs.Common.{Some, None, ap, ◌∙◌}
use Rattle.grammar.specs.Grammar.{from_one, and_then}
use Rattle.table.proofs.Spelling.{function_via, symbol_via}
use Rattle.table.proofs.record_table.TableSource.symbol.Goals as goal

pub returns-in_err-row : goal.returns-in_err-row
returns-in_err-row c =
    c.from_residual.ensures
    ∙ function_via (λ o. and_then (and_then o (λ h. from_one h.constituents c.args.constituent)) (λ s. from_one s c.args.index))
    c.args.self.now c.args.function None c.in_err-row.ensures

pub returns-in_err-part : goal.returns-in_err-part
returns-in_err-part c =
    c.from_residual-in_err-part.ensures
    ∙ symbol_via c.args.self.now c.args.function c.args.constituent c.args.index c.in_ok-row.row None
    c.in_ok-row.ensures (c.in_err-part.ensures ∙ ap (λ xs. from_one xs c.args.constituent) c.constituent_rows.ensures)

pub returns : goal.returns
returns c =
    c.row_from_one-2.ensures
    ∙ (ap (λ xs. from_one xs c.args.index) c.symbols_of.ensures
    ∙ symbol_via c.args.self.now c.args.function c.args.constituent c.args.index c.in_ok-row.row (Some c.in_ok-part.part)
    c.in_ok-row.ensures (c.in_ok-part.ensures ∙ ap (λ xs. from_one xs c.args.constituent) c.constituent_rows.ensures))

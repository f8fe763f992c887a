use Rattle.std.proofs.Common.{Some, None, ap, ◌∙◌}
use Rattle.grammar.specs.declared.Symbol.{Symbol}
use Rattle.grammar.specs.Grammar.{from_one, and_then}
use Rattle.rows.specs.Meaning.{cells_of}
use Rattle.rows.proofs.Reading.{function_via, symbol_via, symbol_in_via}
use Rattle.rows.proofs.held.RowsSource.symbol.Goals as goal

pub returns-in_err-row : goal.returns-in_err-row
returns-in_err-row c =
    c.from_residual.ensures
    ∙ function_via (λ o. and_then (and_then o (λ h. from_one h.constituents c.args.constituent)) (λ s. from_one s c.args.index))
    (cells_of c.args.self.now) c.args.self.now.counts c.args.function None c.in_err-row.ensures

pub returns-in_err-part : goal.returns-in_err-part
returns-in_err-part c =
    c.from_residual-in_err-part.ensures
    ∙ symbol_via (cells_of c.args.self.now) c.args.self.now.counts c.args.function c.args.constituent c.args.index
    c.in_ok-row.row None c.in_ok-row.ensures c.in_err-part.ensures

pub returns-in_err-symbol : goal.returns-in_err-symbol
returns-in_err-symbol c =
    c.from_residual-in_err-symbol.ensures
    ∙ symbol_in_via (cells_of c.args.self.now) c.args.self.now.counts c.args.function c.args.constituent c.args.index
    c.in_ok-row.row c.in_ok-part.part c.constituent_in.result None c.in_ok-row.ensures c.in_ok-part.ensures
    c.constituent_in.ensures c.in_err-symbol.ensures

pub returns : goal.returns
returns c =
    ap (λ (s : Symbol). Some s) c.symbol_in.ensures
    ∙ symbol_in_via (cells_of c.args.self.now) c.args.self.now.counts c.args.function c.args.constituent c.args.index
    c.in_ok-row.row c.in_ok-part.part c.constituent_in.result (Some c.in_ok-symbol.symbol) c.in_ok-row.ensures
    c.in_ok-part.ensures c.constituent_in.ensures c.in_ok-symbol.ensures

use Rattle.std.proofs.Common.{ℕ, Some, None, ap, ◌∙◌}
use Rattle.grammar.specs.Grammar.{from_one, and_then}
use Rattle.rows.specs.Meaning.{cells_of}
use Rattle.rows.proofs.Reading.{production_via, argument_via}
use Rattle.rows.proofs.held.RowsSource.argument.Goals as goal

pub returns-in_err-row : goal.returns-in_err-row
returns-in_err-row c =
    c.from_residual.ensures
    ∙ production_via (λ o. and_then o (λ q. from_one q.arguments c.args.index)) (cells_of c.args.self.now) c.args.self.now.counts
    c.args.place None c.in_err-row.ensures

pub returns-in_err-category : goal.returns-in_err-category
returns-in_err-category c =
    c.from_residual-in_err-category.ensures
    ∙ argument_via (cells_of c.args.self.now) c.args.self.now.counts c.args.place c.args.index c.in_ok-row.row None
    c.in_ok-row.ensures c.in_err-category.ensures

pub returns : goal.returns
returns c =
    ap (λ (n : ℕ). Some n) c.argument_in.ensures
    ∙ argument_via (cells_of c.args.self.now) c.args.self.now.counts c.args.place c.args.index c.in_ok-row.row
    (Some c.in_ok-category.category) c.in_ok-row.ensures c.in_ok-category.ensures

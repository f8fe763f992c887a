use Rattle.std.proofs.Common.{ℕ, ◌∙◌, ap}
use Rattle.grammar.specs.Grammar.{and_then, argument_at, from_one}
use Rattle.strike.proofs.Marks.{at_marked, at_unmarked}
use Rattle.strike.proofs.strike_layer.questions.StrikeSource.argument.Goals as goal

pub returns-in_err-unmarked : goal.returns-in_err-unmarked
returns-in_err-unmarked g c =
    c.from_residual.ensures ∙ at_marked (λ o. and_then o (λ q. from_one q.arguments c.args.index)) c.args.self.now.marks _ c.args.place c.in_err-unmarked.ensures

pub returns : goal.returns
returns g c =
    c.argument.ensures
    ∙ (ap (λ (p : ℕ). argument_at (g.S.Source.meaning c.args.self.now.source) p c.args.index) c.in_ok-unmarked.ensures.0
    ∙ at_unmarked (λ o. and_then o (λ q. from_one q.arguments c.args.index)) c.args.self.now.marks _ c.args.place c.in_ok-unmarked.ensures.1)

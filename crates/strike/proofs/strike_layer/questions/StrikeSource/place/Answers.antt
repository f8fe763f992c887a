use Rattle.std.proofs.Common.{ℕ, ◌∙◌, ap}
use Rattle.std.specs.Option.{option_map}
use Rattle.grammar.specs.Grammar.{head_of, place_at}
use Rattle.strike.proofs.Marks.{at_marked, at_unmarked}
use Rattle.strike.proofs.strike_layer.questions.StrikeSource.place.Goals as goal

pub returns-in_err-unmarked : goal.returns-in_err-unmarked
returns-in_err-unmarked g c =
    c.from_residual.ensures ∙ at_marked (option_map head_of) c.args.self.now.marks _ c.args.place c.in_err-unmarked.ensures

pub returns : goal.returns
returns g c =
    c.place.ensures
    ∙ (ap (λ (p : ℕ). place_at (g.S.Source.meaning c.args.self.now.source) p) c.in_ok-unmarked.ensures.0
    ∙ at_unmarked (option_map head_of) c.args.self.now.marks _ c.args.place c.in_ok-unmarked.ensures.1)

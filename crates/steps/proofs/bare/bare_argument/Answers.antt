use Rattle.std.proofs.Common.{Some, None, ap, ◌∙◌}
use Rattle.std.specs.Option.{option_map}
use Rattle.cells.specs.Facts.{phrase_of}
use Rattle.steps.proofs.Bareness.{bare_asked}
use Rattle.steps.proofs.bare.bare_argument.Goals as goal

pub returns : goal.returns
returns g c = ap Some c.bare_phrase.ensures ∙ bare_asked (g.S.Source.meaning c.args.source.now) c.args.place c.args.i (Some c.in_ok-category.category) c.in_ok-category.ensures

pub returns-in_err-category : goal.returns-in_err-category
returns-in_err-category g c =
    ap (option_map phrase_of) c.from_residual.ensures ∙ bare_asked (g.S.Source.meaning c.args.source.now) c.args.place c.args.i None c.in_err-category.ensures

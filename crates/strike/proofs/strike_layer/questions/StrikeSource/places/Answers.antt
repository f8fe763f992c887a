use Rattle.std.proofs.Common.{◌∙◌}
use Rattle.strike.proofs.Marks.{length_struck}
use Rattle.strike.proofs.strike_layer.questions.StrikeSource.places.Goals as goal

pub returns : goal.returns
returns g c = c.places.ensures ∙ length_struck c.args.self.now.marks _

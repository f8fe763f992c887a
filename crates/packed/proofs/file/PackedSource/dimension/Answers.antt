use Rattle.std.proofs.Common.{◌∙◌}
use Rattle.walk.proofs.Questions.{dimension_answer}
use Rattle.packed.proofs.file.PackedSource.dimension.Goals as goal

pub returns : goal.returns
returns c = c.first_number.ensures ∙ dimension_answer c.args.self.now.bytes.now c.args.category

use Rattle.std.proofs.Common.{◌∙◌}
use Rattle.walk.proofs.Questions.{arity_answer}
use Rattle.packed.proofs.file.PackedSource.arity.Goals as goal

pub returns : goal.returns
returns c = c.first_number.ensures ∙ arity_answer c.args.self.now.bytes.now c.args.function

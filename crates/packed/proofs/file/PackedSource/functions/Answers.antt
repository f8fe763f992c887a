use Rattle.std.proofs.Common.{min, ap, ◌∙◌}
use Rattle.records.specs.Meaning.{most}
use Rattle.walk.proofs.Questions.{functions_count}
use Rattle.packed.proofs.file.PackedSource.functions.Goals as goal

pub returns : goal.returns
returns c = c.count_up_to_most.ensures ∙ ap (min most) c.args.self.now.functions_listed.0 ∙ functions_count c.args.self.now.bytes.now

use Rattle.std.proofs.Common.{min, ap, ◌∙◌}
use Rattle.records.specs.Meaning.{most}
use Rattle.walk.proofs.Questions.{categories_count}
use Rattle.packed.proofs.file.PackedSource.categories.Goals as goal

pub returns : goal.returns
returns c = c.count_up_to_most.ensures ∙ ap (min most) c.args.self.now.categories_listed.0 ∙ categories_count c.args.self.now.bytes.now

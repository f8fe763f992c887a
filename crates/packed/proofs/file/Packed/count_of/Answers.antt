use Rattle.walk.specs.Groups.{grouped}
use Rattle.packed.proofs.file.Packed.count_of.Goals as goal

pub returns : goal.returns
unfolding grouped
returns c = c.count.ensures

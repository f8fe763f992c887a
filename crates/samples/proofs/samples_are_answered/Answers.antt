use Rattle.std.proofs.Common.{refl}
use Rattle.samples.proofs.samples_are_answered.Goals as goal
use Rattle.samples.specs.Lines.{lines}
use Rattle.samples.proofs.Answering.{all_hold}

pub returns : goal.returns
returns c = all_hold c.value_is_sum.ensures c.value_is_sum-2.ensures lines refl

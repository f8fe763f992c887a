use Rattle.chart.proofs.bound_is_enough.Goals as goal
use Rattle.chart.proofs.Heights.{low_tree}

pub returns : goal.returns
returns c = low_tree

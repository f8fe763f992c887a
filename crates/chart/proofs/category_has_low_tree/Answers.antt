use Rattle.chart.proofs.category_has_low_tree.Goals as goal
use Rattle.chart.proofs.Heights.{low_category}

pub returns : goal.returns
returns c = low_category

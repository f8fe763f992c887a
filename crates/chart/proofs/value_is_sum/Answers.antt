use Rattle.chart.proofs.value_is_sum.Goals as goal
use Rattle.chart.proofs.Sums.{sum_of_trees}

pub returns : goal.returns
returns g c = sum_of_trees g.met.A.Algebra.lawful

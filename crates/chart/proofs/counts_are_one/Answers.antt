use Rattle.chart.proofs.counts_are_one.Goals as goal
use Rattle.chart.proofs.Counting.{cells_one, bound_one}

pub returns : goal.returns
returns c = λ g w m n. (cells_one g w m n, bound_one g w m n)

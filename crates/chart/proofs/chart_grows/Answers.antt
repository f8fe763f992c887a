use Rattle.chart.proofs.chart_grows.Goals as goal
use Rattle.std.proofs.Common.{[], ◌∷◌}
use Rattle.chart.proofs.Growth.{grows, new_ends}

pub returns : goal.returns
returns c = λ g s w t f. (grows g w (t ∷ []), new_ends g w t s)

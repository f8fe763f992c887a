use Rattle.chart.proofs.steps_open.Goals as goal
use Rattle.chart.proofs.Growth.{opens, opens_step}

pub returns : goal.returns
returns c = λ g s w t x z. (opens_step g w t, opens g w t s)

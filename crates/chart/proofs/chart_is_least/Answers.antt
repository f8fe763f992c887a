use Rattle.chart.proofs.chart_is_least.Goals as goal
use Rattle.chart.specs.Chart.{Member}
use Rattle.chart.proofs.Smallest.{chart_closed, least}

pub returns : goal.returns
returns c = (chart_closed, λ facts g w k f h. least g w (λ x. Member x facts) k h)

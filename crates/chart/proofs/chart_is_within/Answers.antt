use Rattle.chart.proofs.chart_is_within.Goals as goal
use Rattle.chart.proofs.Smallest.{least}

pub returns : goal.returns
returns g c = λ h w k f x. least h w (g.S.FactSet.holds c.args.set.now) k x

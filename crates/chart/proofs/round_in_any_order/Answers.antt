use Rattle.chart.proofs.round_in_any_order.Goals as goal
use Rattle.chart.proofs.Sums.{round_in_any_order}

pub returns : goal.returns
returns g c = round_in_any_order g.met.A.Algebra.lawful

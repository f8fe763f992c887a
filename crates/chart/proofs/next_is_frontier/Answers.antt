use Rattle.chart.proofs.next_is_frontier.Goals as goal
use Rattle.chart.proofs.Soundness.{frontier_goes_on}
use Rattle.chart.proofs.Completeness.{goes_on_frontier}

pub returns : goal.returns
returns c = λ g s w t. (frontier_goes_on g w t s, goes_on_frontier g w t s)

use Rattle.chart.proofs.verdict_is_made.Goals as goal
use Rattle.chart.proofs.Soundness.{accepts_complete}
use Rattle.chart.proofs.Completeness.{complete_accepts}

pub returns : goal.returns
returns c = λ g s w. (accepts_complete g w s, complete_accepts g w s)

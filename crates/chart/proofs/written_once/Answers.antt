use Rattle.chart.proofs.written_once.Goals as goal
use Rattle.chart.proofs.Written.{written_once}

pub returns : goal.returns
returns c = written_once

use Rattle.chart.proofs.written_or_not.Goals as goal
use Rattle.chart.proofs.Written.{written_or_not}

pub returns : goal.returns
returns c = written_or_not

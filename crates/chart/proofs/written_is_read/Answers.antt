use Rattle.chart.proofs.written_is_read.Goals as goal
use Rattle.chart.proofs.Written.{read_written}

pub returns : goal.returns
returns c = read_written

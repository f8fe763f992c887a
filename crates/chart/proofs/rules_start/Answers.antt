use Rattle.chart.proofs.rules_start.Goals as goal
use Rattle.chart.proofs.Starts.{started}

pub returns : goal.returns
returns c = λ g s w r l j i k h. started g w s h

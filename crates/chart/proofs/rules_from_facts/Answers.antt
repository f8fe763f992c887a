use Rattle.chart.proofs.rules_from_facts.Goals as goal
use Rattle.chart.proofs.Sums.{rules_from_facts}

pub returns : goal.returns
returns c = rules_from_facts

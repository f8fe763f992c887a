use Rattle.cells.proofs.Meant.{meant_apart}
use Rattle.cells.proofs.facts_apart.Goals as goal

pub returns : goal.returns
returns c = meant_apart

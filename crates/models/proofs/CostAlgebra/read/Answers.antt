-- A 32-bit number is within the bound of a cost. Assumes nothing.
use Rattle.std.proofs.Common.{arith}
use Rattle.models.specs.Equal.{same_cost}
use Rattle.models.proofs.CostAlgebra.read.Goals as goal

pub returns : goal.returns
returns c = same_cost _ _ (omega arith)

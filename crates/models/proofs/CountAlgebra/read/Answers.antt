-- The number that is kept is the one that was read, stopped at the bound. Assumes nothing.
use Rattle.std.proofs.Common.{arith}
use Rattle.models.specs.Equal.{same_count}
use Rattle.models.proofs.CountAlgebra.read.Goals as goal

pub returns : goal.returns
returns c = same_count _ _ (omega arith)

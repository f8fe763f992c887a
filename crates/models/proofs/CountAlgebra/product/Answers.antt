-- A product that stops at the largest 32-bit number reads as the product of two counts. Assumes nothing.
use Rattle.std.proofs.Common.{ap, arith}
use Rattle.models.specs.declared.count.Count.{Count}
use Rattle.models.specs.Equal.{same_count}
use Rattle.models.proofs.CountAlgebra.product.Goals as goal

pub returns : goal.returns
returns c = same_count _ _ (omega (arith, ap (λ (x : Count). x.ways) c.read.ensures))

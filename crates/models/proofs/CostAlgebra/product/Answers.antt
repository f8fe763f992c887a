-- A sum that stops at the largest 32-bit number reads as the product of two costs. Assumes nothing.
use Rattle.std.proofs.Common.{ap, arith}
use Rattle.models.specs.declared.cost.Cost.{Cost}
use Rattle.models.specs.Equal.{same_cost}
use Rattle.models.proofs.CostAlgebra.product.Goals as goal

pub returns : goal.returns
returns c = same_cost _ _ (omega (arith, ap (λ (x : Cost). x.price) c.read.ensures))

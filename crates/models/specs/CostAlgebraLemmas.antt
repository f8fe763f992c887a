use Rattle.std.specs.Prelude.{◌≡◌, min}
use Rattle.std.proofs.Common.{arith}
use Rattle.models.specs.declared.cost.Cost.{Cost}

-- the lesser of two costs is within the bound
pub lesser : (x y : Cost) → min (min x.price y.price) 4294967295 ≡ min x.price y.price
lesser x y = omega arith

-- Two counts, and two costs, are equal where their numbers are. Assumes nothing.
use Rattle.std.specs.Prelude.{◌≡◌, ◌≤◌}
use mathlib.Core.HLevel.{is_prop→PathP}
use Rattle.std.proofs.Math.Bridge.{le_prop}
use Rattle.models.specs.declared.count.Count.{Count}
use Rattle.models.specs.declared.cost.Cost.{Cost}

pub same_count : (x y : Count) → x.ways ≡ y.ways → x ≡ y
same_count x y e = λ i. record {
  ways = e i;
  bounded = is_prop→PathP (λ k. e k ≤ 1000000) (λ k. le_prop) x.bounded y.bounded i;
}

pub same_cost : (x y : Cost) → x.price ≡ y.price → x ≡ y
same_cost x y e = λ i. record {
  price = e i;
  bounded = is_prop→PathP (λ k. e k ≤ 4294967295) (λ k. le_prop) x.bounded y.bounded i;
}

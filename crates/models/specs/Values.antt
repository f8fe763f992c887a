-- Which value a plain number reads as, for each of the three algebras. Assumes nothing.
use Rattle.std.specs.Prelude.{ℕ, min, Bool, not, ◌==◌}
use Rattle.std.proofs.Math.Nat.{min-le_right}
use Rattle.models.specs.declared.yes_no.YesNo.{YesNo}
use Rattle.models.specs.declared.count.Count.{Count}
use Rattle.models.specs.declared.cost.Cost.{Cost}

abbrev pub yes_no_of : Bool → YesNo
yes_no_of b = record { yes = b }

-- every number but 0 reads as yes
abbrev pub yes_no_read : ℕ → YesNo
yes_no_read n = yes_no_of (not (n == 0))

-- a count stops at 1,000,000
abbrev pub count_of : ℕ → Count
count_of n = record { ways = min n 1000000; bounded = min-le_right n 1000000 }

-- a cost stops at 4,294,967,295
abbrev pub cost_of : ℕ → Cost
cost_of n = record { price = min n 4294967295; bounded = min-le_right n 4294967295 }

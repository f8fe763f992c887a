use Rattle.std.proofs.Common.{◌≡◌, ℕ, ◌+◌, ◌-◌, ◌^◌, ◌<◌, sym, subst, arith}
use Rattle.std.proofs.lemmas.Nat.{shr_below}
use Rattle.fact_log.proofs.index.bucket.Goals as goal

pub returns-clause-bound : goal.returns-clause-bound
returns-clause-bound c =
    let k : ℕ = c.args.order in
    let all : k + (63 - k) ≡ 63 = omega (arith, c.requires) in
    shr_below c.hash.result k (63 - k) (subst (λ (m : ℕ). c.hash.result < 2 ^ m) (sym all) c.hash.ensures.bound)

use Rattle.std.specs.Prelude.{◌≡◌, ℕ, zero, suc, ◌+◌, ◌*◌, ◌<◌, ◌≤◌, min}
use Rattle.std.proofs.Common.{sym, ap, ◌∙◌, ⊎_elim, mul_comm, mul-zero, mul-suc, arith}
use Rattle.std.proofs.lemmas.Bool.{cases_lt}
use Rattle.models.specs.declared.count.Count.{Count}

abbrev pub stop : ℕ → ℕ
stop n = min n 1000000

pub stopped : (x : Count) → stop x.ways ≡ x.ways
stopped x = omega arith

pub sum_left : (a b : ℕ) → stop (stop a + b) ≡ stop (a + b)
sum_left a b = omega arith

pub sum_right : (a b : ℕ) → stop (a + stop b) ≡ stop (a + b)
sum_right a b = omega arith

pub product_left : (a b : ℕ) → stop (stop a * b) ≡ stop (a * b)
product_left a zero = ap stop (mul-zero (stop a) ∙ sym (mul-zero a))
product_left a (suc b) =
    ⊎_elim (λ (over : 1000000 < a). omega (arith, mul-suc (stop a) b, mul-suc a b)) (λ (within : a ≤ 1000000). let same : stop a ≡ a = omega arith in ap (λ n. stop (n * suc b)) same)
    (cases_lt 1000000 a)

pub product_right : (a b : ℕ) → stop (a * stop b) ≡ stop (a * b)
product_right a b = ap stop (mul_comm a (stop b)) ∙ product_left b a ∙ ap stop (mul_comm b a)

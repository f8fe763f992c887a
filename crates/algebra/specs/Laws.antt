-- The laws of a semiring whose values are kept as plain 32-bit numbers. Assumes nothing.
use Rattle.std.specs.Prelude.{◌≡◌, ℕ, ◌^◌, ◌<◌}

pub record Laws {A : Type 0} (nought unit : A) (plus times : A → A → A) (reads : ℕ → A) (writes : A → ℕ) : Type 0 where
  pub sum_assoc : (x y z : A) → plus (plus x y) z ≡ plus x (plus y z)
  pub sum_comm : (x y : A) → plus x y ≡ plus y x
  pub sum_zero : (x : A) → plus x nought ≡ x
  pub product_assoc : (x y z : A) → times (times x y) z ≡ times x (times y z)
  pub product_one : (x : A) → times x unit ≡ x
  pub one_product : (x : A) → times unit x ≡ x
  pub product_zero : (x : A) → times x nought ≡ nought
  pub zero_product : (x : A) → times nought x ≡ nought
  pub product_sum : (x y z : A) → times x (plus y z) ≡ plus (times x y) (times x z)
  pub sum_product : (x y z : A) → times (plus x y) z ≡ plus (times x z) (times y z)
  -- a value is written as a 32-bit number, which reads as the value again
  pub writes_fits : (x : A) → writes x < 2 ^ 32
  pub reads_writes : (x : A) → reads (writes x) ≡ x

-- What stands at an index of a list that is cut. Assumes nothing.
use Rattle.std.proofs.Common.{◌≡◌, ℕ, zero, suc, ◌<◌, List, [], ◌∷◌, take, drop, refl, arith}
use Rattle.std.specs.List.{slice_get}

pub nth_take : {X : Type 0} (n : ℕ) (xs : List X) (i : ℕ) → i < n → slice_get (take n xs) i ≡ slice_get xs i
nth_take zero xs i h = absurd (omega arith)
nth_take (suc n) [] i h = refl
nth_take (suc n) (x ∷ xs) zero h = refl
nth_take (suc n) (x ∷ xs) (suc i) h = nth_take n xs i (omega arith)

pub nth_drop_two : {X : Type 0} (xs : List X) (i : ℕ) → slice_get (drop 2 xs) i ≡ slice_get xs (suc (suc i))
nth_drop_two [] i = refl
nth_drop_two (x ∷ []) i = refl
nth_drop_two (x ∷ y ∷ xs) i = refl

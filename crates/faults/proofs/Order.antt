-- The first fault of a row of things.
use Rattle.std.proofs.Common.{◌≡◌, ℕ, zero, suc, ◌+◌, ◌<◌, List, [], ◌∷◌, ◌++◌, map, Some, None, Option, sym, refl, ap, ◌∙◌, ⊎_elim, add-one, arith}
use Rattle.std.proofs.lemmas.Bool.{cases_eq}
use Rattle.std.proofs.lemmas.List.FromFn.{map-range_with_len_more}
use Rattle.std.specs.List.{range_with_len}
use Rattle.faults.specs.Tests.{or_else, first_of}

pub or_assoc : {Y : Type 0} (a b c : Option Y) → or_else a (or_else b c) ≡ or_else (or_else a b) c
or_assoc None b c = refl
or_assoc (Some y) b c = refl

pub first_append : {X Y : Type 0} (f : X → Option Y) (xs ys : List X) → first_of f (xs ++ ys) ≡ or_else (first_of f xs) (first_of f ys)
first_append f [] ys = refl
first_append f (x ∷ xs) ys = ap (or_else (f x)) (first_append f xs ys) ∙ or_assoc (f x) (first_of f xs) (first_of f ys)

pub first_of_map : {K X Y : Type 0} (f : X → Option Y) (x : K → X) (ks : List K) → first_of (λ k. f (x k)) ks ≡ first_of f (map x ks)
first_of_map f x [] = refl
first_of_map f x (k ∷ ks) = ap (or_else (f (x k))) (first_of_map f x ks)

or_none : {Y : Type 0} (o : Option Y) → or_else o None ≡ o
or_none None = refl
or_none (Some y) = refl

first_next : {X Y : Type 0} (f : X → Option Y) (x : ℕ → X) (i : ℕ) → first_of f (map x (range_with_len 0 (i + 1))) ≡ or_else (first_of f (map x (range_with_len 0 i))) (f (x i))
first_next f x i =
    ap (first_of f) (map-range_with_len_more x 0 i i (omega arith))
    ∙ (first_append f (map x (range_with_len 0 i)) (x i ∷ []) ∙ ap (or_else (first_of f (map x (range_with_len 0 i)))) (or_none (f (x i))))

pub both_none : {Y : Type 0} (a b : Option Y) → or_else a b ≡ None → (a ≡ None) × (b ≡ None)
both_none None b e = (refl, e)
both_none (Some y) b e = absurd (let z : ◌≡◌ {A = ℕ} 0 1 = cc in omega arith)

pub none_parts : {X Y : Type 0} (f : X → Option Y) (xs ys : List X) → first_of f (xs ++ ys) ≡ None → (first_of f xs ≡ None) × (first_of f ys ≡ None)
none_parts f xs ys e = both_none (first_of f xs) (first_of f ys) (sym (first_append f xs ys) ∙ e)

-- where the first of all is none, none of them has any
pub none_below : {X Y : Type 0} (f : X → Option Y) (x : ℕ → X) (n k : ℕ) → first_of f (map x (range_with_len 0 n)) ≡ None → k < n → f (x k) ≡ None
none_below f x zero k h l = absurd (omega arith)
none_below f x (suc n) k h l =
    let b = both_none (first_of f (map x (range_with_len 0 n))) (f (x n)) (sym (first_next f x n) ∙ (ap (λ (m : ℕ). first_of f (map x (range_with_len 0 m))) (add-one n) ∙ h)) in
    ⊎_elim (λ (e : k ≡ n). ap (λ (m : ℕ). f (x m)) e ∙ b.1) (λ (ne : k ≡ n → ⊥). none_below f x n k b.0 (omega arith)) (cases_eq k n)

-- Tests of the values in lists and of what may be absent. Assumes nothing.
use Rattle.std.specs.Prelude.{◌≡◌, ℕ, Bool, true, false, ◌||◌, List, [], ◌∷◌, Some, None, Option}
use Rattle.std.specs.List.{slice_get}

-- Some element passes.
abbrev pub some_of : {X : Type 0} → (X → Bool) → List X → Bool
some_of p [] = false
some_of p (x ∷ xs) = p x || some_of p xs

-- The elements are asked one after another until one passes. Where r is true, some element was answered with true; where it is false,
-- each was answered with false.
pub record SomePasses {X : Type 0} (answers : X → Bool → Type 0) (xs : List X) (r : Bool) : Type 0 where
  pub passed : r ≡ true → (i : ℕ) × (x : X) × (slice_get xs i ≡ Some x) × answers x true
  pub failed : r ≡ false → (i : ℕ) (x : X) → slice_get xs i ≡ Some x → answers x false

-- It is there and passes.
abbrev pub there_and : {X : Type 0} → (X → Bool) → Option X → Bool
there_and p None = false
there_and p (Some x) = p x

-- It is absent, or it passes.
abbrev pub absent_or : {X : Type 0} → (X → Bool) → Option X → Bool
absent_or p None = true
absent_or p (Some x) = p x

abbrev pub or_else : {X : Type 0} → Option X → Option X → Option X
or_else None o = o
or_else (Some x) o = Some x

-- The first answer that is there.
abbrev pub first_of : {X Y : Type 0} → (X → Option Y) → List X → Option Y
first_of f [] = None
first_of f (x ∷ xs) = or_else (f x) (first_of f xs)

-- What stands at a number of a list that was made from another. Assumes nothing.
use Rattle.std.proofs.Common.{◌≡◌, ℕ, zero, suc, ◌≤◌, List, [], ◌∷◌, map, length, take, Some, None, Option, refl, ap, ◌∙◌, arith}
use Rattle.std.proofs.lemmas.List.{length-take}
use Rattle.std.specs.Option.{option_map, option_flatten}
use Rattle.std.specs.List.{slice_get}
use Rattle.grammar.specs.Grammar.{from_one}

pub nth_map : {X Y : Type 0} (f : X → Y) (xs : List X) (i : ℕ) → option_map f (slice_get xs i) ≡ slice_get (map f xs) i
nth_map f [] i = refl
nth_map f (x ∷ xs) zero = refl
nth_map f (x ∷ xs) (suc i) = nth_map f xs i

-- An answer G to what stands in a list of rows' meanings, given what stands in the rows.
pub nth_via : {X Y Z : Type 0} (f : X → Y) (G : Option Y → Z) (xs : List X) (i : ℕ) (o : Option X) → o ≡ slice_get xs i
    → G (option_map f o) ≡ G (slice_get (map f xs) i)
nth_via f G xs i o e = ap (λ p. G (option_map f p)) e ∙ ap G (nth_map f xs i)

pub from_one_via : {X Y Z : Type 0} (f : X → Y) (G : Option Y → Z) (xs : List X) (i : ℕ) (o : Option X) → o ≡ from_one xs i
    → G (option_map f o) ≡ G (from_one (map f xs) i)
from_one_via f G xs zero o e = ap (λ p. G (option_map f p)) e
from_one_via f G xs (suc i) o e = nth_via f G xs i o e

-- A part of a list that is named by a count is no longer than the count.
pub no_longer : {X : Type 0} (n : ℕ) (xs ys : List X) → ys ≡ take n xs → length ys ≤ n
no_longer n xs ys e = omega (arith, ap length e ∙ length-take n xs)

pub flattened_mapped : {X Y : Type 0} (f : X → Y) (o : Option (Option X)) → option_map f (option_flatten o) ≡ option_flatten (option_map (option_map f) o)
flattened_mapped f None = refl
flattened_mapped f (Some o) = refl

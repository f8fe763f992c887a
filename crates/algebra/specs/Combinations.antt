-- The ways of choosing one element from each of several lists. Assumes nothing.
use Rattle.std.specs.Prelude.{List, [], ◌∷◌, map}
use mathlib.Core.List.{Memᴰ}
use Rattle.std.specs.List.{flat_map}

-- every way of choosing one element from each list, in order
abbrev pub combinations : {X : Type 0} → List (List X) → List (List X)
combinations [] = [] ∷ []
combinations (xs ∷ xss) = flat_map (λ x. map (λ chosen. x ∷ chosen) (combinations xss)) xs

-- the first list has one element of each of the others, in order
abbrev pub Chosen : {X : Type 0} → List X → List (List X) → Type 0
Chosen [] [] = Unit {0}
Chosen [] (xs ∷ xss) = ⊥
Chosen (x ∷ chosen) [] = ⊥
Chosen (x ∷ chosen) (xs ∷ xss) = Memᴰ x xs × Chosen chosen xss

-- What holds of sums in every algebra, by the laws alone, and of combinations. Assumes nothing.
use Rattle.std.specs.Prelude.{◌≡◌, List, ◌++◌, map}
use mathlib.Core.List.{Permᴰ, Memᴰ, Nodup}
use Rattle.std.specs.List.{AllByRecursion}
use Rattle.algebra.specs.Combinations.{combinations, Chosen}
use Rattle.algebra.specs.Sums.{sum_of, product_of}

-- the order of a sum does not matter
abbrev pub SumInAnyOrder : {A : Type 0} → A → (A → A → A) → Type 0
SumInAnyOrder {A} nought plus = (xs ys : List A) → Permᴰ xs ys → sum_of nought plus xs ≡ sum_of nought plus ys

-- the sum over a concatenation is the sum of the sums
abbrev pub SumOfConcatenation : {A : Type 0} → A → (A → A → A) → Type 0
SumOfConcatenation {A} nought plus = (xs ys : List A) → sum_of nought plus (xs ++ ys) ≡ plus (sum_of nought plus xs) (sum_of nought plus ys)

-- a factor on the left of a sum, or on its right, goes to each value of the sum
abbrev pub FactorOfSum : {A : Type 0} → A → (A → A → A) → (A → A → A) → Type 0
FactorOfSum {A} nought plus times = (factor : A) (xs : List A) → (times factor (sum_of nought plus xs) ≡ sum_of nought plus (map (λ x. times factor x) xs)) × (times (sum_of nought plus xs) factor ≡ sum_of nought plus (map (λ x. times x factor) xs))

-- the product of the sums of several lists, where each element has a value, is the sum over the combinations of their products
abbrev pub ProductOfSums : (X : Type 0) {A : Type 0} → A → (A → A → A) → (A → A → A) → Type 0
ProductOfSums X {A} nought plus times =
    (value : X → A) (first : A) (xss : List (List X))
    → product_of times first (map (λ xs. sum_of nought plus (map value xs)) xss)
    ≡ sum_of nought plus (map (λ chosen. product_of times first (map value chosen)) (combinations xss))

-- the combinations are exactly the ways of choosing one element from each list
abbrev pub CombinationsAreChoices : Type 0 → Type 0
CombinationsAreChoices X = (xss : List (List X)) (chosen : List X) → (Memᴰ chosen (combinations xss) → Chosen chosen xss) × (Chosen chosen xss → Memᴰ chosen (combinations xss))

-- where no list has an element twice, no combination stands twice
abbrev pub CombinationsAreDistinct : Type 0 → Type 0
CombinationsAreDistinct X = (xss : List (List X)) → AllByRecursion (λ xs. Nodup xs) xss → Nodup (combinations xss)

-- Sums and products of lists of values. Assumes nothing.
use Rattle.std.specs.Prelude.{ℕ, List, [], ◌∷◌, fold}

abbrev pub sum_of : {A : Type 0} → A → (A → A → A) → List A → A
sum_of nought plus [] = nought
sum_of nought plus (x ∷ xs) = plus x (sum_of nought plus xs)

-- the product of `first` and the values after it, from left to right
abbrev pub product_of : {A : Type 0} → (A → A → A) → A → List A → A
product_of times first xs = fold times first xs

-- weight times value, pair by pair, up to the end of the shorter list of numbers
abbrev pub weighted : {A : Type 0} → (A → A → A) → (ℕ → A) → List ℕ → List ℕ → List A
weighted times reads [] vs = []
weighted times reads (w ∷ ws) [] = []
weighted times reads (w ∷ ws) (v ∷ vs) = times (reads w) (reads v) ∷ weighted times reads ws vs

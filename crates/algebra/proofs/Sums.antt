-- What the laws of an algebra give of sums over lists. Assumes nothing but the laws.
use Rattle.std.proofs.Common.{◌≡◌, ℕ, ◌+◌, ◌<◌, List, [], ◌∷◌, map, length, get_or, take, sym, refl, ap, ◌∙◌}
use mathlib.Core.List.Permᴰ
use Rattle.std.specs.List.{flat_map}
use Rattle.std.proofs.lemmas.List.{take_more, map-append}
use Rattle.algebra.specs.Laws.{Laws}
use Rattle.algebra.specs.Sums.{sum_of}
use Rattle.algebra.specs.Theorems.{SumInAnyOrder, SumOfConcatenation, FactorOfSum}

module _ {A : Type 0} {nought unit : A} {plus times : A → A → A} {reads : ℕ → A} {writes : A → ℕ} (laws : Laws nought unit plus times reads writes) where
  -- zero is neutral on the left too
  pub zero_sum : (x : A) → plus nought x ≡ x
  zero_sum x = laws.sum_comm nought x ∙ laws.sum_zero x

  -- the first two of three change places
  pub sum_exchange : (x y z : A) → plus x (plus y z) ≡ plus y (plus x z)
  sum_exchange x y z = sym (laws.sum_assoc x y z) ∙ ap (λ s. plus s z) (laws.sum_comm x y) ∙ laws.sum_assoc y x z

  pub sum_in_any_order : SumInAnyOrder nought plus
  sum_in_any_order xs ys Permᴰ.nil = refl
  sum_in_any_order (x ∷ xs) (y ∷ ys) (Permᴰ.cons e p) = ap (λ a. plus a (sum_of nought plus xs)) e ∙ ap (plus y) (sum_in_any_order xs ys p)
  sum_in_any_order xs ys (Permᴰ.swap {a} {b} {a'} {b'} {l} e f) = sum_exchange a b (sum_of nought plus l) ∙ cc
  sum_in_any_order xs ys (Permᴰ.trans {l₂ = zs} p q) = sum_in_any_order xs zs p ∙ sum_in_any_order zs ys q

  pub sum_of_concatenation : SumOfConcatenation nought plus
  sum_of_concatenation [] ys = sym (zero_sum (sum_of nought plus ys))
  sum_of_concatenation (x ∷ xs) ys = ap (plus x) (sum_of_concatenation xs ys) ∙ sym (laws.sum_assoc x (sum_of nought plus xs) (sum_of nought plus ys))

  -- the sum over a concatenation of many lists, one for each element of xs
  pub sum_joined : {X Y : Type 0} (value : Y → A) (lists : X → List Y) (xs : List X) → sum_of nought plus (map value (flat_map lists xs)) ≡ sum_of nought plus (map (λ x. sum_of nought plus (map value (lists x))) xs)
  sum_joined value lists [] = refl
  sum_joined value lists (x ∷ xs) =
      ap (sum_of nought plus) (map-append value (lists x) (flat_map lists xs))
      ∙ sum_of_concatenation (map value (lists x)) (map value (flat_map lists xs))
      ∙ ap (plus (sum_of nought plus (map value (lists x)))) (sum_joined value lists xs)

  -- one value more of a list
  pub sum_more : (xs : List A) (i : ℕ) (d : A) → i < length xs → sum_of nought plus (take (i + 1) xs) ≡ plus (sum_of nought plus (take i xs)) (get_or xs i d)
  sum_more xs i d within =
      ap (sum_of nought plus) (take_more xs i d within)
      ∙ sum_of_concatenation (take i xs) (get_or xs i d ∷ [])
      ∙ ap (plus (sum_of nought plus (take i xs))) (laws.sum_zero (get_or xs i d))

  -- a sum of sums, pair by pair
  pub sum_of_pairs : {X : Type 0} (f g : X → A) (xs : List X) → sum_of nought plus (map (λ x. plus (f x) (g x)) xs) ≡ plus (sum_of nought plus (map f xs)) (sum_of nought plus (map g xs))
  sum_of_pairs f g [] = sym (laws.sum_zero nought)
  sum_of_pairs f g (x ∷ xs) =
      ap (plus (plus (f x) (g x))) (sum_of_pairs f g xs)
      ∙ laws.sum_assoc (f x) (g x) (plus (sum_of nought plus (map f xs)) (sum_of nought plus (map g xs)))
      ∙ ap (plus (f x)) (sum_exchange (g x) (sum_of nought plus (map f xs)) (sum_of nought plus (map g xs)))
      ∙ sym (laws.sum_assoc (f x) (sum_of nought plus (map f xs)) (plus (g x) (sum_of nought plus (map g xs))))

  -- a sum of zeros
  pub sum_of_zeros : {X : Type 0} (f : X → A) → ((x : X) → f x ≡ nought) → (xs : List X) → sum_of nought plus (map f xs) ≡ nought
  sum_of_zeros f zeros [] = refl
  sum_of_zeros f zeros (x ∷ xs) = ap (λ a. plus a (sum_of nought plus (map f xs))) (zeros x) ∙ zero_sum (sum_of nought plus (map f xs)) ∙ sum_of_zeros f zeros xs

  -- equal values have equal sums
  pub sum_of_equals : {X : Type 0} (f g : X → A) → ((x : X) → f x ≡ g x) → (xs : List X) → sum_of nought plus (map f xs) ≡ sum_of nought plus (map g xs)
  sum_of_equals f g same [] = refl
  sum_of_equals f g same (x ∷ xs) = ap (λ a. plus a (sum_of nought plus (map f xs))) (same x) ∙ ap (plus (g x)) (sum_of_equals f g same xs)

  factor_left : (factor : A) (xs : List A) → times factor (sum_of nought plus xs) ≡ sum_of nought plus (map (λ x. times factor x) xs)
  factor_left factor [] = laws.product_zero factor
  factor_left factor (x ∷ xs) = laws.product_sum factor x (sum_of nought plus xs) ∙ ap (plus (times factor x)) (factor_left factor xs)

  factor_right : (factor : A) (xs : List A) → times (sum_of nought plus xs) factor ≡ sum_of nought plus (map (λ x. times x factor) xs)
  factor_right factor [] = laws.zero_product factor
  factor_right factor (x ∷ xs) = laws.sum_product x (sum_of nought plus xs) factor ∙ ap (plus (times x factor)) (factor_right factor xs)

  pub factor_of_sum : FactorOfSum nought plus times
  factor_of_sum factor xs = (factor_left factor xs, factor_right factor xs)

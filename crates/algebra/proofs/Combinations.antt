-- The product of several sums is the sum over the combinations of their products. Assumes nothing but the laws.
use Rattle.std.proofs.Common.{◌≡◌, ℕ, List, [], ◌∷◌, map, sym, refl, ap, ◌∙◌}
use mathlib.Core.List.{map-map}
use Rattle.algebra.specs.Combinations.{combinations}
use Rattle.algebra.specs.Laws.{Laws}
use Rattle.algebra.specs.Sums.{sum_of, product_of}
use Rattle.algebra.specs.Theorems.{ProductOfSums}
use Rattle.algebra.proofs.Sums.{sum_joined, sum_of_pairs, sum_of_zeros, sum_of_equals}

module _ {A : Type 0} {nought unit : A} {plus times : A → A → A} {reads : ℕ → A} {writes : A → ℕ} (laws : Laws nought unit plus times reads writes) where
  -- a product that begins with zero is zero
  pub product_from_zero : (xs : List A) → product_of times nought xs ≡ nought
  product_from_zero [] = refl
  product_from_zero (x ∷ xs) = ap (λ a. product_of times a xs) (laws.zero_product x) ∙ product_from_zero xs

  -- a product that begins with a sum is the sum of two products
  pub product_from_sum : (a b : A) (xs : List A) → product_of times (plus a b) xs ≡ plus (product_of times a xs) (product_of times b xs)
  product_from_sum a b [] = refl
  product_from_sum a b (x ∷ xs) = ap (λ s. product_of times s xs) (laws.sum_product a b x) ∙ product_from_sum (times a x) (times b x) xs

  -- products that begin with a factor times a sum, summed over the lists `ends`
  spread : {X : Type 0} (value : X → A) (first : A) (xs : List X) (ends : List (List X))
      → sum_of nought plus (map (λ end. product_of times (times first (sum_of nought plus (map value xs))) (map value end)) ends)
      ≡ sum_of nought plus (map (λ x. sum_of nought plus (map (λ end. product_of times (times first (value x)) (map value end)) ends)) xs)
  spread value first [] ends =
      sum_of_zeros laws (λ end. product_of times (times first nought) (map value end))
      (λ end. ap (λ a. product_of times a (map value end)) (laws.product_zero first) ∙ product_from_zero (map value end)) ends
  spread {X} value first (x ∷ xs) ends =
      let rest = sum_of nought plus (map value xs) in
      let from : A → List X → A = λ a end. product_of times (times first a) (map value end) in
      sum_of_equals laws (from (plus (value x) rest)) (λ end. plus (from (value x) end) (from rest end))
      (λ end. ap (λ a. product_of times a (map value end)) (laws.product_sum first (value x) rest) ∙ product_from_sum (times first (value x)) (times first rest) (map value end)) ends
      ∙ sum_of_pairs laws (from (value x)) (from rest) ends
      ∙ ap (plus (sum_of nought plus (map (from (value x)) ends))) (spread value first xs ends)

  pub product_of_sums : {X : Type 0} → ProductOfSums X nought plus times
  product_of_sums value first [] = sym (laws.sum_zero first)
  product_of_sums {X} value first (xs ∷ xss) =
      let all : List X → A = λ chosen. product_of times first (map value chosen) in
      product_of_sums value (times first (sum_of nought plus (map value xs))) xss
      ∙ spread value first xs (combinations xss)
      ∙ sum_of_equals laws _ _ (λ x. ap (sum_of nought plus) (sym (map-map all (λ chosen. x ∷ chosen) (combinations xss)))) xs
      ∙ sym (sum_joined laws all (λ x. map (λ chosen. x ∷ chosen) (combinations xss)) xs)

-- What a sound grammar has at most three of fits a short list.
use Rattle.std.proofs.Common.{◌≡◌, ℕ, zero, suc, ◌≤◌, List, [], ◌∷◌, map, length, Some, None, Option, unwrap_or, sym, refl, ap, ◌∙◌, arith}
use Rattle.std.specs.Option.{option_map}
use Rattle.grammar.specs.Grammar.{Grammar, Production, production_at, argument_at, from_one, and_then}
use Rattle.chart.specs.Chart.{bare}
use Rattle.faults.specs.Parts.{arguments_of}
use Rattle.faults.specs.Sound.{Sound}
use Rattle.faults.proofs.Made.{arguments_few}
use Rattle.std.proofs.lemmas.List.{length-map}
use Rattle.steps.proofs.Reading.{from_mapped}

-- the arguments one by one
few_arguments : (g : Grammar) → Sound g → (p : ℕ) (o : Option Production) → production_at g p ≡ o → length (unwrap_or (option_map (λ q. q.arguments) o) []) ≤ 3
few_arguments g sd p None e = omega arith
few_arguments g sd p (Some q) e = arguments_few g sd p q e

asked : (o : Option Production) (i : ℕ) → and_then o (λ q. from_one q.arguments i) ≡ from_one (unwrap_or (option_map (λ q. q.arguments) o) []) i
asked None zero = refl
asked None (suc i) = refl
asked (Some q) i = refl

pub list_none : {X : Type 0} (xs : List X) → None ≡ from_one xs 1 → xs ≡ []
list_none [] e = refl
list_none (x ∷ xs) e = cc

pub list_one : {X : Type 0} (xs : List X) (a : X) → Some a ≡ from_one xs 1 → None ≡ from_one xs 2 → xs ≡ a ∷ []
list_one [] a e f = cc
list_one (x ∷ []) a e f = cc
list_one (x ∷ (y ∷ xs)) a e f = cc

pub list_two : {X : Type 0} (xs : List X) (a b : X) → Some a ≡ from_one xs 1 → Some b ≡ from_one xs 2 → None ≡ from_one xs 3 → xs ≡ a ∷ (b ∷ [])
list_two [] a b e f h = cc
list_two (x ∷ []) a b e f h = cc
list_two (x ∷ (y ∷ [])) a b e f h = cc
list_two (x ∷ (y ∷ (z ∷ xs))) a b e f h = cc

pub list_three : {X : Type 0} (xs : List X) (a b c : X) → length xs ≤ 3 → Some a ≡ from_one xs 1 → Some b ≡ from_one xs 2 → Some c ≡ from_one xs 3 → xs ≡ a ∷ (b ∷ (c ∷ []))
list_three [] a b c l e f h = cc
list_three (x ∷ []) a b c l e f h = cc
list_three (x ∷ (y ∷ [])) a b c l e f h = cc
list_three (x ∷ (y ∷ (z ∷ []))) a b c l e f h = cc
list_three (x ∷ (y ∷ (z ∷ (v ∷ xs)))) a b c l e f h = absurd (omega arith)

-- argument i, as a bare phrase
pub bare_asked : (g : Grammar) (p i : ℕ) (o : Option ℕ) → o ≡ argument_at g p i → option_map (bare g) o ≡ from_one (map (bare g) (arguments_of g p)) i
bare_asked g p i o e = ap (option_map (bare g)) (e ∙ asked (production_at g p) i) ∙ sym (from_mapped (bare g) (arguments_of g p) i)

pub bare_few : (g : Grammar) → Sound g → (p : ℕ) → length (map (bare g) (arguments_of g p)) ≤ 3
bare_few g sd p = let few = few_arguments g sd p (production_at g p) refl in let n = length-map (arguments_of g p) (bare g) in omega (arith, few, n)

-- Sums over the functions and the places of a grammar, one after another.
use Rattle.std.proofs.Common.{◌≡◌, ℕ, zero, suc, ◌+◌, ◌*◌, ◌<◌, ◌≤◌, min, ltb, true, false, List, [], ◌∷◌, length, take, is_some, Some, None, sum_by, Option, unwrap_or, sym, refl, ap, ◌∙◌, arith}
use Rattle.std.proofs.lemmas.List.{take_all}
use Rattle.std.proofs.lemmas.List.Sums.{sum_by-cons}
use Rattle.std.proofs.lemmas.Bool.{ltb-true, ltb-false}
use Rattle.std.specs.List.{slice_get, range_with_len, AllByRecursion}
use Rattle.std.specs.Option.{MatchOption, option_map, option_flatten}
use Rattle.grammar.specs.Grammar.{Grammar, Function, Production, place_at, production_at, arity_at, head_of, and_then, constituent_count, constituent_at, symbol_at}
use Rattle.grammar.specs.declared.Place.{Place}
use Rattle.grammar.specs.declared.Symbol.{Symbol}
use Rattle.faults.specs.Parts.{constituents_of, symbols_of, arguments_of}
use Rattle.faults.specs.Sound.{SoundConstituent, SoundFunction, Sound}
use Rattle.soundness.specs.Totals.{constituents_in, symbols_in, arguments_in, place_arity}
use Rattle.faults.proofs.Asked.{symbol_next, constituent_next}
use Rattle.faults.proofs.Made.{arguments_few, production_sound}
use Rattle.faults.proofs.Scan.{is_some_nth}

abbrev count_at : {X : Type 0} → (X → ℕ) → Option X → ℕ
count_at f None = 0
count_at f (Some x) = f x

-- the numbers from a on, each given what f makes of the element that stands there
summed_from : {X : Type 0} (h : ℕ → ℕ) (f : X → ℕ) (xs : List X) (a n : ℕ) → ((k i : ℕ) → i ≡ a + k → h i ≡ count_at f (slice_get xs k)) → sum_by h (range_with_len a n) ≡ sum_by f (take n xs)
summed_from h f xs a zero e = refl
summed_from h f [] a (suc n) e =
    let x = sum_by-cons h a (range_with_len (a + 1) n) in
    let y = summed_from h f [] (a + 1) n (λ k i q. e (suc k) i (omega arith)) in
    omega (arith, x, y, e 0 a (omega arith), nothing n)
  where
    nothing : (n : ℕ) → sum_by f (take n []) ≡ 0
    nothing zero = refl
    nothing (suc n) = refl
summed_from h f (x ∷ xs) a (suc n) e =
    let y = sum_by-cons h a (range_with_len (a + 1) n) in
    let z = sum_by-cons f x (take n xs) in
    let w = summed_from h f xs (a + 1) n (λ k i q. e (suc k) i (omega arith)) in
    omega (arith, y, z, w, e 0 a (omega arith))

pub summed_first : {X : Type 0} (h : ℕ → ℕ) (f : X → ℕ) (xs : List X) (n : ℕ) → ((k : ℕ) → h (k + 1) ≡ count_at f (slice_get xs k)) → sum_by h (range_with_len 1 n) ≡ sum_by f (take n xs)
summed_first h f xs n e = summed_from h f xs 1 n (λ k i q. let r : i ≡ k + 1 = omega arith in ap h r ∙ e k)

pub summed : {X : Type 0} (h : ℕ → ℕ) (f : X → ℕ) (xs : List X) → ((k : ℕ) → h k ≡ count_at f (slice_get xs k)) → sum_by h (range_with_len 0 (length xs)) ≡ sum_by f xs
summed h f xs e = summed_from h f xs 0 (length xs) (λ k i q. let r : i ≡ k = omega arith in ap h r ∙ e k) ∙ ap (sum_by f) (take_all (length xs) xs (omega arith))

-- each at most m
pub few_each : (h : ℕ → ℕ) (m a n : ℕ) → ((k : ℕ) → h k ≤ m) → sum_by h (range_with_len a n) ≤ m * n
few_each h m a zero e = omega arith
few_each h m a (suc n) e =
    let x = sum_by-cons h a (range_with_len (a + 1) n) in
    let y = few_each h m (a + 1) n e in
    let z : m * suc n ≡ m + m * n = omega arith in
    omega (arith, x, y, z, e a)

-- symbol i of a constituent, from 0, is there just where i is below how many it has
symbol_there : (g : Grammar) (f l i : ℕ) → is_some (symbol_at g f l (i + 1)) ≡ ltb i (length (symbols_of g f l))
symbol_there g f l i = ap is_some (symbol_next g f l i) ∙ is_some_nth (symbols_of g f l) i

-- the first symbol that is absent, from 0, or 16 where the first 16 are there
pub symbols_before : (g : Grammar) (f l : ℕ) (r : Option ℕ)
    → MatchOption r ((k : ℕ) → 0 ≤ k → k < 16 → is_some (symbol_at g f l (k + 1)) ≡ true) (λ i. (0 ≤ i) × (i < 16) × (is_some (symbol_at g f l (i + 1)) ≡ false) × ((k : ℕ) → 0 ≤ k → k < i → is_some (symbol_at g f l (k + 1)) ≡ true)) → unwrap_or r 16 ≡ min 16 (length (symbols_of g f l))
symbols_before g f l None h =
    let a : 15 < length (symbols_of g f l) = ltb-true 15 (length (symbols_of g f l)) (sym (symbol_there g f l 15) ∙ h 15 (omega arith) (omega arith)) in
    omega arith
symbols_before g f l (Some zero) h =
    let a : length (symbols_of g f l) ≤ 0 = ltb-false 0 (length (symbols_of g f l)) (sym (symbol_there g f l 0) ∙ h.2) in
    omega arith
symbols_before g f l (Some (suc i)) h =
    let a : length (symbols_of g f l) ≤ suc i = ltb-false (suc i) (length (symbols_of g f l)) (sym (symbol_there g f l (suc i)) ∙ h.2) in
    let b : i < length (symbols_of g f l) = ltb-true i (length (symbols_of g f l)) (sym (symbol_there g f l i) ∙ h.3 i (omega arith) (omega arith)) in
    omega (arith, a, b, h.1)

pub constituent_symbols : (g : Grammar) (f l : ℕ) → min 16 (length (symbols_of g f (l + 1))) ≡ count_at (λ α. min 16 (length α)) (slice_get (constituents_of g f) l)
constituent_symbols g f l = by_constituent (constituent_at g f (l + 1)) ∙ ap (count_at (λ (α : List Symbol). min 16 (length α))) (constituent_next g f l)
  where
    by_constituent : (o : Option (List Symbol)) → min 16 (length (unwrap_or o [])) ≡ count_at (λ α. min 16 (length α)) o
    by_constituent None = refl
    by_constituent (Some α) = refl

-- the constituents of the functions
pub function_constituents : (g : Grammar) (i : ℕ) → unwrap_or (constituent_count g i) 0 ≡ count_at constituents_in (slice_get g.functions i)
function_constituents g i = by_function (slice_get g.functions i)
  where
    by_function : (x : Option Function) → unwrap_or (option_map (λ h. length h.constituents) x) 0 ≡ count_at constituents_in x
    by_function None = refl
    by_function (Some f) = refl

pub constituents_few : (g : Grammar) → Sound g → (i : ℕ) → unwrap_or (constituent_count g i) 0 ≤ 3
constituents_few g s i = omega (arith, function_constituents g i, few g.functions i s.each_function)
  where
    few : (fs : List Function) (i : ℕ) → AllByRecursion (SoundFunction g.tokens) fs → count_at constituents_in (slice_get fs i) ≤ 3
    few [] i a = omega arith
    few (f ∷ fs) zero a = a.0.count
    few (f ∷ fs) (suc i) a = few fs i a.1

-- the symbols of the functions
abbrev pub first_symbols : Grammar → ℕ → ℕ
first_symbols g f = sum_by (λ α. min 16 (length α)) (take 3 (constituents_of g f))

pub function_symbols_in : (g : Grammar) → Sound g → (i : ℕ) → first_symbols g i ≡ count_at symbols_in (slice_get g.functions i)
function_symbols_in g s i = same g.functions i s.each_function
  where
    short : (tokens arity : ℕ) (αs : List (List Symbol)) → AllByRecursion (SoundConstituent tokens arity) αs → sum_by (λ α. min 16 (length α)) αs ≡ sum_by (λ α. length α) αs
    short tokens arity [] a = refl
    short tokens arity (α ∷ αs) a =
        let x = sum_by-cons (λ (α : List Symbol). min 16 (length α)) α αs in
        let y = sum_by-cons (λ (α : List Symbol). length α) α αs in
        let z = short tokens arity αs a.1 in
        omega (arith, x, y, z, a.0.few)

    at_function : (f : Function) → SoundFunction g.tokens f → sum_by (λ α. min 16 (length α)) (take 3 f.constituents) ≡ symbols_in f
    at_function f a = ap (sum_by (λ (α : List Symbol). min 16 (length α))) (take_all 3 f.constituents a.count) ∙ short g.tokens f.arity f.constituents a.each

    same : (fs : List Function) (i : ℕ) → AllByRecursion (SoundFunction g.tokens) fs → sum_by (λ α. min 16 (length α)) (take 3 (unwrap_or (option_map (λ h. h.constituents) (slice_get fs i)) [])) ≡ count_at symbols_in (slice_get fs i)
    same [] i a = refl
    same (f ∷ fs) zero a = at_function f a.0
    same (f ∷ fs) (suc i) a = same fs i a.1

pub symbols_few : (g : Grammar) (f : ℕ) → first_symbols g f ≤ 48
symbols_few g f = few (constituents_of g f) 3
  where
    few : (αs : List (List Symbol)) (n : ℕ) → sum_by (λ α. min 16 (length α)) (take n αs) ≤ 16 * n
    few αs zero = omega arith
    few [] (suc n) = omega arith
    few (α ∷ αs) (suc n) =
        let x = sum_by-cons (λ (β : List Symbol). min 16 (length β)) α (take n αs) in
        let y = few αs n in
        omega arith

-- a filled place has as many arguments as its function takes
arity_is : (g : Grammar) → Sound g → (p : ℕ) → place_arity g p ≡ length (arguments_of g p)
arity_is g s p = by_production (production_at g p) refl
  where
    by_production : (o : Option Production) → production_at g p ≡ o → unwrap_or (and_then (option_map head_of o) (λ x. arity_at g x.function)) 0 ≡ length (unwrap_or (option_map (λ q. q.arguments) o) [])
    by_production None e = refl
    by_production (Some q) e =
        let t = production_sound g s p q e in
        ap (λ (y : Option Function). unwrap_or (option_map (λ h. h.arity) y) 0) t.function ∙ sym t.arguments

pub place_summand : (g : Grammar) → Sound g → (p : ℕ) (x : Place) (r : ℕ) (o : Option ℕ) → Some x ≡ place_at g p → o ≡ arity_at g x.function → r ≡ unwrap_or o 0 → r ≡ length (arguments_of g p)
place_summand g s p x r o h e v = v ∙ (ap (λ (y : Option ℕ). unwrap_or y 0) (e ∙ ap (λ y. and_then y (λ z. arity_at g z.function)) h) ∙ arity_is g s p)

-- the arguments of the places
pub place_arguments_in : (g : Grammar) → Sound g → (i : ℕ) → place_arity g i ≡ count_at arguments_in (slice_get g.places i)
place_arguments_in g s i = arity_is g s i ∙ by_place (slice_get g.places i)
  where
    by_place : (x : Option (Option Production)) → length (unwrap_or (option_map (λ q. q.arguments) (option_flatten x)) []) ≡ count_at arguments_in x
    by_place None = refl
    by_place (Some None) = refl
    by_place (Some (Some q)) = refl

pub place_few : (g : Grammar) → Sound g → (i : ℕ) → place_arity g i ≤ 3
place_few g s i = omega (arith, arity_is g s i, few (production_at g i) (λ q k. arguments_few g s i q k))
  where
    few : (x : Option Production) → ((q : Production) → x ≡ Some q → length q.arguments ≤ 3) → length (unwrap_or (option_map (λ q. q.arguments) x) []) ≤ 3
    few None k = omega arith
    few (Some q) k = k q refl

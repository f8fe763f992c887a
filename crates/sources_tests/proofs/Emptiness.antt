-- The first empty place of a list, from what is known of the places before it. Assumes nothing.
use Rattle.std.proofs.Common.{◌≡◌, ℕ, zero, suc, ◌+◌, ◌<◌, ◌≤◌, List, [], ◌∷◌, length, is_some, true, false, Some, None, Option, Bool, sym, refl, ap, ◌∙◌, arith}
use Rattle.std.specs.Option.{option_map, option_flatten, MatchOption}
use Rattle.std.specs.List.{slice_get}
use Rattle.std.proofs.lemmas.Bool.{true≢false, false≢true}
use Rattle.grammar.specs.Grammar.{Production, head_of}
use Rattle.sources_tests.specs.Empty.{first_empty}

-- Whether place i is filled.
abbrev pub filled : List (Option Production) → ℕ → Bool
filled ps i = is_some (option_map head_of (option_flatten (slice_get ps i)))

pub at_empty : (ps : List (Option Production)) (i n : ℕ) → i < length ps → filled ps i ≡ false
    → ((k : ℕ) → k < i → filled ps k ≡ true) → first_empty n ps ≡ Some (n + i)
at_empty [] i n h e before = absurd (omega arith)
at_empty (None ∷ ps) zero n h e before = ap Some (omega arith)
at_empty (Some q ∷ ps) zero n h e before = absurd (true≢false e)
at_empty (None ∷ ps) (suc i) n h e before = absurd (false≢true (before 0 (omega arith)))
at_empty (Some q ∷ ps) (suc i) n h e before =
    at_empty ps i (suc n) (omega arith) e (λ k l. before (suc k) (omega arith)) ∙ ap Some (omega arith)

pub all_filled : (ps : List (Option Production)) (n : ℕ) → ((k : ℕ) → k < length ps → filled ps k ≡ true) → first_empty n ps ≡ None
all_filled [] n each = refl
all_filled (None ∷ ps) n each = absurd (false≢true (each 0 (omega arith)))
all_filled (Some q ∷ ps) n each = all_filled ps (suc n) (λ k l. each (suc k) (omega arith))

-- What a search through the numbers below n answers, where there are n places.
pub found : (ps : List (Option Production)) (n : ℕ) (r : Option ℕ) → n ≡ length ps
    → MatchOption r ((k : ℕ) → 0 ≤ k → k < n → filled ps k ≡ true)
    (λ i. (0 ≤ i) × (i < n) × (filled ps i ≡ false) × ((k : ℕ) → 0 ≤ k → k < i → filled ps k ≡ true))
    → r ≡ first_empty 0 ps
found ps n None e m = sym (all_filled ps 0 (λ k l. m k (omega arith) (omega arith)))
found ps n (Some i) e m = sym (at_empty ps i 0 (omega (arith, m.1)) m.2 (λ k l. m.3 k (omega arith) l) ∙ ap Some (omega arith))

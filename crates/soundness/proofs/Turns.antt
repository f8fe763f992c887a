-- The turns of a round, one for each place.
use Rattle.std.proofs.Common.{◌≡◌, ℕ, ◌+◌, ◌<◌, ◌≤◌, Bool, true, false, List, length, get_or, set, Some, None, sym, ap, ◌∙◌, subst, arith}
use Rattle.std.proofs.lemmas.List.{take_all}
use Rattle.std.proofs.lemmas.Bool.{false≢true}
use Rattle.grammar.specs.Grammar.{Grammar}
use Rattle.soundness.specs.Heights.{LeastHeights}
use Rattle.soundness.specs.Rounds.{late_in, Finds, Begun, During, Round, found_count, one_if}
use Rattle.faults.specs.Sound.{Sound}
use Rattle.faults.specs.Tests.{some_of}
use Rattle.soundness.proofs.Growth.{earlier_all, all_earlier, during_none, during_same, during_found, begun_next, closed_last, closed_all, count_set, least_from_closed}
use Rattle.faults.proofs.Made.{result_inside, arguments_few}

-- within round r, after n places; hs₀ is what the round began with, and `any` says whether it has found a category
abbrev pub Turn : Grammar → ℕ → ℕ → List ℕ → List ℕ → Bool → Type 0
Turn g r n hs₀ hs any = During g r n hs × (found_count hs₀ + one_if any ≤ found_count hs) × (any ≡ false → (c : ℕ) → get_or hs c 0 < r)

pub turn_first : (g : Grammar) (r : ℕ) (hs : List ℕ) → Begun g r hs → Turn g r 0 hs hs false
turn_first g r hs b = (during_none g r hs b, omega arith, λ e. b.before)

pub turn_found : (g : Grammar) (r p c : ℕ) (hs₀ hs hs' : List ℕ) (any any' : Bool) → Sound g → 0 < r → Turn g r p hs₀ hs any → Finds g hs r p (Some c) → hs' ≡ set hs c r → any' ≡ true → Turn g r (p + 1) hs₀ hs' any'
turn_found g r p c hs₀ hs hs' any any' s pos t f eh ea =
    let few = arguments_few g s p f.0 f.1 in
    let early = earlier_all hs r f.0.arguments (sym (ap (some_of (late_in hs r)) (take_all 3 f.0.arguments few)) ∙ f.5) in
    let d = during_found g r p c hs f.0 t.0 pos f.1 f.2 f.3 f.4 early in
    let more : found_count hs₀ + one_if any' ≤ found_count hs' = omega (arith, ap one_if ea, ap found_count eh, count_set hs c r f.3 f.4 pos, t.1) in
    (subst (During g r (p + 1)) (sym eh) d, more, λ e. absurd (false≢true (sym e ∙ ea)))

pub turn_none : (g : Grammar) (r p : ℕ) (hs₀ hs hs' : List ℕ) (any any' : Bool) → Sound g → length hs ≡ 64 → Turn g r p hs₀ hs any → Finds g hs r p None → hs' ≡ hs → any' ≡ any → Turn g r (p + 1) hs₀ hs' any'
turn_none g r p hs₀ hs hs' any any' s n t f eh ea =
    let d : During g r (p + 1) hs =
    during_same g r p hs t.0
    (λ q e a. f q e (omega (arith, result_inside g s p q e)) (ap (some_of (late_in hs r)) (take_all 3 q.arguments (arguments_few g s p q e)) ∙ all_earlier hs r q.arguments a)) in
    let more : found_count hs₀ + one_if any' ≤ found_count hs' = omega (arith, ap one_if ea, ap found_count eh, t.1) in
    (subst (During g r (p + 1)) (sym eh) d, more, λ e. subst (λ (xs : List ℕ). (c : ℕ) → get_or xs c 0 < r) (sym eh) (t.2 (sym ea ∙ e)))

pub turn_last : (g : Grammar) (r n : ℕ) (hs₀ hs : List ℕ) (any : Bool) → n ≡ length g.places → Turn g r n hs₀ hs any → Round g r hs₀ hs any
turn_last g r n hs₀ hs any e t =
    let d = subst (λ (m : ℕ). During g r m hs) e t.0 in
    record {
      next = begun_next g r hs d;
      more = t.1;
      last = λ none. closed_last g r hs d (t.2 none);
    }

-- the last round found nothing
pub least_at_last : (g : Grammar) (r : ℕ) (hs₀ hs : List ℕ) (any : Bool) → Round g r hs₀ hs any → any ≡ false → LeastHeights g hs
least_at_last g r hs₀ hs any w e = least_from_closed g (r + 1) hs w.next (w.last e)

-- as many rounds as there are categories, each of which found one
pub least_at_all : (g : Grammar) (r : ℕ) (hs : List ℕ) → Sound g → Begun g r hs → length hs ≡ 64 → r ≤ found_count hs + 1 → 64 < r → LeastHeights g hs
least_at_all g r hs s b n c l = least_from_closed g r hs b (closed_all g hs (λ p q e. omega (arith, result_inside g s p q e)) (omega arith))

-- Tests of the elements of a list, one after another.
use Rattle.std.proofs.Common.{◌≡◌, ℕ, zero, suc, ◌+◌, ◌-◌, Bool, true, false, ◌||◌, ltb, List, [], ◌∷◌, length, take, ◌<◌, ◌≤◌, get_or, is_some, Some, None, Option, unwrap_or, MatchBool, MatchOption, sym, refl, ap, ◌∙◌, subst, true≢false, add-one, arith}
use Rattle.std.proofs.lemmas.Bool.{or_parts, or_from, lt-ltb, le-ltb, ltb-false}
use Rattle.std.proofs.lemmas.Bool.Decides.{nat_tests}
use Rattle.std.specs.List.{slice_get, range_with_len, list_any, AllWithin, HoldsAt, FoldsTo}
use Rattle.std.specs.Iterator.{AlwaysYields, ChecksAny, YieldsThen}
use Rattle.std.specs.Borrow.{Bor}
use Rattle.std.specs.Fn.{Called, CalledAt}
use Rattle.std.specs.Range.{range_inclusive_start, range_inclusive_end, range_inclusive_exhausted, range_inclusive_len}
use Rattle.std.specs.declared.ops.RangeInclusive.{RangeInclusive}
use Rattle.std.proofs.lemmas.Iterator.{YieldsList, cases_from_any, first_from_Range}
use Rattle.std.specs.declared.ops.Range.{Range}
use Rattle.std.proofs.lemmas.List.FromFn.{get_or-range_with_len, length-range_with_len}
use Rattle.std.proofs.lemmas.Option.{slice_get_within, same_Some}
use Rattle.std.proofs.lemmas.Grind.{common_steps}
use Rattle.std.proofs.lemmas.Iterator.Search.{any_from_yields_List}
use Rattle.std.proofs.iter.Yields.{nat_range_steps}
use Rattle.std.proofs.iter.runs.Sources.{nat_range_inclusive_steps}
use denote.Param.Members.{Mut}
use Rattle.grammar.specs.Grammar.{from_one}
use Rattle.faults.specs.Tests.{some_of, there_and, SomePasses}

pub some_nil : {X : Type 0} (p : X → Bool) (n : ℕ) → some_of p (take n []) ≡ false
some_nil p zero = refl
some_nil p (suc n) = refl

-- what stands at i is there just where i is below the length
pub is_some_nth : {X : Type 0} (xs : List X) (i : ℕ) → is_some (slice_get xs i) ≡ ltb i (length xs)
is_some_nth [] i = sym (le-ltb i 0 (omega arith))
is_some_nth (x ∷ xs) zero = sym (lt-ltb 0 (suc (length xs)) (omega arith))
is_some_nth (x ∷ xs) (suc i) = is_some_nth xs i ∙ ltb_suc i (length xs)
  where
    ltb_suc : (a b : ℕ) → ltb a b ≡ ltb (suc a) (suc b)
    ltb_suc a b = grind (arith, nat_tests)

pub from_one_next : {X : Type 0} (xs : List X) (i : ℕ) → from_one xs (i + 1) ≡ slice_get xs i
from_one_next xs i = rw add-one refl

pub there_first : {X : Type 0} (p : X → Bool) (n : ℕ) (o : Option (List X)) → some_of p (take n (unwrap_or o [])) ≡ there_and (λ α. some_of p (take n α)) o
there_first p n None = some_nil p n
there_first p n (Some α) = refl

-- two tests that agree where a third fails
pub some_within : {X : Type 0} (p q over : X → Bool) → ((x : X) → over x ≡ false → p x ≡ q x) → (xs : List X) → some_of over xs ≡ false → some_of p xs ≡ some_of q xs
some_within p q over agree [] h = refl
some_within p q over agree (x ∷ xs) h =
    let b = or_parts (over x) (some_of over xs) h in
    ap (λ (t : Bool). t || some_of p xs) (agree x b.0) ∙ ap (λ (t : Bool). q x || t) (some_within p q over agree xs b.1)

-- `a..=b`, of which nothing was taken yet, gives n numbers from a on
pub YieldsList-from_inclusive : {s : RangeInclusive ℕ} (a n : ℕ) → range_inclusive_start s ≡ a → range_inclusive_end s + 1 ≡ a + n → range_inclusive_exhausted s ≡ false → YieldsList nat_range_inclusive_steps (λ x. x) s (range_with_len a n)
YieldsList-from_inclusive {s} a n e l z = record { runs = gives s a n e l z }
  where
    left : RangeInclusive ℕ → ℕ
    left s = range_inclusive_len (λ x y. y - x) (range_inclusive_start s) (range_inclusive_end s) (range_inclusive_exhausted s)

    fresh : (s : RangeInclusive ℕ) → range_inclusive_exhausted s ≡ false → left s ≡ range_inclusive_end s + 1 - range_inclusive_start s
    fresh s z = omega (arith, ap (range_inclusive_len (λ x y. y - x) (range_inclusive_start s) (range_inclusive_end s)) z)

    spent : (s : RangeInclusive ℕ) → range_inclusive_exhausted s ≡ true → left s ≡ 0
    spent s z = ap (range_inclusive_len (λ x y. y - x) (range_inclusive_start s) (range_inclusive_end s)) z

    gives : (s : RangeInclusive ℕ) (a n : ℕ) → range_inclusive_start s ≡ a → range_inclusive_end s + 1 ≡ a + n → range_inclusive_exhausted s ≡ false → AlwaysYields nat_range_inclusive_steps (λ x. x) s (range_with_len a n)
    gives s a zero e l z = λ x j p. omega (arith, fresh s z, e, l, p.1.1)
    gives s a (suc n) e l z = (
      (λ j p. omega (arith, fresh s z, e, l, p.1.0)),
      λ x j p. (
        omega (arith, p.1.0, e),
        next j n (range_inclusive_exhausted j) refl (omega (arith, p.1.1, fresh s z, e, l)) (λ f. gives j (a + 1) n (omega (arith, p.1.2 f, e)) (omega (arith, p.0, l)) f),
      ),
    )
      where
        next : (j : RangeInclusive ℕ) (n : ℕ) (b : Bool) → range_inclusive_exhausted j ≡ b → left j ≡ n → (range_inclusive_exhausted j ≡ false → AlwaysYields nat_range_inclusive_steps (λ x. x) j (range_with_len (a + 1) n)) → AlwaysYields nat_range_inclusive_steps (λ x. x) j (range_with_len (a + 1) n)
        next j n false z m more = more z
        next j zero true z m more = λ x k p. omega (arith, spent j z, p.1.1)
        next j (suc n) true z m more = absurd (omega (arith, spent j z, m))

-- each number from a on, asked whether what stands there passes
asked_from : {X : Type 0} (test : ℕ → Bool) (p : X → Bool) (xs : List X) (a n : ℕ) → ((k i : ℕ) → i ≡ a + k → test i ≡ there_and p (slice_get xs k)) → list_any test (range_with_len a n) ≡ some_of p (take n xs)
asked_from test p xs a zero h = refl
asked_from test p [] a (suc n) h = or_from (test a) (list_any test (range_with_len (a + 1) n)) (h 0 a (omega arith)) (asked_from test p [] (a + 1) n (λ k i e. h (suc k) i (omega arith)) ∙ some_nil p n)
asked_from test p (x ∷ xs) a (suc n) h =
    ap (λ (t : Bool). t || list_any test (range_with_len (a + 1) n)) (h 0 a (omega arith))
    ∙ ap (λ (t : Bool). p x || t) (asked_from test p xs (a + 1) n (λ k i e. h (suc k) i (omega arith)))

-- `any` over `1..=n` says whether one of the first n elements passes, where the closure asks it of the element at each number
pub any_of_first : {X F : Type 0} {g : Mut F (ℕ × Unit {0}) Bool} {s : RangeInclusive ℕ} (p : X → Bool) (xs : List X) (n : ℕ) (test : ℕ → Bool) (u : RangeInclusive ℕ) (f : F) (r : Bool)
    → ChecksAny nat_range_inclusive_steps g s f r u → range_inclusive_start s ≡ 1 → range_inclusive_end s ≡ n → range_inclusive_exhausted s ≡ false
    → ((x : ℕ) (b : Bool) (q : F) → Called g f (x, tt) b q → (q ≡ f) × (b ≡ test x)) → ((k : ℕ) → test (k + 1) ≡ there_and p (slice_get xs k)) → r ≡ some_of p (take n xs)
any_of_first p xs n test u f r ran a b z calls at =
    any_from_yields_List test u f r ran (YieldsList-from_inclusive 1 n a (omega (arith, b)) z) calls
    ∙ asked_from test p xs 1 n (λ k i e. let h : i ≡ k + 1 = omega arith in ap test h ∙ at k)

taken_at : {X : Type 0} (n : ℕ) (xs : List X) (i : ℕ) → i < n → slice_get (take n xs) i ≡ slice_get xs i
taken_at zero xs i l = absurd (omega arith)
taken_at (suc n) [] i l = refl
taken_at (suc n) (x ∷ xs) zero l = refl
taken_at (suc n) (x ∷ xs) (suc i) l = taken_at n xs i (omega arith)

taken_below : {X : Type 0} (n : ℕ) (xs : List X) (i : ℕ) (x : X) → slice_get (take n xs) i ≡ Some x → i < n
taken_below n xs i x e = let l = slice_get_within (take n xs) i x e in grind (arith, common_steps)

-- `any` over `1..=n` tells what the first n elements answered, where the closure asks the element at each number
pub any_asks_first : {X F : Type 0} {g : Mut F (ℕ × Unit {0}) Bool} {s : RangeInclusive ℕ} (answers : X → Bool → Type 0) (xs : List X) (n : ℕ) (at : ℕ → Option X) (u : RangeInclusive ℕ) (f : F) (r : Bool)
    → ChecksAny nat_range_inclusive_steps g s f r u → range_inclusive_start s ≡ 1 → range_inclusive_end s ≡ n → range_inclusive_exhausted s ≡ false
    → ((i : ℕ) (b : Bool) (q : F) → Called g f (i, tt) b q → (q ≡ f) × MatchOption (at i) (b ≡ false) (λ x. answers x b))
    → ((k : ℕ) → at (k + 1) ≡ slice_get xs k) → SomePasses answers (take n xs) r
any_asks_first {X} answers xs n at u f r ran a b z calls places =
    by_answer r (cases_from_any u f r Yes No ran (YieldsList-from_inclusive 1 n a (omega (arith, b)) z)
    (λ i q k. passes (at i) (calls i true q k).1) (λ i q k. let h = calls i false q k in (h.0, fails (at i) h.1)))
  where
    Yes : ℕ → Type 0
    Yes i = (x : X) × (at i ≡ Some x) × answers x true

    No : ℕ → Type 0
    No i = (x : X) → at i ≡ Some x → answers x false

    passes : (o : Option X) → MatchOption o (true ≡ false) (λ x. answers x true) → (x : X) × (o ≡ Some x) × answers x true
    passes None h = absurd (true≢false h)
    passes (Some x) h = (x, refl, h)

    fails : (o : Option X) → MatchOption o (false ≡ false) (λ x. answers x false) → (x : X) → o ≡ Some x → answers x false
    fails None h x e = let z : ◌≡◌ {A = ℕ} 0 1 = cc in absurd (omega arith)
    fails (Some y) h x e = let s : y ≡ x = cc in subst (λ x. answers x false) s h

    number : (k : ℕ) → k < n → get_or (range_with_len 1 n) k 0 ≡ k + 1
    number k l = omega (arith, get_or-range_with_len 1 n k 0 l)

    by_answer : (r : Bool) → MatchBool r ((k : ℕ) × (k < length (range_with_len 1 n)) × HoldsAt Yes (range_with_len 1 n) k) (AllWithin No (range_with_len 1 n) 0 (length (range_with_len 1 n))) → SomePasses answers (take n xs) r
    by_answer true h =
        let l : h.0 < n = omega (arith, h.1, length-range_with_len 1 n) in
        let y = subst Yes (number h.0 l) (h.2 0) in
        record { passed = λ e. (h.0, y.0, taken_at n xs h.0 l ∙ (sym (places h.0) ∙ y.1), y.2); failed = λ e. absurd (true≢false e) }
    by_answer false h = record {
      passed = λ e. absurd (true≢false (sym e));
      failed = λ e i x t.
          let l = taken_below n xs i x t in
          subst No (number i l) (h i 0 (omega arith) (omega (arith, l, length-range_with_len 1 n))) x (places i ∙ (sym (taken_at n xs i l) ∙ t));
    }

or_true : (b : Bool) → b || true ≡ true
or_true true = refl
or_true false = refl

-- where whatever is answered is what a test says, whether some element passes is what the test says of the list
pub some_by : {X : Type 0} {answers : X → Bool → Type 0} (p : X → Bool) → ((x : X) (b : Bool) → answers x b → b ≡ p x) → (xs : List X) (r : Bool) → SomePasses answers xs r → r ≡ some_of p xs
some_by {X} p told xs true s = let h = s.passed refl in sym (some_true xs h.0 h.1 h.2 (sym (told h.1 true h.3)))
  where
    some_true : (xs : List X) (i : ℕ) (x : X) → slice_get xs i ≡ Some x → p x ≡ true → some_of p xs ≡ true
    some_true [] i x e h = let z : ◌≡◌ {A = ℕ} 0 1 = cc in absurd (omega arith)
    some_true (y ∷ ys) zero x e h = let t : p y ≡ true = cc in ap (λ (b : Bool). b || some_of p ys) t
    some_true (y ∷ ys) (suc i) x e h = ap (λ (b : Bool). p y || b) (some_true ys i x e h) ∙ or_true (p y)
some_by {X} p told xs false s = sym (some_false xs (λ i x e. sym (told x false (s.failed refl i x e))))
  where
    some_false : (xs : List X) → ((i : ℕ) (x : X) → slice_get xs i ≡ Some x → p x ≡ false) → some_of p xs ≡ false
    some_false [] h = refl
    some_false (x ∷ xs) h = or_from (p x) (some_of p xs) (h 0 x refl) (some_false xs (λ i. h (suc i)))

-- the same of lists in a list, of each of which the first n elements are asked
pub some_by_each : {X : Type 0} {answers : X → Bool → Type 0} (p : X → Bool) → ((x : X) (b : Bool) → answers x b → b ≡ p x) → (n : ℕ) (lists : List (List X)) (r : Bool) → SomePasses (λ xs. SomePasses answers (take n xs)) lists r → r ≡ some_of (λ xs. some_of p (take n xs)) lists
some_by_each p told n lists r s = some_by (λ xs. some_of p (take n xs)) (λ xs b t. some_by p told (take n xs) b t) lists r s

-- It is there, and was answered with false; or it is absent, or was answered with true.
abbrev pub Fails : {X : Type 0} → (X → Bool → Type 0) → Option X → Type 0
Fails {X} answers o = (x : X) × (o ≡ Some x) × answers x false

abbrev pub Stops : {X : Type 0} → (X → Bool → Type 0) → Option X → Type 0
Stops answers o = MatchOption o (Unit {0}) (λ x. answers x true)

-- the first element that stops, of the first n, tells whether some passes: it is there
pub any_until : {X : Type 0} (answers : X → Bool → Type 0) (xs : List X) (n : ℕ) (at : ℕ → Option X) → ((k : ℕ) → at (k + 1) ≡ slice_get xs k) → (r : Option ℕ) (b : Bool)
    → MatchOption r ((k : ℕ) → 0 ≤ k → k < n → Fails answers (at (k + 1))) (λ i. (0 ≤ i) × (i < n) × Stops answers (at (i + 1)) × ((k : ℕ) → 0 ≤ k → k < i → Fails answers (at (k + 1))))
    → MatchOption r (b ≡ false) (λ i. b ≡ is_some (at (i + 1))) → SomePasses answers (take n xs) b
any_until {X} answers xs n at places None b first told = none_passes b told
    (λ i x t. let l = taken_below n xs i x t in failed_at i x (first i (omega arith) l) (sym (taken_at n xs i l) ∙ t))
  where
    failed_at : (i : ℕ) (x : X) → Fails answers (at (i + 1)) → slice_get xs i ≡ Some x → answers x false
    failed_at i x h t = let same : h.0 ≡ x = same_Some h.0 x (sym h.1 ∙ (places i ∙ t)) in subst (λ y. answers y false) same h.2

    none_passes : (b : Bool) → b ≡ false → ((i : ℕ) (x : X) → slice_get (take n xs) i ≡ Some x → answers x false) → SomePasses answers (take n xs) b
    none_passes b e h = record { passed = λ t. absurd (true≢false (sym t ∙ e)); failed = λ f i x t. h i x t }
any_until {X} answers xs n at places (Some i) b first told = stopped (at (i + 1)) refl (first.2) told
  where
    failed_at : (j : ℕ) (x : X) → Fails answers (at (j + 1)) → slice_get xs j ≡ Some x → answers x false
    failed_at j x h t = let same : h.0 ≡ x = same_Some h.0 x (sym h.1 ∙ (places j ∙ t)) in subst (λ y. answers y false) same h.2

    before : (j : ℕ) (x : X) → None ≡ slice_get xs i → slice_get xs j ≡ Some x → j < i
    before j x gone t = let inside = slice_get_within xs j x t in let end = ltb-false i (length xs) (sym (is_some_nth xs i) ∙ ap is_some (sym gone)) in omega (arith, inside, end)

    stopped : (o : Option X) → at (i + 1) ≡ o → Stops answers o → b ≡ is_some (at (i + 1)) → SomePasses answers (take n xs) b
    stopped None e s h = record {
      passed = λ t. absurd (true≢false (sym t ∙ (h ∙ ap is_some e)));
      failed = λ f j x t.
          let l = taken_below n xs j x t in
          let there = sym (taken_at n xs j l) ∙ t in
          failed_at j x (first.3 j (omega arith) (before j x (sym e ∙ places i) there)) there;
    }
    stopped (Some x) e s h = record {
      passed = λ t. (i, x, taken_at n xs i first.1 ∙ (sym (places i) ∙ e), s);
      failed = λ f. absurd (true≢false (sym (h ∙ ap is_some e) ∙ f));
    }

-- `find` over `0..n` for the first element that stops, and whether that one is there
pub any_found : {X F : Type 0} {g : Mut F (Bor ℕ × Unit {0}) Bool} (answers : X → Bool → Type 0) (xs : List X) (n : ℕ) (at : ℕ → Option X) → ((k : ℕ) → at (k + 1) ≡ slice_get xs k) → (u : Range ℕ) (f : F) (r : Option ℕ) (b : Bool)
    → (ys : List ℕ) × (j : F) × YieldsThen nat_range_steps (record { start = 0; end = n }) ys r u × FoldsTo (λ p x q. CalledAt g p x false q) f ys j × MatchOption r (Unit {0}) (λ x. (h : F) × CalledAt g j x true h)
    → ((x : ℕ) (q : F) → CalledAt g f x true q → Stops answers (at (x + 1))) → ((x : ℕ) (q : F) → CalledAt g f x false q → (q ≡ f) × Fails answers (at (x + 1)))
    → MatchOption r (b ≡ false) (λ i. b ≡ is_some (at (i + 1))) → SomePasses answers (take n xs) b
any_found answers xs n at places u f r b ran stop fail told =
    any_until answers xs n at places r b (first_from_Range (record { start = 0; end = n }) u f r (λ i. Stops answers (at (i + 1))) (λ i. Fails answers (at (i + 1))) ran stop fail) told

-- The rounds that find the least heights.
use Rattle.std.proofs.Common.{◌≡◌, ℕ, zero, suc, ◌+◌, ◌<◌, ◌≤◌, max, false, eqb, leb, ◌⊎◌, List, [], ◌∷◌, length, get_or, set, replicate, Some, sym, refl, ap, ◌∙◌, subst, inl, inr, ⊎_elim, arith}
use Rattle.std.proofs.lemmas.List.{get_or-set_same, get_or-set_other}
use Rattle.std.proofs.lemmas.Bool.{cases_lt, cases_eq, or_parts, or_from, eqb-false, leb-false, ne_eqb, lt-leb}
use Rattle.std.specs.List.{AllByRecursion}
use Rattle.grammar.specs.Grammar.{Grammar, Production, production_at}
use Rattle.grammar.specs.Trees.{Tree, Trees, node, none, more, TreeOf, TreesOf, height, heights}
use Rattle.soundness.specs.Heights.{LeastHeights}
use Rattle.soundness.specs.Rounds.{late_in, Found, Earlier, Begun, During, Closed, found_count}
use Rattle.faults.specs.Tests.{some_of}
use Rattle.faults.proofs.Asked.{same_some, none_some}
use Rattle.std.proofs.lemmas.Option.{slice_get_past}
use Rattle.std.specs.Option.{option_flatten}

-- the test of the code, and what it says
pub earlier_all : (hs : List ℕ) (r : ℕ) (cs : List ℕ) → some_of (late_in hs r) cs ≡ false → AllByRecursion (Earlier hs r) cs
earlier_all hs r [] h = tt
earlier_all hs r (c ∷ cs) h =
    let a = or_parts (late_in hs r c) (some_of (late_in hs r) cs) h in
    let b = or_parts (eqb (get_or hs c 0) 0) (leb r (get_or hs c 0)) a.0 in
    let n = eqb-false (get_or hs c 0) 0 b.0 in
    let pos : 0 < get_or hs c 0 = omega arith in
    ((pos, leb-false r (get_or hs c 0) b.1), earlier_all hs r cs a.1)

pub all_earlier : (hs : List ℕ) (r : ℕ) (cs : List ℕ) → AllByRecursion (Earlier hs r) cs → some_of (late_in hs r) cs ≡ false
all_earlier hs r [] h = refl
all_earlier hs r (c ∷ cs) h =
    or_from (late_in hs r c) (some_of (late_in hs r) cs)
    (or_from (eqb (get_or hs c 0) 0) (leb r (get_or hs c 0)) (ne_eqb (get_or hs c 0) 0 (λ e. omega (arith, h.0.0))) (lt-leb r (get_or hs c 0) h.0.1))
    (all_earlier hs r cs h.1)

-- trees for arguments that were found before
build : (g : Grammar) (r n : ℕ) (hs : List ℕ) → During g r n hs → 0 < r → (cs : List ℕ) → AllByRecursion (Earlier hs r) cs → (ts : Trees) × TreesOf g ts cs × (heights ts < r)
build g r n hs d pos [] h = (none, tt, pos)
build g r n hs d pos (c ∷ cs) h =
    let t = d.trees c h.0.0 in
    let ts = build g r n hs d pos cs h.1 in
    let low : max (height t.0) (heights ts.0) < r = omega (arith, t.2, ts.2, h.0.1) in
    (more t.0 ts.0, (t.1, ts.1), low)

-- arguments of low trees were found before
earlier_trees : (g : Grammar) (r n : ℕ) (hs : List ℕ) → During g r n hs → (ts : Trees) (cs : List ℕ) → TreesOf g ts cs → heights ts < r → AllByRecursion (Earlier hs r) cs
earlier_trees g r n hs d none [] us low = tt
earlier_trees g r n hs d none (c ∷ cs) us low = absurd us
earlier_trees g r n hs d (more t ts) [] us low = absurd us
earlier_trees g r n hs d (more t ts) (c ∷ cs) us low =
    let a : height t < r = omega arith in
    let b : heights ts < r = omega arith in
    let f = d.below t c us.0 a in
    ((f.0, omega (arith, f.1)), earlier_trees g r n hs d ts cs us.1 b)

mutual
  found_tree : (g : Grammar) (hs : List ℕ) → Closed g hs → (t : Tree) (c : ℕ) → TreeOf g t c → Found hs c
  found_tree g hs k (node p ts) c u = subst (Found hs) u.2 (k p u.0 u.1 (found_trees g hs k ts u.0.arguments u.3))

  found_trees : (g : Grammar) (hs : List ℕ) → Closed g hs → (ts : Trees) (cs : List ℕ) → TreesOf g ts cs → AllByRecursion (Found hs) cs
  found_trees g hs k none [] us = tt
  found_trees g hs k none (c ∷ cs) us = absurd us
  found_trees g hs k (more t ts) [] us = absurd us
  found_trees g hs k (more t ts) (c ∷ cs) us = (found_tree g hs k t c us.0, found_trees g hs k ts cs us.1)

-- where nothing is left to find, the heights are the least
pub least_from_closed : (g : Grammar) (r : ℕ) (hs : List ℕ) → Begun g r hs → Closed g hs → LeastHeights g hs
least_from_closed g r hs b k c =
    record {
      none = λ z t u. omega (arith, z, found_tree g hs k t c u);
      some = λ pos. b.trees c pos;
      least = λ pos t u.
          ⊎_elim (λ (low : height t < r). (b.below t c u low).1) (λ (high : r ≤ height t). omega (arith, b.before c, high)) (cases_lt (height t) r);
    }

-- a round begins
pub during_none : (g : Grammar) (r : ℕ) (hs : List ℕ) → Begun g r hs → During g r 0 hs
during_none g r hs b =
    record {
      upto = λ c. omega (arith, b.before c);
      trees = b.trees;
      below = b.below;
      passed = λ p q l. absurd (omega arith);
    }

-- a place that finds nothing
pub during_same : (g : Grammar) (r p : ℕ) (hs : List ℕ) → During g r p hs → ((q : Production) → production_at g p ≡ Some q → AllByRecursion (Earlier hs r) q.arguments → Found hs q.result) → During g r (p + 1) hs
during_same g r p hs d here =
    record {
      upto = d.upto;
      trees = d.trees;
      below = d.below;
      passed = λ p' q l e a.
          ⊎_elim (λ (same : p' ≡ p). here q (ap (production_at g) (sym same) ∙ e) a) (λ (other : p' ≡ p → ⊥). d.passed p' q (omega arith) e a) (cases_eq p' p);
    }

-- a place that finds its result
found_at : (hs : List ℕ) (c r k : ℕ) → c < length hs → ((get_or (set hs c r) k 0 ≡ r) × (k ≡ c)) ⊎ ((get_or (set hs c r) k 0 ≡ get_or hs k 0) × (k ≡ c → ⊥))
found_at hs c r k l =
    ⊎_elim
    (λ (e : k ≡ c). inl (ap (λ (i : ℕ). get_or (set hs c r) i 0) e ∙ get_or-set_same hs c r 0 l, e))
    (λ (n : k ≡ c → ⊥). inr (get_or-set_other hs c k r 0 n, n))
    (cases_eq k c)

grown : (g : Grammar) (r p c : ℕ) (hs : List ℕ) (q : Production) → During g r p hs → 0 < r → production_at g p ≡ Some q → q.result ≡ c → get_or hs c 0 ≡ 0 → AllByRecursion (Earlier hs r) q.arguments → (t : Tree) × TreeOf g t c × (height t ≡ r)
grown g r p c hs q d pos e k z a =
    let ts = build g r p hs d pos q.arguments a in
    let t = node p ts.0 in
    let u : TreeOf g t c = (q, e, k, ts.1) in
    let low : height t ≤ r = omega (arith, ts.2) in
    let high : r ≤ height t =
    ⊎_elim (λ (l : height t < r). absurd (omega (arith, z, (d.below t c u l).0))) (λ (l : r ≤ height t). l) (cases_lt (height t) r) in
    (t, u, omega arith)

earlier_back : (hs : List ℕ) (c r : ℕ) → c < length hs → (cs : List ℕ) → AllByRecursion (Earlier (set hs c r) r) cs → AllByRecursion (Earlier hs r) cs
earlier_back hs c r l [] a = tt
earlier_back hs c r l (k ∷ cs) a = (
  ⊎_elim (λ (h : (get_or (set hs c r) k 0 ≡ r) × (k ≡ c)). absurd (omega (arith, h.0, a.0.1)))
      (λ (h : (get_or (set hs c r) k 0 ≡ get_or hs k 0) × (k ≡ c → ⊥)). (omega (arith, h.0, a.0.0), omega (arith, h.0, a.0.1)))
      (found_at hs c r k l),
  earlier_back hs c r l cs a.1,
)

still_found : (hs : List ℕ) (c r k : ℕ) → c < length hs → 0 < r → Found hs k → Found (set hs c r) k
still_found hs c r k l pos f =
    ⊎_elim (λ (h : (get_or (set hs c r) k 0 ≡ r) × (k ≡ c)). omega (arith, h.0)) (λ (h : (get_or (set hs c r) k 0 ≡ get_or hs k 0) × (k ≡ c → ⊥)). omega (arith, h.0)) (found_at hs c r k l)

pub during_found : (g : Grammar) (r p c : ℕ) (hs : List ℕ) (q : Production) → During g r p hs → 0 < r → production_at g p ≡ Some q → q.result ≡ c → c < length hs → get_or hs c 0 ≡ 0 → AllByRecursion (Earlier hs r) q.arguments → During g r (p + 1) (set hs c r)
during_found g r p c hs q d pos e k l z a =
    record {
      upto = λ j. ⊎_elim (λ (h : (get_or (set hs c r) j 0 ≡ r) × (j ≡ c)). omega (arith, h.0)) (λ (h : (get_or (set hs c r) j 0 ≡ get_or hs j 0) × (j ≡ c → ⊥)). omega (arith, h.0, d.upto j)) (found_at hs c r j l);
      trees = λ j f.
          ⊎_elim
          (λ (h : (get_or (set hs c r) j 0 ≡ r) × (j ≡ c)). let t = grown g r p c hs q d pos e k z a in (t.0, subst (λ (i : ℕ). TreeOf g t.0 i) (sym h.1) t.1, t.2 ∙ sym h.0))
          (λ (h : (get_or (set hs c r) j 0 ≡ get_or hs j 0) × (j ≡ c → ⊥)). let t = d.trees j (omega (arith, h.0, f)) in (t.0, t.1, t.2 ∙ sym h.0))
          (found_at hs c r j l);
      below = λ t j u low.
          let b = d.below t j u low in
          ⊎_elim
          (λ (h : (get_or (set hs c r) j 0 ≡ r) × (j ≡ c)). absurd (omega (arith, b.0, z, ap (λ (i : ℕ). get_or hs i 0) h.1)))
          (λ (h : (get_or (set hs c r) j 0 ≡ get_or hs j 0) × (j ≡ c → ⊥)). (omega (arith, h.0, b.0), omega (arith, h.0, b.1)))
          (found_at hs c r j l);
      passed = λ p' q' l' e' a'.
          ⊎_elim
          (λ (same : p' ≡ p).
          let one : q' ≡ q = same_some q' q (sym e' ∙ (ap (production_at g) same ∙ e)) in
          let at : q'.result ≡ c = ap (λ (x : Production). x.result) one ∙ k in
          subst (Found (set hs c r)) (sym at) (omega (arith, get_or-set_same hs c r 0 l)))
          (λ (other : p' ≡ p → ⊥). still_found hs c r q'.result l pos (d.passed p' q' (omega arith) e' (earlier_back hs c r l q'.arguments a')))
          (cases_eq p' p);
    }

-- a filled place is one of the places
place_below : (g : Grammar) (p : ℕ) (q : Production) → production_at g p ≡ Some q → p < length g.places
place_below g p q e =
    ⊎_elim (λ (l : p < length g.places). l)
    (λ (l : length g.places ≤ p). absurd (none_some q (sym e ∙ ap option_flatten (slice_get_past g.places p l))))
    (cases_lt p (length g.places))

-- a round ends
pub begun_next : (g : Grammar) (r : ℕ) (hs : List ℕ) → During g r (length g.places) hs → Begun g (r + 1) hs
begun_next g r hs d =
    record {
      before = λ c. omega (arith, d.upto c);
      trees = d.trees;
      below = at_tree;
    }
  where
    at_tree : (t : Tree) (c : ℕ) → TreeOf g t c → height t < r + 1 → Found hs c × (get_or hs c 0 ≤ height t)
    at_tree (node p ts) c u low =
        let a = earlier_trees g r (length g.places) hs d ts u.0.arguments u.3 (omega arith) in
        let f : Found hs c = subst (Found hs) u.2 (d.passed p u.0 (place_below g p u.0 u.1) u.1 a) in (
          f,
          ⊎_elim (λ (l : height (node p ts) < r). (d.below (node p ts) c u l).1) (λ (l : r ≤ height (node p ts)). omega (arith, d.upto c)) (cases_lt (height (node p ts)) r),
        )

found_earlier : (hs : List ℕ) (r : ℕ) → ((c : ℕ) → get_or hs c 0 < r) → (cs : List ℕ) → AllByRecursion (Found hs) cs → AllByRecursion (Earlier hs r) cs
found_earlier hs r b [] a = tt
found_earlier hs r b (c ∷ cs) a = ((a.0, b c), found_earlier hs r b cs a.1)

-- and was the last, if it found nothing
pub closed_last : (g : Grammar) (r : ℕ) (hs : List ℕ) → During g r (length g.places) hs → ((c : ℕ) → get_or hs c 0 < r) → Closed g hs
closed_last g r hs d b p q e a = d.passed p q (place_below g p q e) e (found_earlier hs r b q.arguments a)

-- how many were found
pub count_set : (hs : List ℕ) (c r : ℕ) → c < length hs → get_or hs c 0 ≡ 0 → 0 < r → found_count (set hs c r) ≡ found_count hs + 1
count_set [] c r l z pos = absurd (omega arith)
count_set (zero ∷ hs) zero zero l z pos = absurd (omega arith)
count_set (zero ∷ hs) zero (suc r) l z pos = omega arith
count_set (suc h ∷ hs) zero r l z pos = absurd (omega arith)
count_set (zero ∷ hs) (suc c) r l z pos = count_set hs c r (omega arith) z pos
count_set (suc h ∷ hs) (suc c) r l z pos = let e = count_set hs c r (omega arith) z pos in omega arith

count_most : (hs : List ℕ) → found_count hs ≤ length hs
count_most [] = omega arith
count_most (zero ∷ hs) = let e = count_most hs in omega arith
count_most (suc h ∷ hs) = let e = count_most hs in omega arith

count_all : (hs : List ℕ) (c : ℕ) → length hs ≤ found_count hs → c < length hs → Found hs c
count_all [] c h l = absurd (omega arith)
count_all (zero ∷ hs) c h l = let e = count_most hs in absurd (omega arith)
count_all (suc x ∷ hs) zero h l = omega arith
count_all (suc x ∷ hs) (suc c) h l = count_all hs c (omega arith) (omega arith)

-- where every category was found, nothing is left to find
pub closed_all : (g : Grammar) (hs : List ℕ) → ((p : ℕ) (q : Production) → production_at g p ≡ Some q → q.result < length hs) → length hs ≤ found_count hs → Closed g hs
closed_all g hs inside h p q e a = count_all hs q.result h (inside p q e)

-- nothing is found before the first round
zeros : (n c : ℕ) → get_or (replicate {A = ℕ} n 0) c 0 ≡ 0
zeros zero c = refl
zeros (suc n) zero = refl
zeros (suc n) (suc c) = zeros n c

height_above : (t : Tree) → height t < 1 → ⊥
height_above (node p ts) l = omega arith

pub begun_first : (g : Grammar) (n : ℕ) → Begun g 1 (replicate {A = ℕ} n 0)
begun_first g n =
    record {
      before = λ c. omega (arith, zeros n c);
      trees = λ c f. absurd (omega (arith, zeros n c, f));
      below = λ t c u l. absurd (height_above t l);
    }

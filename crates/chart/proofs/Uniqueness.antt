-- Two rules of the chart with one left side and one place, whose arguments one list of trees matches, are equal:
-- `rule_unique`. In a rule an argument's constituent is read just where it occurs in a constituent of the left side that
-- is read, and its span begins at the leftmost such occurrence. The grammar is sound.
use Rattle.std.proofs.Common.{◌≡◌, ℕ, zero, suc, ◌+◌, ◌<◌, ◌≤◌, ◌⊎◌, List, [], ◌∷◌, map, length, take, set, Some, None, sym, refl, ap, ◌∙◌, subst, inl, inr, arith}
use native.Mathlib.Decide.{ℕ_discrete}
use Rattle.std.specs.List.{slice_get}
use Rattle.grammar.specs.declared.Symbol.TheVariants.{Argument}
use Rattle.grammar.specs.Grammar.{Grammar, from_one}
use Rattle.grammar.specs.Trees.{Trees, none, more, substituted, linearized, all_linearized}
use Rattle.chart.specs.Sound.{Sound}
use Rattle.chart.specs.Chart.{Reading, unread, read, Phrase, Rule, Fact, made, item, put, reading_at, read_as, with_argument, bare, BareRule, symbols_of, after_dot, Begin, begin, Step, scan, predict_bare, finish, copy, Join, predict, combine, Chart, first, one, two, RuleOf, is_bare, is_made}
use Rattle.chart.proofs.Matching.{Fits, FitAll, Matches, MatchAll, category, match_less, put_here, weaken}
use Rattle.chart.proofs.Soundness.{Going, Good, sound, rule_right}
use Rattle.chart.proofs.Completeness.{rule_of}
use Rattle.chart.proofs.Starts.{bare_unread}
use Rattle.chart.proofs.Ends.{Upto, PhraseUpto, all_at, Ended, Within, ends}

-- How far the first i symbols of constituent l reach.
abbrev pub reach : Grammar → Trees → ℕ → ℕ → ℕ → ℕ
reach g ts p l i = length (substituted (all_linearized g ts) (take i (symbols_of g p l)))

-- ⟨d;s⟩ occurs at position a in a constituent of X that is read, where place p makes X.
pub record Seen (g : Grammar) (ts : Trees) (X : Phrase) (p d s a : ℕ) : Type 0 where
  pub constituent : ℕ
  pub start : ℕ
  pub end : ℕ
  pub index : ℕ
  pub there : reading_at X constituent ≡ Some (read start end)
  pub symbol : slice_get (symbols_of g p constituent) index ≡ Some (Argument d s)
  pub position : a ≡ start + reach g ts p constituent index

-- ⟨d;s⟩ occurs at position a among the first i symbols of constituent l, which starts at j.
pub record Passed (g : Grammar) (ts : Trees) (p l j i d s a : ℕ) : Type 0 where
  pub index : ℕ
  pub before : index < i
  pub symbol : slice_get (symbols_of g p l) index ≡ Some (Argument d s)
  pub position : a ≡ j + reach g ts p l index

-- ⟨d;s⟩ occurs at position a in what is read of an item.
abbrev pub InItem : Grammar → Trees → Phrase → ℕ → ℕ → ℕ → ℕ → ℕ → ℕ → ℕ → Type 0
InItem g ts X p l j i d s a = Seen g ts X p d s a ⊎ Passed g ts p l j i d s a

abbrev pub Occurs : Grammar → Trees → Fact → ℕ → ℕ → ℕ → Type 0
Occurs g ts (made r) d s a = Seen g ts r.left r.place d s a
Occurs g ts (item r l j i k) d s a = InItem g ts r.left r.place l j i d s a

-- The reading is unread where there is no position, and else begins at the least.
abbrev pub Leftmost : (ℕ → Type 0) → Reading → Type 0
Leftmost S unread = (a : ℕ) → S a → ⊥
Leftmost S (read a b) = S a × ((c : ℕ) → S c → a ≤ c)

leftmost_same : (S T : ℕ → Type 0) (m : Reading) → ((a : ℕ) → S a → T a) → ((a : ℕ) → T a → S a) → Leftmost S m → Leftmost T m
leftmost_same S T unread f b h = λ a t. h a (b a t)
leftmost_same S T (read a e) f b h = (f a h.0, λ c t. h.1 c (b c t))

abbrev pub arguments_of : Fact → List Phrase
arguments_of (made r) = r.arguments
arguments_of (item r l j i k) = r.arguments

-- Each argument's readings are as its occurrences say.
abbrev pub Placed : Grammar → List ℕ → Fact → Type 0
Placed g w z = (ts : Trees) → MatchAll g w (arguments_of z) ts → (d s : ℕ) (X : Phrase) (m : Reading) → from_one (arguments_of z) d ≡ Some X → reading_at X s ≡ Some m
    → Leftmost (Occurs g ts z d s) m

-- Nothing is read in a bare rule.
not_seen_bare : (g : Grammar) (ts : Trees) (r : Rule) (d s a : ℕ) → BareRule g r → Seen g ts r.left r.place d s a → ⊥
not_seen_bare g ts r d s a b h =
    let is : reading_at (bare g b.production.result) h.constituent ≡ Some (read h.start h.end) = ap (λ x. reading_at x.left h.constituent) (sym b.is) ∙ h.there in
    let no' : read h.start h.end ≡ unread = bare_unread g b.production.result h.constituent (read h.start h.end) is in
    let z : ◌≡◌ {A = ℕ} 0 1 = cc in
    omega arith

nth_bares : (g : Grammar) (cs : List ℕ) (i : ℕ) (X : Phrase) → slice_get (map (bare g) cs) i ≡ Some X → (c : ℕ) × (X ≡ bare g c)
nth_bares g [] i X e = absurd (let z : ◌≡◌ {A = ℕ} 0 1 = cc in omega arith)
nth_bares g (c ∷ cs) zero X e = (c, (cc))
nth_bares g (c ∷ cs) (suc i) X e = nth_bares g cs i X e

from_one_bares : (g : Grammar) (cs : List ℕ) (d : ℕ) (X : Phrase) → from_one (map (bare g) cs) d ≡ Some X → (c : ℕ) × (X ≡ bare g c)
from_one_bares g cs zero X e = absurd (let z : ◌≡◌ {A = ℕ} 0 1 = cc in omega arith)
from_one_bares g cs (suc i) X e = nth_bares g cs i X e

bare_argument : (g : Grammar) (r : Rule) (d s : ℕ) (X : Phrase) (m : Reading) → BareRule g r → from_one r.arguments d ≡ Some X → reading_at X s ≡ Some m → m ≡ unread
bare_argument g r d s X m b x e =
    let is = from_one_bares g b.production.arguments d X (ap (λ y. from_one y.arguments d) (sym b.is) ∙ x) in
    bare_unread g is.0 s m (ap (λ Y. reading_at Y s) (sym is.1) ∙ e)

not_passed_first : (g : Grammar) (ts : Trees) (p l j d s a : ℕ) → Passed g ts p l j 0 d s a → ⊥
not_passed_first g ts p l j d s a h = omega (arith, h.before)

placed_bare : (g : Grammar) (w : List ℕ) (r : Rule) → BareRule g r → Placed g w (made r)
placed_bare g w r b ts m d s X x e f =
    let is : x ≡ unread = bare_argument g r d s X x b e f in
    let none' : Leftmost (Occurs g ts (made r) d s) unread = λ a h. not_seen_bare g ts r d s a b h in
    subst (λ y. Leftmost (Occurs g ts (made r) d s) y) (sym is) none'

-- An item of a rule with the dot first.
placed_first : (g : Grammar) (w : List ℕ) (r : Rule) (l j : ℕ) → Placed g w (made r) → Placed g w (item r l j 0 j)
placed_first g w r l j h ts m d s X x e f = leftmost_same (Occurs g ts (made r) d s) (Occurs g ts (item r l j 0 j) d s) x (λ a p. inl p) from (h ts m d s X x e f)
  where
    from : (a : ℕ) → Occurs g ts (item r l j 0 j) d s a → Occurs g ts (made r) d s a
    from a (inl p) = p
    from a (inr p) = absurd (not_passed_first g ts r.place l j d s a p)

-- The dot passes one more symbol.
passed_more : (g : Grammar) (ts : Trees) (p l j i d s a : ℕ) → Passed g ts p l j i d s a → Passed g ts p l j (suc i) d s a
passed_more g ts p l j i d s a h = record { index = h.index; before = omega (arith, h.before); symbol = h.symbol; position = h.position }

going_more : (g : Grammar) (ts : Trees) (X : Phrase) (p l j i d s a : ℕ) → InItem g ts X p l j i d s a → InItem g ts X p l j (suc i) d s a
going_more g ts X p l j i d s a (inl h) = inl h
going_more g ts X p l j i d s a (inr h) = inr (passed_more g ts p l j i d s a h)

-- ⟨d;s⟩ is the symbol that the dot i passes, at position a.
abbrev Last : Grammar → Trees → ℕ → ℕ → ℕ → ℕ → ℕ → ℕ → ℕ → Type 0
Last g ts p l j i d s a = (slice_get (symbols_of g p l) i ≡ Some (Argument d s)) × (a ≡ j + reach g ts p l i)

passed_less : (g : Grammar) (ts : Trees) (p l j i d s a : ℕ) → Passed g ts p l j (suc i) d s a → Passed g ts p l j i d s a ⊎ Last g ts p l j i d s a
passed_less g ts p l j i d s a h = go (ℕ_discrete h.index i)
  where
    go : Dec (h.index ≡ i) → Passed g ts p l j i d s a ⊎ Last g ts p l j i d s a
    go (yes e) = inr (subst (λ n. slice_get (symbols_of g p l) n ≡ Some (Argument d s)) e h.symbol, subst (λ n. a ≡ j + reach g ts p l n) e h.position)
    go (no n) = inl (record { index = h.index; before = omega (arith, h.before, n); symbol = h.symbol; position = h.position })

going_less : (g : Grammar) (ts : Trees) (X : Phrase) (p l j i d s a : ℕ) → InItem g ts X p l j (suc i) d s a → InItem g ts X p l j i d s a ⊎ Last g ts p l j i d s a
going_less g ts X p l j i d s a (inl h) = inl (inl h)
going_less g ts X p l j i d s a (inr h) = elim (passed_less g ts p l j i d s a h) [ inl x ↦ inl (inr x) | inr y ↦ inr y ]

-- It is another symbol.
leftmost_other : (g : Grammar) (ts : Trees) (X : Phrase) (p l j i d s : ℕ) (m : Reading) → (slice_get (symbols_of g p l) i ≡ Some (Argument d s) → ⊥)
    → Leftmost (InItem g ts X p l j i d s) m → Leftmost (InItem g ts X p l j (suc i) d s) m
leftmost_other g ts X p l j i d s m n h = leftmost_same (InItem g ts X p l j i d s) (InItem g ts X p l j (suc i) d s) m (λ a. going_more g ts X p l j i d s a) from h
  where
    from : (a : ℕ) → InItem g ts X p l j (suc i) d s a → InItem g ts X p l j i d s a
    from a h = elim (going_less g ts X p l j i d s a h) [ inl x ↦ x | inr y ↦ absurd (n y.0) ]

-- It is a symbol that was read before, at a position that is no later.
leftmost_again : (g : Grammar) (ts : Trees) (X : Phrase) (p l j i d s a b : ℕ) → a ≤ j + reach g ts p l i
    → Leftmost (InItem g ts X p l j i d s) (read a b) → Leftmost (InItem g ts X p l j (suc i) d s) (read a b)
leftmost_again g ts X p l j i d s a b le h = (going_more g ts X p l j i d s a h.0, λ c x. elim (going_less g ts X p l j i d s c x) [ inl y ↦ h.1 c y | inr y ↦ omega (arith, y.1) ])

-- It was unread.
leftmost_new : (g : Grammar) (ts : Trees) (X : Phrase) (p l j i d s k n : ℕ) → k ≡ j + reach g ts p l i → slice_get (symbols_of g p l) i ≡ Some (Argument d s)
    → Leftmost (InItem g ts X p l j i d s) unread → Leftmost (InItem g ts X p l j (suc i) d s) (read k n)
leftmost_new g ts X p l j i d s k n at e h =
    (inr (record { index = i; before = omega arith; symbol = e; position = at }), λ c x. elim (going_less g ts X p l j i d s c x) [ inl y ↦ absurd (h c y) | inr y ↦ omega (arith, y.1) ])

nth_set_other : {A : Type 0} (xs : List A) (i j : ℕ) (y : A) → (j ≡ i → ⊥) → slice_get (set xs i y) j ≡ slice_get xs j
nth_set_other [] i j y n = refl
nth_set_other (x ∷ xs) zero zero y n = absurd (n refl)
nth_set_other (x ∷ xs) zero (suc j) y n = refl
nth_set_other (x ∷ xs) (suc i) zero y n = refl
nth_set_other (x ∷ xs) (suc i) (suc j) y n = nth_set_other xs i j y (λ e. n (ap suc e))

pub put_other : {A : Type 0} (xs : List A) (d e : ℕ) (y : A) → (e ≡ d → ⊥) → from_one (put xs d y) e ≡ from_one xs e
put_other xs zero e y n = refl
put_other xs (suc i) zero y n = refl
put_other xs (suc i) (suc j) y n = nth_set_other xs i j y (λ e. n (ap suc e))

nth_earlier : {A : Type 0} (xs : List A) (i n : ℕ) (x : A) → slice_get xs n ≡ Some x → slice_get xs i ≡ None → n < i
nth_earlier [] i n x e f = absurd (let z : ◌≡◌ {A = ℕ} 0 1 = cc in omega arith)
nth_earlier (y ∷ xs) zero n x e f = absurd (let z : ◌≡◌ {A = ℕ} 0 1 = cc in omega arith)
nth_earlier (y ∷ xs) (suc i) zero x e f = omega arith
nth_earlier (y ∷ xs) (suc i) (suc n) x e f = omega (arith, nth_earlier xs i n x e f)

placed_begin : (g : Grammar) (w : List ℕ) {z : Fact} → Begin g z → Placed g w z
placed_begin g w (begin {r = r} b c) = placed_first g w r 1 0 (placed_bare g w r b)

-- A constituent is read to its end.
seen_finished : (g : Grammar) (ts : Trees) (X : Phrase) (p l j i k d s a : ℕ) → reading_at X l ≡ Some unread → InItem g ts X p l j i d s a → Seen g ts (read_as X l j k) p d s a
seen_finished g ts X p l j i k d s a u (inl h) =
    let apart : h.constituent ≡ l → ⊥ = λ e. let x : Some (read h.start h.end) ≡ Some unread = sym h.there ∙ ap (reading_at X) e ∙ u in let z : ◌≡◌ {A = ℕ} 0 1 = cc in omega arith in
    record {
      constituent = h.constituent;
      start = h.start;
      end = h.end;
      index = h.index;
      there = put_other X.readings l h.constituent (read j k) apart ∙ h.there;
      symbol = h.symbol;
      position = h.position;
    }
seen_finished g ts X p l j i k d s a u (inr h) = record {
  constituent = l;
  start = j;
  end = k;
  index = h.index;
  there = put_here X.readings l unread (read j k) u;
  symbol = h.symbol;
  position = h.position;
}

finished_seen : (g : Grammar) (ts : Trees) (X : Phrase) (p l j i k d s a : ℕ) → reading_at X l ≡ Some unread → slice_get (symbols_of g p l) i ≡ None
    → Seen g ts (read_as X l j k) p d s a → InItem g ts X p l j i d s a
finished_seen g ts X p l j i k d s a u e h = go (ℕ_discrete h.constituent l)
  where
    go : Dec (h.constituent ≡ l) → InItem g ts X p l j i d s a
    go (yes f) =
        let is : Some (read h.start h.end) ≡ Some (read j k) = sym h.there ∙ ap (reading_at (read_as X l j k)) f ∙ put_here X.readings l unread (read j k) u in
        let start : h.start ≡ j = cc in
        let symbol : slice_get (symbols_of g p l) h.index ≡ Some (Argument d s) = subst (λ c. slice_get (symbols_of g p c) h.index ≡ Some (Argument d s)) f h.symbol in
        inr (record {
          index = h.index;
          before = nth_earlier (symbols_of g p l) i h.index (Argument d s) symbol e;
          symbol = symbol;
          position = h.position ∙ ap (λ x. x + reach g ts p h.constituent h.index) start ∙ ap (λ c. j + reach g ts p c h.index) f;
        })
    go (no n) = inl (record {
      constituent = h.constituent;
      start = h.start;
      end = h.end;
      index = h.index;
      there = sym (put_other X.readings l h.constituent (read j k) n) ∙ h.there;
      symbol = h.symbol;
      position = h.position;
    })

-- The item's end is how far the symbols before its dot reach.
end_reached : {g : Grammar} {w : List ℕ} {r : Rule} {l j i k : ℕ} → Going g w r l j i k → (ts : Trees) → MatchAll g w r.arguments ts → k ≡ j + reach g ts r.place l i
end_reached h ts m = sym (h.passed ts m).ends

placed_copy : (g : Grammar) (w : List ℕ) (r : Rule) (l j i k d s a b n : ℕ) (X : Phrase) → after_dot g r l i ≡ Some (Argument d s)
    → from_one r.arguments d ≡ Some X → reading_at X s ≡ Some (read a b) → Going g w r l j i k → Within r j k → Placed g w (item r l j i k) → Placed g w (item r l j (suc i) n)
placed_copy g w r l j i k d s a b n X e x y h inside placed ts m d' s' X' x' f f' = go (ℕ_discrete d' d) (ℕ_discrete s' s)
  where
    old : Leftmost (InItem g ts r.left r.place l j i d' s') x'
    old = placed ts m d' s' X' x' f f'

    go : Dec (d' ≡ d) → Dec (s' ≡ s) → Leftmost (InItem g ts r.left r.place l j (suc i) d' s') x'
    go (yes p) (yes q) =
        let same : X' ≡ X = (let u : Some X' ≡ Some X = sym f ∙ ap (from_one r.arguments) p ∙ x in cc) in
        let is : x' ≡ read a b = (let u : Some x' ≡ Some (read a b) = sym f' ∙ ap (λ Z. reading_at Z s') same ∙ ap (reading_at X) q ∙ y in cc) in
        let span = all_at (Upto k) X.readings s (read a b) (all_at (PhraseUpto k) r.arguments d X inside.arguments x) y in
        let le : a ≤ j + reach g ts r.place l i = omega (arith, span, end_reached h ts m) in
        subst (λ v. Leftmost (InItem g ts r.left r.place l j (suc i) d' s') v) (sym is) (leftmost_again g ts r.left r.place l j i d' s' a b le (subst (λ v. Leftmost (InItem g ts r.left r.place l j i d' s') v) is old))
    go (yes p) (no q) = leftmost_other g ts r.left r.place l j i d' s' x' (λ u. q (cc)) old
    go (no p) q = leftmost_other g ts r.left r.place l j i d' s' x' (λ u. p (cc)) old

placed_step : (g : Grammar) (w : List ℕ) {x z : Fact} → Step g w x z → Good g w x → Ended x → Placed g w x → Placed g w z
placed_step g w (scan {r = r} {l = l} {j = j} {i = i} e n) h en p = λ ts m d s X x f y.
    leftmost_other g ts r.left r.place l j i d s x (λ u. let z : ◌≡◌ {A = ℕ} 0 1 = cc in omega arith) (p ts m d s X x f y)
placed_step g w (predict_bare {q = q} {k = k} {s = s} e a u b) h en p = placed_first g w q s k (placed_bare g w q b)
placed_step g w (finish {r = r} {l = l} {j = j} {i = i} {k = k} e) h en p = λ ts m d s X x f y.
    leftmost_same (InItem g ts r.left r.place l j i d s) (Seen g ts (read_as r.left l j k) r.place d s) x
    (λ a. seen_finished g ts r.left r.place l j i k d s a h.open') (λ a. finished_seen g ts r.left r.place l j i k d s a h.open' e) (p ts m d s X x f y)
placed_step g w (copy {r = r} {l = l} {j = j} {i = i} {k = k} {d = d} {s = s} {a = a} {b = b} {m = n} {X = X} e x y ab kn) h en p = placed_copy g w r l j i k d s a b n X e x y h en p

placed_combine : (g : Grammar) (w : List ℕ) (r : Rule) (l j i k d s n : ℕ) (X Y : Phrase) → after_dot g r l i ≡ Some (Argument d s)
    → from_one r.arguments d ≡ Some X → reading_at X s ≡ Some unread → Y ≡ read_as X s k n → Going g w r l j i k → Placed g w (item r l j i k) → Placed g w (item (with_argument r d Y) l j (suc i) n)
placed_combine g w r l j i k d s n X Y e x u is h placed ts m d' s' X' x' f f' = go (ℕ_discrete d' d) (ℕ_discrete s' s)
  where
    matched : MatchAll g w r.arguments ts
    matched = weaken r.arguments ts d X Y x (λ t v. (match_less X s k n u (subst (λ Z. Matches g w Z t) is v)).0) m

    same : d' ≡ d → X' ≡ read_as X s k n
    same p = let v : Some X' ≡ Some Y = sym f ∙ ap (from_one (put r.arguments d Y)) p ∙ put_here r.arguments d X Y x in let y : X' ≡ Y = cc in y ∙ is

    go : Dec (d' ≡ d) → Dec (s' ≡ s) → Leftmost (InItem g ts r.left r.place l j (suc i) d' s') x'
    go (yes p) (yes q) =
        let new : x' ≡ read k n = (let v : Some x' ≡ Some (read k n) = sym f' ∙ ap (λ Z. reading_at Z s') (same p) ∙ ap (reading_at (read_as X s k n)) q ∙ put_here X.readings s unread (read k n) u in cc) in
        let old : Leftmost (InItem g ts r.left r.place l j i d' s') unread = placed ts matched d' s' X unread (ap (from_one r.arguments) p ∙ x) (ap (reading_at X) q ∙ u) in
        let symbol : slice_get (symbols_of g r.place l) i ≡ Some (Argument d' s') = (cc) in
        subst (λ v. Leftmost (InItem g ts r.left r.place l j (suc i) d' s') v) (sym new) (leftmost_new g ts r.left r.place l j i d' s' k n (end_reached h ts matched) symbol old)
    go (yes p) (no q) =
        let reading : reading_at X s' ≡ Some x' = sym (put_other X.readings s s' (read k n) q) ∙ ap (λ Z. reading_at Z s') (sym (same p)) ∙ f' in
        leftmost_other g ts r.left r.place l j i d' s' x' (λ v. q (cc)) (placed ts matched d' s' X x' (ap (from_one r.arguments) p ∙ x) reading)
    go (no p) q = leftmost_other g ts r.left r.place l j i d' s' x' (λ v. p (cc)) (placed ts matched d' s' X' x' (sym (put_other r.arguments d d' Y p) ∙ f) f')

placed_join : (g : Grammar) (w : List ℕ) {x y z : Fact} → Join g x y z → Good g w x → Placed g w x → Placed g w y → Placed g w z
placed_join g w (predict {q = q} {k = k} {s = s} e a u) h p m = placed_first g w q s k m
placed_join g w (combine {r = r} {q = q} {l = l} {j = j} {i = i} {k = k} {d = d} {s = s} {m = n} {X = X} e x u is) h p m = placed_combine g w r l j i k d s n X q.left e x u is h p

pub placed : (g : Grammar) (w : List ℕ) → Sound g → {z : Fact} → Chart g w z → Placed g w z
placed g w s (first b) = placed_begin g w b
placed g w s (one c st) = placed_step g w st (sound g w s c) (ends g w s c) (placed g w s c)
placed g w s (two c d st) = placed_join g w st (sound g w s c) (placed g w s c) (placed g w s d)

pub rule_placed : (g : Grammar) (w : List ℕ) → Sound g → (r : Rule) → RuleOf g w r → Placed g w (made r)
rule_placed g w s r (is_bare b) = placed_bare g w r b
rule_placed g w s r (is_made c) = placed g w s c

-- Two readings begin alike.
abbrev Alike : Reading → Reading → Type 0
Alike unread unread = Unit {0}
Alike unread (read c d) = ⊥
Alike (read a b) unread = ⊥
Alike (read a b) (read c d) = a ≡ c

alike_leftmost : (S : ℕ → Type 0) (m n : Reading) → Leftmost S m → Leftmost S n → Alike m n
alike_leftmost S unread unread h k = tt
alike_leftmost S unread (read c d) h k = h c k.0
alike_leftmost S (read a b) unread h k = k a h.0
alike_leftmost S (read a b) (read c d) h k = omega (arith, h.1 c k.0, k.1 a h.0)

-- Readings that begin alike, and that one string fits, are equal.
same_reading_lem : (w : List ℕ) (m n : Reading) (u : List ℕ) → Fits w m u → Fits w n u → Alike m n → m ≡ n
same_reading_lem w unread unread u f h a = refl
same_reading_lem w unread (read c d) u f h a = absurd a
same_reading_lem w (read x y) unread u f h a = absurd a
same_reading_lem w (read x y) (read c d) u f h a = let e : y ≡ d = omega (arith, f.ends, h.ends) in cc

same_readings_lem : (w : List ℕ) (ms ns : List Reading) (us : List (List ℕ)) → FitAll w ms us → FitAll w ns us
    → ((i : ℕ) (m n : Reading) → slice_get ms i ≡ Some m → slice_get ns i ≡ Some n → Alike m n) → ms ≡ ns
same_readings_lem w [] [] us f h a = refl
same_readings_lem w [] (n ∷ ns) [] f h a = absurd h
same_readings_lem w [] (n ∷ ns) (u ∷ us) f h a = absurd f
same_readings_lem w (m ∷ ms) [] [] f h a = absurd f
same_readings_lem w (m ∷ ms) [] (u ∷ us) f h a = absurd h
same_readings_lem w (m ∷ ms) (n ∷ ns) [] f h a = absurd f
same_readings_lem w (m ∷ ms) (n ∷ ns) (u ∷ us) f h a =
    let head : m ≡ n = same_reading_lem w m n u f.0 h.0 (a 0 m n refl refl) in
    let tail : ms ≡ ns = same_readings_lem w ms ns us f.1 h.1 (λ i. a (suc i)) in
    cc

same_phrase_lem : (X Y : Phrase) → X.category ≡ Y.category → X.readings ≡ Y.readings → X ≡ Y
same_phrase_lem X Y c r = λ i. record { category = c i; readings = r i }

same_phrases_lem : (g : Grammar) (w : List ℕ) (Xs Ys : List Phrase) (ts : Trees) → MatchAll g w Xs ts → MatchAll g w Ys ts → map category Xs ≡ map category Ys
    → ((i s : ℕ) (X Y : Phrase) (m n : Reading) → slice_get Xs i ≡ Some X → slice_get Ys i ≡ Some Y → slice_get X.readings s ≡ Some m → slice_get Y.readings s ≡ Some n → Alike m n) → Xs ≡ Ys
same_phrases_lem g w [] [] ts f h c a = refl
same_phrases_lem g w [] (Y ∷ Ys) ts f h c a = cc
same_phrases_lem g w (X ∷ Xs) [] ts f h c a = cc
same_phrases_lem g w (X ∷ Xs) (Y ∷ Ys) none f h c a = absurd f
same_phrases_lem g w (X ∷ Xs) (Y ∷ Ys) (more t ts) f h c a =
    let kind : X.category ≡ Y.category = cc in
    let kinds : map category Xs ≡ map category Ys = cc in
    let head : X ≡ Y = same_phrase_lem X Y kind (same_readings_lem w X.readings Y.readings (linearized g t) f.0.fits h.0.fits (λ s m n. a 0 s X Y m n refl refl)) in
    let tail : Xs ≡ Ys = same_phrases_lem g w Xs Ys ts f.1 h.1 kinds (λ i. a (suc i)) in
    ap (λ Z. Z ∷ Xs) head ∙ ap (λ Zs. Y ∷ Zs) tail

pub rule_unique : (g : Grammar) (w : List ℕ) → Sound g → (X : Phrase) (p : ℕ) (Xs Ys : List Phrase) → RuleOf g w (rule_of X p Xs) → RuleOf g w (rule_of X p Ys)
    → (ts : Trees) → MatchAll g w Xs ts → MatchAll g w Ys ts → Xs ≡ Ys
rule_unique g w s X p Xs Ys r q ts m n =
    let a = rule_right g w s (rule_of X p Xs) r in
    let b = rule_right g w s (rule_of X p Ys) q in
    let same : a.production ≡ b.production = (let e : Some a.production ≡ Some b.production = sym a.filled ∙ b.filled in cc) in
    let kinds : map category Xs ≡ map category Ys = a.arguments ∙ ap (λ x. x.arguments) same ∙ sym b.arguments in
    same_phrases_lem g w Xs Ys ts m n kinds (λ i c Y Z x y e f h k.
    alike_leftmost (Seen g ts X p (suc i) (suc c)) x y (rule_placed g w s (rule_of X p Xs) r ts m (suc i) (suc c) Y x e h) (rule_placed g w s (rule_of X p Ys) q ts n (suc i) (suc c) Z y f k))

-- What is read in an item ends at or before the item's end: `ends`. The grammar is sound.
use Rattle.std.proofs.Common.{◌≡◌, ℕ, zero, suc, ◌≤◌, List, [], ◌∷◌, map, length, set, replicate, Some, unwrap_or, sym, ap, ◌∙◌, subst, arith}
use Rattle.std.specs.List.{slice_get, AllByRecursion}
use Rattle.grammar.specs.Grammar.{Grammar, from_one, dimension_at}
use Rattle.chart.specs.Sound.{Sound}
use Rattle.chart.specs.Chart.{Reading, unread, read, Phrase, Rule, Fact, made, item, put, reading_at, bare, BareRule, Begin, begin, Step, scan, predict_bare, finish, copy, Join, predict, combine, Chart, first, one, two}
use Rattle.chart.proofs.Spans.{reads_order}
use Rattle.chart.proofs.Matching.{put_here}
use Rattle.chart.proofs.Soundness.{Good, sound}

-- Every span of the readings is in order and ends at or before e.
abbrev pub Upto : ℕ → Reading → Type 0
Upto e unread = Unit {0}
Upto e (read a b) = (a ≤ b) × (b ≤ e)

abbrev pub PhraseUpto : ℕ → Phrase → Type 0
PhraseUpto e X = AllByRecursion (Upto e) X.readings

upto_later : (d e : ℕ) → d ≤ e → (m : Reading) → Upto d m → Upto e m
upto_later d e h unread u = tt
upto_later d e h (read a b) u = (u.0, omega (arith, u.1))

all_upto_later : (d e : ℕ) → d ≤ e → (ms : List Reading) → AllByRecursion (Upto d) ms → AllByRecursion (Upto e) ms
all_upto_later d e h [] u = tt
all_upto_later d e h (m ∷ ms) u = (upto_later d e h m u.0, all_upto_later d e h ms u.1)

phrases_later : (d e : ℕ) → d ≤ e → (Xs : List Phrase) → AllByRecursion (PhraseUpto d) Xs → AllByRecursion (PhraseUpto e) Xs
phrases_later d e h [] u = tt
phrases_later d e h (X ∷ Xs) u = (all_upto_later d e h X.readings u.0, phrases_later d e h Xs u.1)

bare_upto : (e n : ℕ) → AllByRecursion (Upto e) (replicate n unread)
bare_upto e zero = tt
bare_upto e (suc n) = (tt, bare_upto e n)

bares_upto : (g : Grammar) (e : ℕ) (cs : List ℕ) → AllByRecursion (PhraseUpto e) (map (bare g) cs)
bares_upto g e [] = tt
bares_upto g e (c ∷ cs) = (bare_upto e (unwrap_or (dimension_at g c) 0), bares_upto g e cs)

all_set : {A : Type 0} (P : A → Type 0) (xs : List A) (i : ℕ) (y : A) → P y → AllByRecursion P xs → AllByRecursion P (set xs i y)
all_set P [] i y p h = tt
all_set P (x ∷ xs) zero y p h = (p, h.1)
all_set P (x ∷ xs) (suc i) y p h = (h.0, all_set P xs i y p h.1)

all_put : {A : Type 0} (P : A → Type 0) (xs : List A) (d : ℕ) (y : A) → P y → AllByRecursion P xs → AllByRecursion P (put xs d y)
all_put P xs zero y p h = h
all_put P xs (suc i) y p h = all_set P xs i y p h

all_nth : {A : Type 0} (P : A → Type 0) (xs : List A) (i : ℕ) (y : A) → AllByRecursion P xs → slice_get xs i ≡ Some y → P y
all_nth P [] i y h e = absurd (let z : ◌≡◌ {A = ℕ} 0 1 = cc in omega arith)
all_nth P (x ∷ xs) zero y h e = let q : x ≡ y = cc in subst P q h.0
all_nth P (x ∷ xs) (suc i) y h e = all_nth P xs i y h.1 e

pub all_at : {A : Type 0} (P : A → Type 0) (xs : List A) (d : ℕ) (y : A) → AllByRecursion P xs → from_one xs d ≡ Some y → P y
all_at P xs zero y h e = absurd (let z : ◌≡◌ {A = ℕ} 0 1 = cc in omega arith)
all_at P xs (suc i) y h e = all_nth P xs i y h e

-- Of a made rule, the latest end e is that of a constituent of its left side; of an item, what is read on its left ends
-- at or before its start, and what is read in its arguments at or before its end.
pub record Latest (r : Rule) (e : ℕ) : Type 0 where
  pub constituent : ℕ
  pub start : ℕ
  pub there : reading_at r.left constituent ≡ Some (read start e)
  pub left : PhraseUpto e r.left
  pub arguments : AllByRecursion (PhraseUpto e) r.arguments

pub record Within (r : Rule) (j k : ℕ) : Type 0 where
  pub order : j ≤ k
  pub left : PhraseUpto j r.left
  pub arguments : AllByRecursion (PhraseUpto k) r.arguments

abbrev pub Ended : Fact → Type 0
Ended (made r) = (e : ℕ) × Latest r e
Ended (item r l j i k) = Within r j k

bare_within : (g : Grammar) (r : Rule) (k : ℕ) → BareRule g r → Within r k k
bare_within g r k b = subst (λ x. Within x k k) (sym b.is) (record {
  order = omega arith;
  left = bare_upto k (unwrap_or (dimension_at g b.production.result) 0);
  arguments = bares_upto g k b.production.arguments;
})

ended_begin : {g : Grammar} {z : Fact} → Begin g z → Ended z
ended_begin {g} (begin {r = r} b c) = bare_within g r 0 b

ended_step : {g : Grammar} {w : List ℕ} {x z : Fact} → Step g w x z → Good g w x → Ended x → Ended z
ended_step (scan {r = r} {k = k} e n) h d = record { order = omega (arith, d.order); left = d.left; arguments = phrases_later k (suc k) (omega arith) r.arguments d.arguments }
ended_step {g} (predict_bare {q = q} {k = k} e a u b) h d = bare_within g q k b
ended_step (finish {r = r} {l = l} {j = j} {k = k} e) h d = (
  k,
  record {
    constituent = l;
    start = j;
    there = put_here r.left.readings l unread (read j k) h.open';
    left = all_put (Upto k) r.left.readings l (read j k) (d.order, omega arith) (all_upto_later j k d.order r.left.readings d.left);
    arguments = d.arguments;
  },
)
ended_step (copy {r = r} {k = k} {m = m} e x y ab kn) h d =
    let o : k ≤ m = reads_order kn in
    record { order = omega (arith, d.order); left = d.left; arguments = phrases_later k m o r.arguments d.arguments }

ended_join : {g : Grammar} {x y z : Fact} → Join g x y z → Ended x → Ended y → Ended z
ended_join (predict {r = r} {q = q} {k = k} {d = d} e a u) h m =
    let X = all_at (PhraseUpto k) r.arguments d q.left h.arguments a in
    let last = m.1 in
    let here = all_at (Upto k) q.left.readings last.constituent (read last.start m.0) X last.there in
    record { order = omega arith; left = X; arguments = phrases_later m.0 k here.1 q.arguments last.arguments }
ended_join (combine {r = r} {q = q} {l = l} {j = j} {i = i} {k = k} {d = d} {s = s} {m = n} {X = X} e x u is) h m =
    let last = m.1 in
    let there : reading_at q.left s ≡ Some (read k n) = ap (λ Z. reading_at Z s) is ∙ put_here X.readings s unread (read k n) u in
    let o = all_at (Upto m.0) q.left.readings s (read k n) last.left there in
    let old : PhraseUpto n X = all_upto_later k n o.0 X.readings (all_at (PhraseUpto k) r.arguments d X h.arguments x) in
    let new : PhraseUpto n q.left = subst (λ Z. PhraseUpto n Z) (sym is) (all_put (Upto n) X.readings s (read k n) (o.0, omega arith) old) in
    record { order = omega (arith, h.order, o.0); left = h.left; arguments = all_put (PhraseUpto n) r.arguments d q.left new (phrases_later k n o.0 r.arguments h.arguments) }

pub ends : (g : Grammar) (w : List ℕ) → Sound g → {z : Fact} → Chart g w z → Ended z
ends g w s (first b) = ended_begin b
ends g w s (one c st) = ended_step st (sound g w s c) (ends g w s c)
ends g w s (two c d st) = ended_join st (ends g w s c) (ends g w s d)

-- An item ends within the tokens.
pub item_inside : (g : Grammar) (w : List ℕ) → Sound g → {r : Rule} {l j i k : ℕ} → Chart g w (item r l j i k) → k ≤ length w
item_inside g w s c = let h = sound g w s c in (h.passed h.rule.trees h.rule.matched).inside

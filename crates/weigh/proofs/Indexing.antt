-- Each phrase of a rule has one working value: `index-known`, `index_one`, `phrase_one`.
use Rattle.std.proofs.Common.{◌≡◌, ℕ, zero, suc, ◌+◌, ◌<◌, Bool, true, false, ◌&&◌, List, [], ◌∷◌, map, length, Some, None, Option, sym, refl, ap, ◌∙◌, subst, inl, inr, arith}
use Rattle.std.specs.List.{slice_get, AllByRecursion}
use Rattle.std.specs.Option.{option_flatten}
use Rattle.std.proofs.ByRecursion.{All-set}
use Rattle.grammar.specs.Grammar.{Grammar, Production, production_at, from_one}
use Rattle.faults.specs.Sound.{Sound, SoundPlace, SoundProduction}
use Rattle.faults.proofs.Made.{all_at, below_there}
use Rattle.chart.specs.Chart as chart
use Rattle.chart.specs.Chart.{unread, read, Rule, Fact, made, item, reading_at, put, bare, BareRule, Begin, begin, Step, scan, predict_bare, finish, copy, Join, predict, combine, Chart, first, one, two, RuleOf, is_bare, is_made, Made, Member, Apart}
use Rattle.chart.proofs.Faultless.{faultless_sound}
use Rattle.chart.proofs.Starts.{some_read, bare_unread}
use Rattle.cells.specs.declared.Cell.{Cell}
use Rattle.cells.specs.declared.Phrase.{Phrase}
use Rattle.cells.specs.declared.Short.{Short}
use Rattle.cells.specs.declared.Short.TheVariants.{Nil, One, Two, Three}
use Rattle.cells.specs.declared.Span.{Span}
use Rattle.cells.specs.declared.Span.TheVariants.{Unread, Read}
use Rattle.cells.proofs.Meant.{phrase_apart}
use Rattle.cells.specs.Facts.{list_of, reading_of, phrase_of}
use Rattle.weigh.specs.declared.table.Table.{Table}
use Rattle.weigh.specs.Numbers.{NumberOf}
use Rattle.weigh.specs.Weighed.{Ready, Known, IndexOf, is_unread, all_unread, width}
use Rattle.weigh.proofs.Numbering.{made_there, nth_member}

-- a filled place holds a sound production
pub production_sound : (g : Grammar) → Sound g → (p : ℕ) (q : Production) → production_at g p ≡ Some q → SoundProduction g q
production_sound g s p q e = go (slice_get g.places p) refl e
  where
    go : (o : Option (Option Production)) → slice_get g.places p ≡ o → option_flatten o ≡ Some q → SoundProduction g q
    go None f h = absurd (let z : ◌≡◌ {A = ℕ} 0 1 = cc in omega arith)
    go (Some x) f h = subst (SoundPlace g) h (all_at (SoundPlace g) g.places p x s.each_place f)

pub place_inside : (g : Grammar) (p : ℕ) (q : Production) → production_at g p ≡ Some q → p < length g.places
place_inside g p q e = go (slice_get g.places p) refl e
  where
    go : (o : Option (Option Production)) → slice_get g.places p ≡ o → option_flatten o ≡ Some q → p < length g.places
    go None f h = absurd (let z : ◌≡◌ {A = ℕ} 0 1 = cc in omega arith)
    go (Some x) f h = below_there g.places p x f

-- the arguments of a rule are bare or made
bares_known : (g : Grammar) (w : List ℕ) (cs : List ℕ) → AllByRecursion (λ c. c < length g.dimensions) cs → AllByRecursion (Known g w) (map (bare g) cs)
bares_known g w [] a = tt
bares_known g w (c ∷ cs) a = (inl (c, a.0, refl), bares_known g w cs a.1)

bare_known : (g : Grammar) (w : List ℕ) → Sound g → (r : Rule) → BareRule g r → AllByRecursion (Known g w) r.arguments
bare_known g w s r b =
    subst (λ (v : Rule). AllByRecursion (Known g w) v.arguments) (sym b.is) (bares_known g w b.production.arguments (production_sound g s b.place b.production b.live.filled).categories)

abbrev Arguments : Grammar → List ℕ → Fact → Type 0
Arguments g w (made r) = AllByRecursion (Known g w) r.arguments
Arguments g w (item r l j i k) = AllByRecursion (Known g w) r.arguments

all_put : {X : Type 0} (P : X → Type 0) (xs : List X) (d : ℕ) (y : X) → P y → AllByRecursion P xs → AllByRecursion P (put xs d y)
all_put P xs zero y p a = a
all_put P xs (suc d) y p a = All-set P xs d y p a

known_begin : (g : Grammar) (w : List ℕ) → Sound g → {z : Fact} → Begin g z → Arguments g w z
known_begin g w s (begin {r = r} b c) = bare_known g w s r b

known_step : (g : Grammar) (w : List ℕ) → Sound g → {x z : Fact} → Step g w x z → Arguments g w x → Arguments g w z
known_step g w s (scan e n) h = h
known_step g w s (predict_bare {q = q} e a u b) h = bare_known g w s q b
known_step g w s (finish e) h = h
known_step g w s (copy e x y ab kn) h = h

known_join : (g : Grammar) (w : List ℕ) {x y z : Fact} → Join g x y z → Chart g w y → Arguments g w x → Arguments g w y → Arguments g w z
known_join g w (predict e a u) c h k = k
known_join g w (combine {r = r} {q = q} {d = d} e x u is) c h k = all_put (Known g w) r.arguments d q.left (inr (q, c, refl)) h

arguments_known : (g : Grammar) (w : List ℕ) → Sound g → {z : Fact} → Chart g w z → Arguments g w z
arguments_known g w s (first b) = known_begin g w s b
arguments_known g w s (one c st) = known_step g w s st (arguments_known g w s c)
arguments_known g w s (two c d st) = known_join g w st d (arguments_known g w s c) (arguments_known g w s d)

pub rule_known : (g : Grammar) (w : List ℕ) → Sound g → (r : Rule) → RuleOf g w r → AllByRecursion (Known g w) r.arguments
rule_known g w s r (is_bare b) = bare_known g w s r b
rule_known g w s r (is_made c) = arguments_known g w s c

-- a bare phrase is not the left side of a made rule
pub bare_not_left : (g : Grammar) (w : List ℕ) → Sound g → (c : ℕ) (X : chart.Phrase) → X ≡ bare g c → Made g w X → ⊥
bare_not_left g w s c X e m =
    let r = some_read g w (faultless_sound g s) m.1 in
    let u : read r.1 r.2 ≡ unread = bare_unread g c r.0 (read r.1 r.2) (ap (λ (Y : chart.Phrase). reading_at Y r.0) (sym (m.2 ∙ e)) ∙ r.3) in
    let z : ◌≡◌ {A = ℕ} 0 1 = cc in
    omega arith

-- something is read on the left of a made rule
both : (a b : Bool) → (a && b) ≡ true → (a ≡ true) × (b ≡ true)
both true true e = (refl, refl)
both true false e = absurd (let z : ◌≡◌ {A = ℕ} 0 1 = cc in omega arith)
both false b e = absurd (let z : ◌≡◌ {A = ℕ} 0 1 = cc in omega arith)

each_unread : (spans : Short Span) → all_unread spans ≡ true → AllByRecursion (λ s. is_unread s ≡ true) (list_of spans)
each_unread Nil e = tt
each_unread (One a) e = (e, tt)
each_unread (Two a b) e = let x = both (is_unread a) (is_unread b) e in (x.0, (x.1, tt))
each_unread (Three a b c) e = let y = both (is_unread a && is_unread b) (is_unread c) e in let x = both (is_unread a) (is_unread b) y.0 in (x.0, (x.1, (y.1, tt)))

unread_all : (spans : List Span) (l j k : ℕ) → AllByRecursion (λ s. is_unread s ≡ true) spans → slice_get (map reading_of spans) l ≡ Some (read j k) → ⊥
unread_all [] l j k e h = let z : ◌≡◌ {A = ℕ} 0 1 = cc in omega arith
unread_all (Unread ∷ spans) zero j k e h = let z : ◌≡◌ {A = ℕ} 0 1 = cc in omega arith
unread_all (Unread ∷ spans) (suc l) j k e h = unread_all spans l j k e.1 h
unread_all (Read a b ∷ spans) l j k e h = let f = e.0 in let z : ◌≡◌ {A = ℕ} 0 1 = cc in omega arith

unread_one : (spans : List Span) (l j k : ℕ) → AllByRecursion (λ s. is_unread s ≡ true) spans → from_one (map reading_of spans) l ≡ Some (read j k) → ⊥
unread_one spans zero j k e h = let z : ◌≡◌ {A = ℕ} 0 1 = cc in omega arith
unread_one spans (suc l) j k e h = unread_all spans l j k e h

made_read : (g : Grammar) (w : List ℕ) → Sound g → (X : Phrase) → all_unread X.spans ≡ true → Made g w (phrase_of X) → ⊥
made_read g w s X e m =
    let r = some_read g w (faultless_sound g s) m.1 in
    unread_one (list_of X.spans) r.0 r.1 r.2 (each_unread X.spans e) (ap (λ (Y : chart.Phrase). reading_at Y r.0) (sym m.2) ∙ r.3)

-- a phrase with nothing read has its category for its index
pub index_unread : (g : Grammar) (w : List ℕ) (cs : List Cell) (t : Table) (phrases : List chart.Phrase) (X : Phrase) → Ready g w cs t phrases → Known g w (phrase_of X) → all_unread X.spans ≡ true → IndexOf g phrases (phrase_of X) X.category
index_unread g w cs t phrases X h (inr m) e = absurd (made_read g w h.sound X e m)
index_unread g w cs t phrases X h (inl (c, lt, is)) e =
    let same : X.category ≡ c = ap (λ (Y : chart.Phrase). Y.category) is in
    inl (omega (arith, same, lt), is ∙ ap (bare g) (sym same))

-- and any other the number that is found
pub index_number : (g : Grammar) (w : List ℕ) (cs : List Cell) (t : Table) (phrases : List chart.Phrase) (X : Phrase) (k : ℕ) → Ready g w cs t phrases → NumberOf cs t.base t.end X (Some k)
    → (slice_get phrases k ≡ Some (phrase_of X)) × (k < t.phrases)
index_number g w cs t phrases X k h o =
    let num = h.numbered.numbers o.0 o.1 o.2 in
    let same : num.0 ≡ k = (let a = sym num.1 ∙ o.4 in cc) in
    let there : slice_get phrases k ≡ Some (phrase_of X) = ap (slice_get phrases) (sym same) ∙ (num.2 ∙ ap (λ (Y : Phrase). Some (phrase_of Y)) o.3) in
    (there, omega (arith, below_there phrases k (phrase_of X) there, h.total))

pub index_found : (g : Grammar) (w : List ℕ) (cs : List Cell) (t : Table) (phrases : List chart.Phrase) (X : Phrase) (k : ℕ) → Ready g w cs t phrases → NumberOf cs t.base t.end X (Some k) → IndexOf g phrases (phrase_of X) (t.categories + k)
index_found g w cs t phrases X k h o = inr (k, (index_number g w cs t phrases X k h o).0, ap (λ (v : ℕ). v + k) h.categories)

-- a phrase without a number is not the left side of a made rule
pub not_found : (g : Grammar) (w : List ℕ) (cs : List Cell) (t : Table) (phrases : List chart.Phrase) (X : Phrase) → Ready g w cs t phrases → NumberOf cs t.base t.end X None → Made g w (phrase_of X) → ⊥
not_found g w cs t phrases X h o m =
    let there = made_there g w cs t.base t.end m.0 h.whole m.1 in
    let left = phrase_apart there.1.left X (ap (λ (v : Rule). v.left) there.3 ∙ m.2) in
    let bad = o there.0 there.1 there.2 left in
    let num = h.numbered.numbers bad.0 bad.1 bad.2 in
    bad.4 num.0 num.1

pub index_none : (g : Grammar) (w : List ℕ) (cs : List Cell) (t : Table) (phrases : List chart.Phrase) (X : Phrase) → Ready g w cs t phrases → Known g w (phrase_of X) → NumberOf cs t.base t.end X None → IndexOf g phrases (phrase_of X) X.category
index_none g w cs t phrases X h (inr m) o = absurd (not_found g w cs t phrases X h o m)
index_none g w cs t phrases X h (inl (c, lt, is)) o =
    let same : X.category ≡ c = ap (λ (Y : chart.Phrase). Y.category) is in
    inl (omega (arith, same, lt), is ∙ ap (bare g) (sym same))

-- the index of a phrase is inside a row
pub index_inside : (g : Grammar) (w : List ℕ) (cs : List Cell) (t : Table) (phrases : List chart.Phrase) (X : chart.Phrase) (i : ℕ) → Ready g w cs t phrases → IndexOf g phrases X i → i < width t
index_inside g w cs t phrases X i h (inl (lt, e)) = omega (arith, h.categories, lt)
index_inside g w cs t phrases X i h (inr (k, n, e)) = omega (arith, below_there phrases k X n, h.total, h.categories, e)

pub phrase_one : (g : Grammar) (phrases : List chart.Phrase) (X Y : chart.Phrase) (i : ℕ) → IndexOf g phrases X i → IndexOf g phrases Y i → X ≡ Y
phrase_one g phrases X Y i (inl (a, e)) (inl (b, f)) = e ∙ sym f
phrase_one g phrases X Y i (inl (a, e)) (inr (k, n, f)) = absurd (omega (arith, a, f))
phrase_one g phrases X Y i (inr (k, n, e)) (inl (b, f)) = absurd (omega (arith, b, e))
phrase_one g phrases X Y i (inr (k, n, e)) (inr (j, m, f)) =
    let same : k ≡ j = omega (arith, e, f) in
    let o : Some X ≡ Some Y = sym n ∙ (ap (slice_get phrases) same ∙ m) in
    cc

nth_one : {X : Type 0} (xs : List X) (k j : ℕ) (x : X) → Apart xs → slice_get xs k ≡ Some x → slice_get xs j ≡ Some x → k ≡ j
nth_one [] k j x a e f = absurd (let z : ◌≡◌ {A = ℕ} 0 1 = cc in omega arith)
nth_one (y ∷ xs) zero zero x a e f = refl
nth_one (y ∷ xs) zero (suc j) x a e f = absurd (a.0 (subst (λ v. Member v xs) (let s : x ≡ y = cc in s) (nth_member xs j x f)))
nth_one (y ∷ xs) (suc k) zero x a e f = absurd (a.0 (subst (λ v. Member v xs) (let s : x ≡ y = cc in s) (nth_member xs k x e)))
nth_one (y ∷ xs) (suc k) (suc j) x a e f = ap suc (nth_one xs k j x a.1 e f)

pub index_one : (g : Grammar) (w : List ℕ) (cs : List Cell) (t : Table) (phrases : List chart.Phrase) (X : chart.Phrase) (i j : ℕ) → Ready g w cs t phrases → IndexOf g phrases X i → IndexOf g phrases X j → i ≡ j
index_one g w cs t phrases X i j h (inl (a, e)) (inl (b, f)) = ap (λ (Y : chart.Phrase). Y.category) (sym e ∙ f)
index_one g w cs t phrases X i j h (inl (a, e)) (inr (k, n, f)) = absurd (bare_not_left g w h.sound i X e ((h.numbered.listed.exactly X).0 (nth_member phrases k X n)))
index_one g w cs t phrases X i j h (inr (k, n, e)) (inl (b, f)) = absurd (bare_not_left g w h.sound j X f ((h.numbered.listed.exactly X).0 (nth_member phrases k X n)))
index_one g w cs t phrases X i j h (inr (k, n, e)) (inr (l, m, f)) = let same = nth_one phrases k l X h.numbered.listed.apart n m in omega (arith, e, f, same)

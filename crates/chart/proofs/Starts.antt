-- All rules start: where an item for constituent l of a phrase starts at j, each rule of that phrase has an item that
-- starts there, and there is such a rule. The grammar is sound.
use Rattle.std.proofs.Common.{◌≡◌, ℕ, zero, suc, List, replicate, Some, unwrap_or, sym, refl, ap, ◌∙◌, arith}
use Rattle.std.specs.List.{slice_get}
use Rattle.grammar.specs.Grammar.{Grammar, dimension_at}
use Rattle.chart.specs.Sound.{Sound}
use Rattle.chart.specs.Chart.{Reading, unread, read, Rule, Fact, made, item, reading_at, bare, Begin, begin, Step, scan, predict_bare, finish, copy, Join, predict, combine, Chart, first, one, two, RuleOf, is_bare, is_made}
use Rattle.chart.proofs.Matching.{put_here}
use Rattle.chart.proofs.Soundness.{Good, sound}
use Rattle.chart.proofs.Completeness.{start_item}

-- Something is read on the left of a made rule.
abbrev pub SomeRead : Fact → Type 0
SomeRead (made r) = (l : ℕ) × (j : ℕ) × (k : ℕ) × (reading_at r.left l ≡ Some (read j k))
SomeRead (item r l j i k) = Unit {0}

some_read_step : {g : Grammar} {w : List ℕ} {x z : Fact} → Step g w x z → Good g w x → SomeRead z
some_read_step (scan e n) h = tt
some_read_step (predict_bare e a u b) h = tt
some_read_step (finish {r = r} {l = l} {j = j} {k = k} e) h = (l, j, k, put_here r.left.readings l unread (read j k) h.open')
some_read_step (copy e x y ab kn) h = tt

some_read_join : {g : Grammar} {x y z : Fact} → Join g x y z → SomeRead z
some_read_join (predict e a u) = tt
some_read_join (combine e x u is) = tt

some_read_begin : {g : Grammar} {z : Fact} → Begin g z → SomeRead z
some_read_begin (begin b c) = tt

pub some_read : (g : Grammar) (w : List ℕ) → Sound g → {z : Fact} → Chart g w z → SomeRead z
some_read g w s (first b) = some_read_begin b
some_read g w s (one c st) = some_read_step st (sound g w s c)
some_read g w s (two c d st) = some_read_join st

-- Nothing is read in a bare phrase.
pub bare_unread : (g : Grammar) (c l : ℕ) (m : Reading) → reading_at (bare g c) l ≡ Some m → m ≡ unread
bare_unread g c zero m e = cc
bare_unread g c (suc l) m e = go (unwrap_or (dimension_at g c) 0) l e
  where
    go : (n l : ℕ) → slice_get (replicate n unread) l ≡ Some m → m ≡ unread
    go zero l e = cc
    go (suc n) zero e = cc
    go (suc n) (suc l) e = go n l e

-- What holds of an item: its left side is that of a rule, and every rule of it starts.
abbrev pub Started : Grammar → List ℕ → Fact → Type 0
Started g w (made r) = Unit {0}
Started g w (item r l j i k) = ((q : Rule) × RuleOf g w q × (q.left ≡ r.left)) × ((q : Rule) → RuleOf g w q → q.left ≡ r.left → Chart g w (item q l j 0 j))

started_begin : (g : Grammar) (w : List ℕ) → Sound g → {z : Fact} → Begin g z → Started g w z
started_begin g w s (begin {r = r} b c) = (
  (r, is_bare b, refl),
  go,
)
  where
    go : (q : Rule) → RuleOf g w q → q.left ≡ r.left → Chart g w (item q 1 0 0 0)
    go q (is_bare d) e = first (begin d (ap (λ X. X.category) e ∙ c))
    go q (is_made d) e =
        let h = some_read g w s d in
        let is : reading_at (bare g b.production.result) h.0 ≡ Some (read h.1 h.2) = ap (λ X. reading_at X h.0) (sym (ap (λ x. x.left) b.is) ∙ sym e) ∙ h.3 in
        let no' : read h.1 h.2 ≡ unread = bare_unread g b.production.result h.0 (read h.1 h.2) is in
        absurd (let z : ◌≡◌ {A = ℕ} 0 1 = cc in omega arith)

started_step : (g : Grammar) (w : List ℕ) {x z : Fact} → Step g w x z → Chart g w x → Started g w x → Started g w z
started_step g w (scan e n) c h = h
started_step g w (predict_bare {q = q} {s = s} e a u b) c h =
    ((q, is_bare b, refl), λ p d f. start_item g w c e (a ∙ ap Some (sym f)) (ap (λ X. reading_at X s) f ∙ u) d)
started_step g w (finish e) c h = tt
started_step g w (copy e x y ab kn) c h = h

started_join : (g : Grammar) (w : List ℕ) {x y z : Fact} → Join g x y z → Chart g w x → Chart g w y → Started g w x → Started g w z
started_join g w (predict {q = q} {s = s} e a u) c d h =
    ((q, is_made d, refl), λ p m f. start_item g w c e (a ∙ ap Some (sym f)) (ap (λ X. reading_at X s) f ∙ u) m)
started_join g w (combine e x u is) c d h = h

pub started : (g : Grammar) (w : List ℕ) → Sound g → {z : Fact} → Chart g w z → Started g w z
started g w s (first b) = started_begin g w s b
started g w s (one c st) = started_step g w st c (started g w s c)
started g w s (two c d st) = started_join g w st c d (started g w s c)

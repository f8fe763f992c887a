-- One more token: the chart of w is part of the new one (`grows`), what is new ends at the new position (`new_ends`), and
-- only scans at the end of w and copies up to the new position open (`opens`). The last two are for sound grammars.
use Rattle.std.proofs.Common.{◌≡◌, ℕ, suc, ◌≤◌, ◌⊎◌, List, [], ◌∷◌, ◌++◌, length, Some, sym, refl, ap, ◌∙◌, subst, inl, inr, eq-or-lt_of_le, arith}
use Rattle.std.specs.List.{slice_get}
use Rattle.std.proofs.lemmas.List.{length-append}
use Rattle.grammar.specs.declared.Symbol.TheVariants.{Token}
use Rattle.grammar.specs.Grammar.{Grammar}
use Rattle.chart.specs.Sound.{Sound}
use Rattle.chart.specs.Chart.{Reading, unread, read, Phrase, Rule, Fact, made, item, Reads, reading_at, read_as, after_dot, Begin, begin, Step, scan, predict_bare, finish, copy, Join, predict, combine, Chart, first, one, two}
use Rattle.chart.specs.Theorems.{EndsAt, Opens, scans, copies}
use Rattle.chart.proofs.Spans.{nth_append, nth_append_inside, nth_inside, reads_grow, reads_shrink, reads_order}
use Rattle.chart.proofs.Matching.{put_here}
use Rattle.chart.proofs.Soundness.{sound}
use Rattle.chart.proofs.Ends.{Upto, PhraseUpto, all_at, ends, item_inside}

step_grows : (g : Grammar) (w v : List ℕ) {x z : Fact} → Step g w x z → Step g (w ++ v) x z
step_grows g w v (scan {k = k} {t = t} e n) = scan e (nth_append w v k t n)
step_grows g w v (predict_bare e a u b) = predict_bare e a u b
step_grows g w v (finish e) = finish e
step_grows g w v (copy e x y ab kn) = copy e x y (reads_grow v ab) (reads_grow v kn)

pub grows : (g : Grammar) (w v : List ℕ) {f : Fact} → Chart g w f → Chart g (w ++ v) f
grows g w v (first b) = first b
grows g w v (one c s) = one (grows g w v c) (step_grows g w v s)
grows g w v (two c d s) = two (grows g w v c) (grows g w v d) s

nth_last : (w : List ℕ) (t : ℕ) → slice_get (w ++ (t ∷ [])) (length w) ≡ Some t
nth_last [] t = refl
nth_last (x ∷ w) t = nth_last w t

length_more : (w : List ℕ) (t : ℕ) → length (w ++ (t ∷ [])) ≡ suc (length w)
length_more w t = length-append w (t ∷ []) ∙ omega arith

pub opens : (g : Grammar) (w : List ℕ) (t : ℕ) → Sound g → {x z : Fact} → Chart g w x → Step g (w ++ (t ∷ [])) x z → Chart g w z ⊎ Opens g w t x z
opens g w t sd c (scan {r = r} {l = l} {j = j} {i = i} {k = k} {t = y} e n) = elim (eq-or-lt_of_le (item_inside g w sd c)) [
  | inl q ↦
      let n' : slice_get (w ++ (t ∷ [])) (length w) ≡ Some y = subst (λ x. slice_get (w ++ (t ∷ [])) x ≡ Some y) q n in
      let is : t ≡ y = let last = nth_last w t in cc in
      inr (subst (λ x. Opens g w t (item r l j i x) (item r l j (suc i) (suc x))) (sym q) (scans (subst (λ x. after_dot g r l i ≡ Some (Token x)) (sym is) e)))
  | inr h ↦ inl (one c (scan e (sym (nth_append_inside w (t ∷ []) k h) ∙ n)))
]
opens g w t sd c (predict_bare e a u b) = inl (one c (predict_bare e a u b))
opens g w t sd c (finish e) = inl (one c (finish e))
opens g w t sd c (copy {r = r} {l = l} {j = j} {i = i} {k = k} {d = d} {s = s} {a = a} {b = b} {m = m} {X = X} {u = u} e x y ab km) =
    let h = ends g w sd c in
    let span = all_at (Upto k) X.readings s (read a b) (all_at (PhraseUpto k) r.arguments d X h.arguments x) y in
    let low : b ≤ length w = omega (arith, item_inside g w sd c, span.1) in
    let old : Reads w a b u = reads_shrink w (t ∷ []) ab low in
    let size : m ≤ suc (length w) = omega (arith, km.inside, length_more w t) in
    elim (eq-or-lt_of_le size) [
      | inl q ↦ inr (subst (λ n. Opens g w t (item r l j i k) (item r l j (suc i) n)) (sym q) (copies e x y old (subst (λ n. Reads (w ++ (t ∷ [])) k n u) q km)))
      | inr n ↦ inl (one c (copy e x y old (reads_shrink w (t ∷ []) km (omega arith))))
    ]

pub opens_step : (g : Grammar) (w : List ℕ) (t : ℕ) {x z : Fact} → Opens g w t x z → Step g (w ++ (t ∷ [])) x z
opens_step g w t (scans e) = scan e (nth_last w t)
opens_step g w t (copies e x y ab km) = copy e x y (reads_grow (t ∷ []) ab) km

opens_end : {g : Grammar} {w : List ℕ} {t : ℕ} {x z : Fact} → Opens g w t x z → EndsAt (suc (length w)) z
opens_end (scans e) = refl
opens_end (copies e x y ab km) = refl

-- A step from what ends at the new position ends there.
new_step : (g : Grammar) (w : List ℕ) (t : ℕ) → Sound g → {x z : Fact} → Chart g (w ++ (t ∷ [])) x → Step g (w ++ (t ∷ [])) x z
    → EndsAt (suc (length w)) x → EndsAt (suc (length w)) z
new_step g w t sd c (scan {k = k} {t = y} e n) q = absurd (omega (arith, nth_inside (w ++ (t ∷ [])) k y n, length_more w t))
new_step g w t sd c (predict_bare e a u b) q = q
new_step g w t sd c (finish {r = r} {l = l} {j = j} {k = k} e) q =
    (l, j, put_here r.left.readings l unread (read j k) (sound g (w ++ (t ∷ [])) sd c).open' ∙ ap (λ x. Some (read j x)) q)
new_step g w t sd c (copy {k = k} {m = m} e x y ab km) q = omega (arith, reads_order km, km.inside, length_more w t)

new_join : (g : Grammar) (w : List ℕ) (t : ℕ) → Sound g → {x y z : Fact} → Chart g (w ++ (t ∷ [])) x → Chart g (w ++ (t ∷ [])) y → Join g x y z
    → Chart g w x ⊎ EndsAt (suc (length w)) x → Chart g w y ⊎ EndsAt (suc (length w)) y → Chart g w z ⊎ EndsAt (suc (length w)) z
new_join g w t sd c d (predict e a u) (inr p) q = inr p
new_join g w t sd c d (predict e a u) (inl p) (inl q) = inl (two p q (predict e a u))
new_join g w t sd c d (predict {r = r} {q = q} {k = k} {d = f} e a u) (inl p) (inr n) =
    let h = ends g w sd p in
    let span = all_at (Upto k) q.left.readings n.0 (read n.1 (suc (length w))) (all_at (PhraseUpto k) r.arguments f q.left h.arguments a) n.2 in
    absurd (omega (arith, span.1, item_inside g w sd p))
new_join g w t sd c d (combine {q = q} {k = k} {d = f} {s = s} {m = m} {X = X} e x u is) (inr p) n =
    let last = ends g (w ++ (t ∷ [])) sd d in
    let there : reading_at q.left s ≡ Some (read k m) = ap (λ Z. reading_at Z s) is ∙ put_here X.readings s unread (read k m) u in
    let o = all_at (Upto last.0) q.left.readings s (read k m) last.1.left there in
    inr (omega (arith, o.0, item_inside g (w ++ (t ∷ [])) sd (two c d (combine e x u is)), length_more w t))
new_join g w t sd c d (combine e x u is) (inl p) (inl n) = inl (two p n (combine e x u is))
new_join g w t sd c d (combine {r = r} {q = q} {k = k} {d = f} {s = s} {m = m} {X = X} e x u is) (inl p) (inr n) =
    let z = two c d (combine e x u is) in
    let h = ends g (w ++ (t ∷ [])) sd z in
    let Y = all_at (PhraseUpto m) (Rattle.chart.specs.Chart.put r.arguments f q.left) f q.left h.arguments (put_here r.arguments f X q.left x) in
    let span = all_at (Upto m) q.left.readings n.0 (read n.1 (suc (length w))) Y n.2 in
    inr (omega (arith, span.1, item_inside g (w ++ (t ∷ [])) sd z, length_more w t))

new_one : (g : Grammar) (w : List ℕ) (t : ℕ) → Sound g → {x z : Fact} → Chart g (w ++ (t ∷ [])) x → Step g (w ++ (t ∷ [])) x z
    → Chart g w x ⊎ EndsAt (suc (length w)) x → Chart g w z ⊎ EndsAt (suc (length w)) z
new_one g w t sd c s (inl p) = elim (opens g w t sd p s) [ inl o ↦ inl o | inr n ↦ inr (opens_end n) ]
new_one g w t sd c s (inr q) = inr (new_step g w t sd c s q)

pub new_ends : (g : Grammar) (w : List ℕ) (t : ℕ) → Sound g → {f : Fact} → Chart g (w ++ (t ∷ [])) f → Chart g w f ⊎ EndsAt (suc (length w)) f
new_ends g w t sd (first b) = inl (first b)
new_ends g w t sd (one c s) = new_one g w t sd c s (new_ends g w t sd c)
new_ends g w t sd (two c d s) = new_join g w t sd c d s (new_ends g w t sd c) (new_ends g w t sd d)

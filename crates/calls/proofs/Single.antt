-- Each call has one answer: feeding (`one_feeding`), the next list (`one_next_list`), and weighing (`one_weighing`).
use Rattle.std.proofs.Common.{◌≡◌, ℕ, ◌+◌, ◌<◌, ◌≤◌, ◌↔◌, List, [], ◌∷◌, ◌++◌, length, drop, Some, None, Ok, Err, Option, Result, sym, refl, ap, ◌∙◌, subst, inl, inr, arith}
use Rattle.std.specs.List.{AllByRecursion}
use Rattle.grammar.specs.Grammar.{Grammar}
use Rattle.grammar.specs.Trees.{GoesOn}
use Rattle.chart.specs.Chart.{Member, CellsInUse}
use Rattle.cells.specs.declared.Cell.{Cell}
use Rattle.frontier.specs.Listing.{Ascending, Listed}
use Rattle.area.specs.declared.numbers.Numbers.{Numbers}
use Rattle.area.specs.Held.{Held, TooFew, most_tokens}
use Rattle.area.proofs.Single.{one_numbers, in_area, not_short}
use Rattle.calls.specs.declared.refusal.FeedingRefusal.{FeedingRefusal}
use Rattle.calls.specs.declared.refusal.FeedingRefusal.TheVariants.{UnknownToken, FullNote, NoTree, TooShort}
use Rattle.calls.specs.declared.weighing_refusal.WeighingRefusal.{WeighingRefusal}
use Rattle.calls.specs.declared.weighing_refusal.WeighingRefusal.TheVariants.{BadDepth, TooFewValues}
use Rattle.calls.specs.Fed.{Feedable, Fed, NextListed, cells_used}
use Rattle.calls.specs.Closed.{Weighed}
use Rattle.calls.specs.Theorems.{OneFeeding, OneNextList, OneWeighing}

-- Why t is not fed after w.
abbrev pub Why : Grammar → List ℕ → ℕ → ℕ → FeedingRefusal → Type 0
Why g w t len UnknownToken = g.tokens ≤ t
Why g w t len FullNote = (t < g.tokens) × (most_tokens ≤ length w)
Why g w t len NoTree = (t < g.tokens) × (length w < most_tokens) × (GoesOn g w t → ⊥)
Why g w t len TooShort = Feedable g w t × TooFew g (w ++ (t ∷ [])) len

why : (g : Grammar) (w : List ℕ) (t : ℕ) (cs a : List Cell) (r : FeedingRefusal) → Fed g w t cs a (Err r) → Why g w t (length cs) r
why g w t cs a UnknownToken f = f.0
why g w t cs a FullNote f = (f.0, f.1)
why g w t cs a NoTree f = (f.0, f.1, f.2)
why g w t cs a TooShort f = (f.0, f.1)

-- only one reason applies
pub one_reason : (g : Grammar) (w : List ℕ) (t len : ℕ) (r s : FeedingRefusal) → Why g w t len r → Why g w t len s → r ≡ s
one_reason g w t len UnknownToken UnknownToken p q = refl
one_reason g w t len UnknownToken FullNote p q = absurd (omega (arith, p, q.0))
one_reason g w t len UnknownToken NoTree p q = absurd (omega (arith, p, q.0))
one_reason g w t len UnknownToken TooShort p q = absurd (omega (arith, p, q.0.known))
one_reason g w t len FullNote UnknownToken p q = absurd (omega (arith, q, p.0))
one_reason g w t len FullNote FullNote p q = refl
one_reason g w t len FullNote NoTree p q = absurd (omega (arith, p.1, q.1))
one_reason g w t len FullNote TooShort p q = absurd (omega (arith, p.1, q.0.room))
one_reason g w t len NoTree UnknownToken p q = absurd (omega (arith, q, p.0))
one_reason g w t len NoTree FullNote p q = absurd (omega (arith, q.1, p.1))
one_reason g w t len NoTree NoTree p q = refl
one_reason g w t len NoTree TooShort p q = absurd (p.2 q.0.goes_on)
one_reason g w t len TooShort UnknownToken p q = absurd (omega (arith, q, p.0.known))
one_reason g w t len TooShort FullNote p q = absurd (omega (arith, q.1, p.0.room))
one_reason g w t len TooShort NoTree p q = absurd (q.2 p.0.goes_on)
one_reason g w t len TooShort TooShort p q = refl

-- a token that was fed is not refused
pub fed_or_not : (g : Grammar) (w : List ℕ) (t len n : ℕ) → Feedable g w t → CellsInUse g (w ++ (t ∷ [])) n → n ≤ len → (r : FeedingRefusal) → Why g w t len r → ⊥
fed_or_not g w t len n f k le UnknownToken p = omega (arith, p, f.known)
fed_or_not g w t len n f k le FullNote p = omega (arith, p.1, f.room)
fed_or_not g w t len n f k le NoTree p = p.2 f.goes_on
fed_or_not g w t len n f k le TooShort p = not_short g (w ++ (t ∷ [])) len n k le p.1

fed_fits : (g : Grammar) (w : List ℕ) (t : ℕ) (cs a : List Cell) (n : Numbers) (r : FeedingRefusal) → length a ≡ length cs → Fed g w t cs a (Ok n) → Why g w t (length cs) r → ⊥
fed_fits g w t cs a n r e f p = fed_or_not g w t (length cs) (cells_used n) f.0 f.2 (omega (arith, e, in_area g (w ++ (t ∷ [])) a n f.1)) r p

pub one_feeding : OneFeeding
one_feeding g w t cs a b (Ok m) (Ok n) e d p q = ap Ok (one_numbers g (w ++ (t ∷ [])) a b m n p.1 q.1)
one_feeding g w t cs a b (Ok m) (Err s) e d p q = absurd (fed_fits g w t cs a m s e p (why g w t cs b s q))
one_feeding g w t cs a b (Err r) (Ok n) e d p q = absurd (fed_fits g w t cs b n r d q (why g w t cs a r p))
one_feeding g w t cs a b (Err r) (Err s) e d p q = ap Err (one_reason g w t (length cs) r s (why g w t cs a r p) (why g w t cs b s q))

above : (n : ℕ) (ns : List ℕ) (t : ℕ) → AllByRecursion (λ m. n < m) ns → Member t ns → n < t
above n [] t a m = absurd m
above n (x ∷ xs) t a (inl e) = omega (arith, e, a.0)
above n (x ∷ xs) t a (inr later) = above n xs t a.1 later

-- numbers that ascend are told by which they are
pub one_ascending : (xs ys : List ℕ) → Ascending xs → Ascending ys → ((t : ℕ) → Member t xs → Member t ys) → ((t : ℕ) → Member t ys → Member t xs) → xs ≡ ys
one_ascending [] [] a b to from = refl
one_ascending [] (y ∷ ys) a b to from = absurd (from y (inl refl))
one_ascending (x ∷ xs) [] a b to from = absurd (to x (inl refl))
one_ascending (x ∷ xs) (y ∷ ys) a b to from =
    let e : x ≡ y = elim (to x (inl refl)) [
      | inl e ↦ e
      | inr m ↦ elim (from y (inl refl)) [ inl d ↦ sym d | inr k ↦ absurd (omega (arith, above y ys x b.0 m, above x xs y a.0 k)) ]
    ] in
    let on : (t : ℕ) → Member t xs → Member t ys = λ t m. elim (to t (inr m)) [ inl d ↦ absurd (omega (arith, d, e, above x xs t a.0 m)) | inr k ↦ k ] in
    let back : (t : ℕ) → Member t ys → Member t xs = λ t m. elim (from t (inr m)) [ inl d ↦ absurd (omega (arith, d, e, above y ys t b.0 m)) | inr k ↦ k ] in
    ap (λ (n : ℕ). n ∷ xs) e ∙ ap (λ (ns : List ℕ). y ∷ ns) (one_ascending xs ys a.1 b.1 on back)

pub one_next : (g : Grammar) (w xs ys : List ℕ) → Ascending xs → Ascending ys → ((t : ℕ) → Member t xs ↔ GoesOn g w t) → ((t : ℕ) → Member t ys ↔ GoesOn g w t) → xs ≡ ys
one_next g w xs ys a b p q = one_ascending xs ys a b (λ t m. (q t).1 ((p t).0 m)) (λ t m. (p t).1 ((q t).0 m))

one_listed : (xs old a b : List ℕ) (r s : Option ℕ) → Listed xs old a r → Listed xs old b s → (r ≡ s) × (a ≡ b)
one_listed xs old a b None None p q = (refl, p.1 ∙ sym q.1)
one_listed xs old a b None (Some n) p q = absurd (omega (arith, p.0, q.0, q.1))
one_listed xs old a b (Some m) None p q = absurd (omega (arith, q.0, p.0, p.1))
one_listed xs old a b (Some m) (Some n) p q =
    let e : m ≡ n = p.0 ∙ sym q.0 in
    (ap Some e, p.2 ∙ (ap (λ (k : ℕ). xs ++ drop k old) e ∙ sym q.2))

pub one_next_list : OneNextList
one_next_list g w old a b r s p q =
    let same : p.tokens ≡ q.tokens = one_next g w p.tokens q.tokens p.ascending q.ascending p.exactly q.exactly in
    one_listed q.tokens old a b r s (subst (λ (xs : List ℕ). Listed xs old a r) same p.listed) q.listed

pub one_weighing : {A : Type 0} (nought : A) (plus times : A → A → A) (reads : ℕ → A) (writes : A → ℕ) → OneWeighing nought plus times reads writes
one_weighing nought plus times reads writes g w q h weights old a b (Ok u) (Ok v) p k = (ap Ok (p.2.1 p.2.0.0 p.2.0.1 ∙ sym (k.2.1 p.2.0.0 p.2.0.1)), p.3 ∙ sym k.3)
one_weighing nought plus times reads writes g w q h weights old a b (Ok u) (Err BadDepth) p k = absurd (k.0 p.0)
one_weighing nought plus times reads writes g w q h weights old a b (Ok u) (Err TooFewValues) p k = absurd (k.1 p.1)
one_weighing nought plus times reads writes g w q h weights old a b (Err BadDepth) (Ok v) p k = absurd (p.0 k.0)
one_weighing nought plus times reads writes g w q h weights old a b (Err BadDepth) (Err BadDepth) p k = (refl, p.1 ∙ sym k.1)
one_weighing nought plus times reads writes g w q h weights old a b (Err BadDepth) (Err TooFewValues) p k = absurd (p.0 k.0)
one_weighing nought plus times reads writes g w q h weights old a b (Err TooFewValues) (Ok v) p k = absurd (p.1 k.1)
one_weighing nought plus times reads writes g w q h weights old a b (Err TooFewValues) (Err BadDepth) p k = absurd (k.0 p.0)
one_weighing nought plus times reads writes g w q h weights old a b (Err TooFewValues) (Err TooFewValues) p k = (refl, p.2 ∙ sym k.2)

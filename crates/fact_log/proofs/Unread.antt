-- The spans of a phrase with one that is there made unread.
use Rattle.std.proofs.Common.{◌≡◌, ◌≢◌, ℕ, zero, suc, ◌≤◌, map, true, Some, None, Option, MatchOption, IsSomeAnd, refl, sym, ap, ◌∙◌, arith, rules}
use Rattle.grammar.specs.Grammar.{from_one}
use Rattle.chart.specs.Chart.{put}
use Rattle.cells.specs.declared.Span.{Span}
use Rattle.cells.specs.declared.Span.TheVariants.{Unread, Read}
use Rattle.cells.specs.declared.Short.{Short}
use Rattle.cells.specs.declared.Short.TheVariants.{Nil, One, Two, Three}
use Rattle.cells.specs.declared.Phrase.{Phrase}
use Rattle.cells.specs.Facts.{list_of, reading_of}
use Rattle.cells.proofs.Meant.{reading_apart, short_apart}
use Rattle.fact_log.specs.declared.things.Key.{Key}
use Rattle.fact_log.specs.declared.things.Thing as thing
use Rattle.fact_log.specs.declared.things.Thing.{Thing}
use Rattle.fact_log.specs.Things.{unread_at, made_from, PartKey}

pub unread_put : (sp : Short Span) (s : ℕ) (a : Span) → from_one (list_of sp) s ≡ Some a → (s ≤ 3) × (list_of (unread_at sp s) ≡ put (list_of sp) s Unread)
unread_put Nil zero a e = absurd (let z : ◌≡◌ {A = ℕ} 0 1 = cc in omega arith)
unread_put Nil (suc s) a e = absurd (let z : ◌≡◌ {A = ℕ} 0 1 = cc in omega arith)
unread_put (One x) zero a e = absurd (let z : ◌≡◌ {A = ℕ} 0 1 = cc in omega arith)
unread_put (One x) (suc zero) a e = (omega arith, refl)
unread_put (One x) (suc (suc s)) a e = absurd (let z : ◌≡◌ {A = ℕ} 0 1 = cc in omega arith)
unread_put (Two x y) zero a e = absurd (let z : ◌≡◌ {A = ℕ} 0 1 = cc in omega arith)
unread_put (Two x y) (suc zero) a e = (omega arith, refl)
unread_put (Two x y) (suc (suc zero)) a e = (omega arith, refl)
unread_put (Two x y) (suc (suc (suc s))) a e = absurd (let z : ◌≡◌ {A = ℕ} 0 1 = cc in omega arith)
unread_put (Three x y v) zero a e = absurd (let z : ◌≡◌ {A = ℕ} 0 1 = cc in omega arith)
unread_put (Three x y v) (suc zero) a e = (omega arith, refl)
unread_put (Three x y v) (suc (suc zero)) a e = (omega arith, refl)
unread_put (Three x y v) (suc (suc (suc zero))) a e = (omega arith, refl)
unread_put (Three x y v) (suc (suc (suc (suc s)))) a e = absurd (let z : ◌≡◌ {A = ℕ} 0 1 = cc in omega arith)

made_option : (X : Phrase) (sp : Short Span) (s j k : ℕ) (o : Option Span) → o ≡ Some (Read j k) → (s ≡ 4 → ⊥) → s ≤ 3 → sp ≡ unread_at X.spans s
    → Some (thing.TheVariants.Key (record { made = true; phrase = record { category = X.category; spans = sp }; constituent = s; start = j })) ≡ made_from X o s
made_option X sp s j k o e four three same = search rules

-- the key of a made rule with constituent s of its left side read from j
pub made_read : (X : Phrase) (sp : Short Span) (s j k : ℕ) → from_one (list_of X.spans) s ≡ Some (Read j k) → (s ≡ 4 → ⊥) → list_of sp ≡ put (list_of X.spans) s Unread
    → Some (thing.TheVariants.Key (record { made = true; phrase = record { category = X.category; spans = sp }; constituent = s; start = j })) ≡ made_from X (from_one (list_of X.spans) s) s
made_read X sp s j k e four w =
    let u = unread_put X.spans s (Read j k) e in
    made_option X sp s j k (from_one (list_of X.spans) s) e four u.0 (short_apart reading_of reading_apart sp (unread_at X.spans s) (ap (map reading_of) (w ∙ sym u.1)))

-- the same of the key for that constituent; and where it is not read there is none
made_some : (X : Phrase) (s : ℕ) (t : Key) → (s ≡ 4 → ⊥) → PartKey true X s (Some t) → Some (thing.TheVariants.Key t) ≡ made_from X (from_one (list_of X.spans) s) s
made_some X s t four p = ap (λ (k : Key). Some (thing.TheVariants.Key k)) p.5 ∙ made_read X p.2 s p.0 p.1 p.3 four p.4

none_option : (X : Phrase) (s : ℕ) (o : Option Span) → (s ≡ 4 → ⊥) → ((j k : ℕ) → o ≢ Some (Read j k)) → None ≡ made_from X o s
none_option X s None four n = search rules
none_option X s (Some Unread) four n = search rules
none_option X s (Some (Read j k)) four n = absurd (n j k refl)

made_none : (X : Phrase) (s : ℕ) → (s ≡ 4 → ⊥) → PartKey true X s None → None ≡ made_from X (from_one (list_of X.spans) s) s
made_none X s four p = none_option X s (from_one (list_of X.spans) s) four p

pub made_via : (X : Phrase) (s : ℕ) (o : Option Key) (r : Option Thing) → (s ≡ 4 → ⊥) → PartKey true X s o → MatchOption o (r ≡ None) (λ k. IsSomeAnd r (λ t. t ≡ thing.TheVariants.Key k))
    → r ≡ made_from X (from_one (list_of X.spans) s) s
made_via X s None r four p k = k ∙ made_none X s four p
made_via X s (Some x) None four p k = elim k [ ]
made_via X s (Some x) (Some t) four p k = ap Some k ∙ made_some X s x four p

-- The answers to questions, each from what the area answers: the tokens that may follow (`next_*`), linearizing (`written_*`), and
-- one question after another (`asked_more`).
use Rattle.std.proofs.Common.{◌≡◌, ℕ, suc, ◌-◌, ◌<◌, ◌≤◌, List, [], ◌∷◌, ◌++◌, length, take, drop, min, Some, None, Option, Ok, Err, refl, sym, ap, ◌∙◌, subst, inl, inr, arith}
use Rattle.std.proofs.Math.Nat.{min-eq_left, min_comm}
use Rattle.std.proofs.Math.Seq.{take-append_seam}
use Rattle.std.proofs.lemmas.Bool.{cases_lt}
use Rattle.std.specs.List.{AllByRecursion}
use Rattle.std.specs.Option.{ok_or}
use Rattle.grammar.specs.Grammar.{Grammar}
use Rattle.grammar.specs.Trees.{string}
use Rattle.faults.specs.Sound.{Sound}
use Rattle.chart.specs.Chart.{Member}
use Rattle.frontier.specs.Listing.{Ascending}
use Rattle.linearize.specs.Linearizes.{Linearizes}
use Rattle.linearize.specs.declared.refusal.Unlinearized.{Unlinearized}
use Rattle.linearize.specs.declared.refusal.Unlinearized.TheVariants.{NoTree, TooShort}
use Rattle.calls.specs.Fed.{NextListed}
use Rattle.calls.proofs.Feedings.{goes_below}
use Rattle.note.specs.declared.short_list.ListTooShort.{ListTooShort}
use Rattle.note.specs.declared.question.Question.{Question}
use Rattle.note.specs.declared.question.Answer.{Answer}
use Rattle.note.specs.Promises.{NextTold, NextAnswered, LinearizedAnswered, Answered, AllAnswered}

-- the front of a list
front : {X : Type 0} (xs ys : List X) (n : ℕ) → n ≡ length xs → take n (xs ++ ys) ≡ xs
front xs ys n e = ap (λ (k : ℕ). take k (xs ++ ys)) e ∙ take-append_seam xs ys

-- what a vector holds of a list that was written over its front, cut to so many numbers as were written
pub written_back : (s before new rest items : List ℕ) (n len : ℕ) → n ≡ length s → new ≡ s ++ drop n before → len ≡ length new → items ≡ take n (take len (new ++ rest)) → items ≡ s
written_back s before new rest items n len many is whole cut = cut ∙ (ap (take n) (front new rest len whole) ∙ (ap (take n) is ∙ front s (drop n before) n many))

pub next_told : (g : Grammar) (w : List ℕ) (old new rest items : List ℕ) (n len room : ℕ) → NextListed g w old new (Some n) → length old ≤ room → len ≡ length new → items ≡ take n (take len (new ++ rest)) → NextAnswered g w room (Ok items)
next_told g w old new rest items n len room k le whole cut =
    let l = k.listed in
    let same = written_back k.tokens old new rest items n len l.0 l.2 whole cut in
    subst (λ (v : List ℕ). NextAnswered g w room (Ok v)) (sym same) (record { ascending = k.ascending; exactly = k.exactly }, omega (arith, l.0, l.1))

pub linearized_told : (g : Grammar) (ns old new rest items : List ℕ) (n len room : ℕ) → Linearizes g ns old new (Ok n) → length old ≡ room → len ≡ length new → items ≡ take n (take len (new ++ rest)) → LinearizedAnswered g ns room (Ok items)
linearized_told g ns old new rest items n len room k le whole cut =
    let same = written_back (string g k.0.tree) old new rest items n len k.1 k.3 whole cut in
    (k.0, same, omega (arith, le, k.1, k.2, ap length same))

pub linearized_refused : (g : Grammar) (ns old new : List ℕ) (room : ℕ) (r : Unlinearized) → Linearizes g ns old new (Err r) → length old ≡ room → LinearizedAnswered g ns room (Err r)
linearized_refused g ns old new room NoTree k e = k.0
linearized_refused g ns old new room TooShort k e = (k.0, omega (arith, e, k.1))

all_above : (n : ℕ) (ns : List ℕ) (t : ℕ) → AllByRecursion (λ m. n < m) ns → Member t ns → n < t
all_above n [] t a m = absurd m
all_above n (x ∷ xs) t a m = elim m [
  | inl e ↦ subst (λ (v : ℕ). n < v) (sym e) a.0
  | inr later ↦ all_above n xs t a.1 later
]

-- numbers that ascend and lie from low on and below high are at most high - low
few_ascending : (low high : ℕ) (ns : List ℕ) → low ≤ high → Ascending ns → ((t : ℕ) → Member t ns → (low ≤ t) × (t < high)) → length ns ≤ high - low
few_ascending low high [] le a m = omega arith
few_ascending low high (n ∷ ns) le a m =
    let here = m n (inl refl) in
    let rest = few_ascending (suc n) high ns (omega (arith, here.1)) a.1 (λ t h. (all_above n ns t a.0 h, (m t (inr h)).1)) in
    omega (arith, rest, here.0, here.1)

pub next_untold : (g : Grammar) (w : List ℕ) (old new : List ℕ) (room : ℕ) → Sound g → AllByRecursion (λ t. t < g.tokens) w → NextListed g w old new None → length old ≡ min room 1024 → (r : ListTooShort) → NextAnswered g w room (Err r)
next_untold g w old new room sd known k is r =
    let l = k.listed in
    let few = few_ascending 0 1024 k.tokens (omega arith) k.ascending (λ t m. (omega arith, let b = goes_below g w t sd known ((k.exactly t).0 m) in omega (arith, b, sd.tokens))) in (
      k.tokens,
      record { ascending = k.ascending; exactly = k.exactly },
      elim (cases_lt room 1024) [
        | inl lt ↦ let low : min room 1024 ≡ room = min-eq_left (omega (arith, lt)) in omega (arith, l.0, is, low)
        | inr ge ↦
            let high : min room 1024 ≡ 1024 = min_comm room 1024 ∙ min-eq_left (omega (arith, ge)) in
            absurd (omega (arith, l.0, is, few, high))
      ],
    )

-- the next list, where a short one has a refusal
pub next_to : (g : Grammar) (w : List ℕ) (old new : List ℕ) (o : Option ℕ) (r : ListTooShort) → NextListed g w old new o → NextTold g w old new (ok_or o r)
next_to g w old new None r k = (k.tokens, record { ascending = k.ascending; exactly = k.exactly }, k.listed.0, k.listed.1)
next_to g w old new (Some n) r k = (k.tokens, record { ascending = k.ascending; exactly = k.exactly }, k.listed.0, k.listed.1, k.listed.2)

-- one question more
pub asked_more : (g : Grammar) (len : ℕ) (w : List ℕ) (qs : List Question) (told : List Answer) (u : List ℕ) (q : Question) (a : Answer) (v : List ℕ) → AllAnswered g len w qs told u → Answered g len u q a v → AllAnswered g len w (qs ++ (q ∷ [])) (told ++ (a ∷ [])) v
asked_more g len w [] [] u q a v k more = (v, subst (λ (x : List ℕ). Answered g len x q a v) k more, refl)
asked_more g len w [] (b ∷ bs) u q a v k more = absurd k
asked_more g len w (p ∷ ps) [] u q a v k more = absurd k
asked_more g len w (p ∷ ps) (b ∷ bs) u q a v k more = (k.0, k.1, asked_more g len k.0 ps bs u q a v k.2 more)

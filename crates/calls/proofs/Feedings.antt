-- Feeding by the rule (`fed-*`), and which tokens may follow (`below-count`).
use Rattle.std.proofs.Common.{◌≡◌, ℕ, zero, suc, ◌-◌, ◌<◌, ◌≤◌, Bool, true, false, List, [], ◌∷◌, length, get_or, replicate, Decides, Some, None, Option, refl, ap, inl, inr, arith}
use Rattle.std.proofs.lemmas.Bool.{cases_lt}
use Rattle.std.specs.List.{AllByRecursion}
use Rattle.std.specs.Option.{ok_or}
use Rattle.grammar.specs.declared.Symbol.TheVariants.{Token}
use Rattle.grammar.specs.Grammar.{Grammar}
use Rattle.grammar.specs.Trees.{GoesOn}
use Rattle.faults.specs.Sound as checked
use Rattle.faults.proofs.Made.{all_at}
use Rattle.chart.specs.Chart.{Frontier, before, within, CellsInUse, grammar_cells}
use Rattle.chart.proofs.Completeness.{goes_on_frontier, dot_symbol}
use Rattle.chart.proofs.Faultless.{faultless_sound}
use Rattle.chart.proofs.Soundness.{sound}
use Rattle.cells.specs.declared.Cell.{Cell}
use Rattle.extending.specs.Charted.{facts_from}
use Rattle.extending.proofs.Counted.{charted_list, log_length}
use Rattle.frontier.specs.Listing.{marked_of, Listed}
use Rattle.frontier.proofs.Numbers.{members, ascends}
use Rattle.frontier.specs.Marks.{Marks}
use Rattle.area.specs.declared.numbers.Numbers.{Numbers}
use Rattle.area.specs.Held.{Held}
use Rattle.area.proofs.Cleared.{get_d_replicate}
use Rattle.area.specs.Opened.{Extended}
use Rattle.calls.specs.declared.refusal.FeedingRefusal.TheVariants.{TooShort}
use Rattle.calls.specs.Fed.{cells_used, Feedable, Fed, NextListed}

-- the cells in use are those up to where the facts end, and one for each token
pub used : (g : Grammar) (w : List ℕ) (cs : List Cell) (n : Numbers) → Held g w cs n → CellsInUse g w (cells_used n)
used g w cs n h =
    let gc = grammar_cells g in
    let limit = length cs - length w in
    let l = h.charted.state.log in
    let size = log_length cs gc n.end limit l in
    let begun = l.begun in
    let many = h.many in
    record { facts = facts_from cs gc (n.end - gc); listed = charted_list g w cs gc n.end limit h.charted; total = omega arith }

-- a token that may follow is known
pub token_below : (g : Grammar) (w : List ℕ) (t : ℕ) → checked.Sound g → AllByRecursion (λ u. u < g.tokens) w → Frontier g w t → t < g.tokens
token_below g w t sd known (before {r = r} {l = l} {i = i} ch a) =
    let s = faultless_sound g sd in
    let R = (sound g w s ch).rule in
    let sp = s.places r.place R.production R.filled in
    sp.tokens l (suc i) t (dot_symbol g r.place l i (Token t) R.production R.filled sp a)
token_below g w t sd known (within {c = c} ch a n rd once again lt at) = all_at (λ u. u < g.tokens) w c t known at

pub goes_below : (g : Grammar) (w : List ℕ) (t : ℕ) → checked.Sound g → AllByRecursion (λ u. u < g.tokens) w → GoesOn g w t → t < g.tokens
goes_below g w t sd known h = token_below g w t sd known (goes_on_frontier g w t (faultless_sound g sd) h)

-- where no token was marked before
unmarked : (n t : ℕ) → get_or (replicate n false) t false ≡ true → ⊥
unmarked n t e = let f = get_d_replicate n t false in let z : ◌≡◌ {A = ℕ} 0 1 = cc in omega arith

length_all : (n : ℕ) → length (replicate n false) ≡ n
length_all zero = refl
length_all (suc n) = ap suc (length_all n)

pub marked_only : (g : Grammar) (w : List ℕ) (n : ℕ) (new : List Bool) → Marks (GoesOn g w) (replicate n false) new → (t : ℕ) → t < n → Decides (get_or new t false) (GoesOn g w t)
marked_only g w n new k t lt =
    let d = k t (omega (arith, length_all n)) in
    (λ e. elim (d.0 e) [ inl old ↦ absurd (unmarked n t old) | inr goes ↦ goes ], λ h. d.1 (inr h))

past_default : (xs : List Bool) (t : ℕ) → length xs ≤ t → get_or xs t false ≡ false
past_default [] t le = refl
past_default (x ∷ xs) zero le = absurd (omega arith)
past_default (x ∷ xs) (suc t) le = past_default xs t (omega arith)

pub next_listed : (g : Grammar) (w : List ℕ) (marks : List Bool) (old new : List ℕ) (r : Option ℕ) → checked.Sound g → AllByRecursion (λ u. u < g.tokens) w → length marks ≡ 1024 → Marks (GoesOn g w) (replicate 1024 false) marks → Listed (marked_of marks) old new r
    → NextListed g w old new r
next_listed g w marks old new r sd known len k l =
    record {
      tokens = marked_of marks;
      ascending = ascends marks;
      exactly = λ t. elim (cases_lt t 1024) [
        | inl lt ↦ let d = marked_only g w 1024 marks k t lt in (λ m. d.0 ((members marks t).0 m), λ h. (members marks t).1 (d.1 h))
        | inr ge ↦ (
          λ m. absurd (let e = (members marks t).0 m in let f = past_default marks t (omega (arith, len)) in let z : ◌≡◌ {A = ℕ} 0 1 = cc in omega arith),
          λ h. absurd (let b = goes_below g w t sd known h in omega (arith, sd.tokens)),
        )
      ];
      listed = l;
    }

-- extending by a token that may be fed: the answer of feeding it
pub fed_more : (g : Grammar) (w : List ℕ) (t : ℕ) (cs cs' : List Cell) (n : Numbers) (o : Option Numbers) → Feedable g w t → Extended g w t cs cs' n o → Fed g w t cs cs' (ok_or o TooShort)
fed_more g w t cs cs' n None f x = (f, x.0, x.1)
fed_more g w t cs cs' n (Some m) f x = (f, x.1, used g _ _ _ x.1, x.2)

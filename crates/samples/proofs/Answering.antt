-- A test of each line, computed from the chart, and that a line which passes it holds: `all_hold`.
use Rattle.std.proofs.Common.{◌≡◌, ℕ, ◌+◌, ◌<◌, Bool, true, false, cond, not, ◌&&◌, ◌||◌, eqb, ltb, ◌⊎◌, ◌↔◌, List, [], ◌∷◌, map, length, get_or, is_some, Some, None, Decides, Option, unwrap_or, sym, refl, ap, ◌∙◌, subst, inl, inr, arith}
use Rattle.std.specs.List.{AllByRecursion}
use Rattle.std.proofs.lemmas.Bool.Decides.{Decides-eqb, Decides-and, Decides-or, Decides-like, Decides-ltb, not_from_Decides}
use Rattle.models.specs.contracts.CountAlgebra.TheImpl.{ghosts as counts}
use Rattle.models.specs.contracts.CostAlgebra.TheImpl.{ghosts as costs}
use Rattle.models.specs.Equal.{same_count, same_cost}
use Rattle.grammar.specs.Grammar.{Grammar}
use Rattle.grammar.specs.Trees.{GoesOn}
use Rattle.chart.specs.Sound.{Sound}
use Rattle.chart.specs.Chart.{Phrase, Rule, Fact, made, item, Chart, RuleOf, start_read, Member, Apart, Enumerates, grammar_cells, CellsInUse, Made}
use Rattle.chart.specs.Sums.{same_phrase, value_after, TreeUpTo, made_rules}
use Rattle.chart.specs.Theorems.{Sum}
use Rattle.chart.specs.Written.{string_written}
use Rattle.chart.proofs.Checking.{sound?, passed}
use Rattle.chart.proofs.Completeness.{goes_on_frontier}
use Rattle.chart.proofs.Counting.{same_length, cells_one}
use Rattle.chart.proofs.Phrases.{phrase_test}
use Rattle.chart.proofs.Soundness.{frontier_goes_on, accepts_complete}
use Rattle.chart.proofs.Sums.{trees, start_listed, rules_from_facts}
use Rattle.chart.proofs.Written.{read_written}
use Rattle.samples.specs.Lines.{Line, only_next, not_next, complete, counted, cheapest, linearizes, writes_none, cells, too_short, bounded, Counted, Cheapest, Holds}
use Rattle.samples.proofs.Saturation.{has, all_are, only, live_places, chart_of, facts_of, rules_of, frontier}
use Rattle.samples.proofs.Tests.{has_test}
use Rattle.samples.proofs.Charting.{chart_listed}
use Rattle.samples.proofs.Living.{live_listed, bares_listed}
use Rattle.samples.proofs.Going.{frontier_exactly}

-- The grammar is sound, and the chart is computed.
abbrev ready : Grammar → List ℕ → Bool
ready g w = is_some (sound? g) && is_some (chart_of g w)

abbrev has_phrase : Phrase → List Phrase → Bool
has_phrase X [] = false
has_phrase X (Y ∷ Ys) = same_phrase X Y || has_phrase X Ys

-- Each phrase of the list once.
abbrev distinct : List Phrase → List Phrase
distinct [] = []
distinct (X ∷ Xs) = cond (has_phrase X (distinct Xs)) (distinct Xs) (X ∷ distinct Xs)

-- The left sides of the made rules among facts.
abbrev lefts_of : List Fact → List Phrase
lefts_of facts = map (λ r. r.left) (made_rules facts)

abbrev cells_at : Grammar → List ℕ → ℕ
cells_at g w = grammar_cells g + length w + length (facts_of g w)

abbrev same_numbers : List ℕ → List ℕ → Bool
same_numbers [] [] = true
same_numbers [] (y ∷ ys) = false
same_numbers (x ∷ xs) [] = false
same_numbers (x ∷ xs) (y ∷ ys) = eqb x y && same_numbers xs ys

abbrev is_string : Option (List ℕ) → List ℕ → Bool
is_string None w = false
is_string (Some u) w = same_numbers u w

abbrev answered : Line → Bool
answered (only_next g w t) = ready g w && only t (frontier g w)
answered (not_next g w t) = ready g w && not (has t (frontier g w))
answered (complete g w) = ready g w && has_phrase (start_read g w) (lefts_of (facts_of g w))
answered (counted g w h n) = ready g w && (eqb (length (trees (rules_of g w) h (start_read g w))) n
    && eqb (counts.writes (value_after counts.nought counts.plus counts.times (λ p. counts.unit) (rules_of g w) h (start_read g w))) (counts.writes (counts.reads n)))
answered (cheapest g w weights h n) = ready g w
    && eqb (costs.writes (value_after costs.nought costs.plus costs.times (λ p. costs.reads (get_or weights p 0)) (rules_of g w) h (start_read g w))) (costs.writes (costs.reads n))
answered (linearizes g ns w) = is_string (string_written g ns) w
answered (writes_none g ns) = not (is_some (string_written g ns))
answered (cells g w n) = ready g w && eqb n (cells_at g w)
answered (too_short g w area) = ready g w && ltb area (cells_at g w)
answered (bounded g w n) = ready g w && eqb n (length g.dimensions + length (distinct (lefts_of (facts_of g w))))

abbrev pub all_answered : List Line → Bool
all_answered [] = true
all_answered (l ∷ ls) = answered l && all_answered ls

both : (a b : Bool) → (a && b) ≡ true → (a ≡ true) × (b ≡ true)
both a b e = (Decides-and a b ((λ p. p), (λ p. p)) ((λ p. p), (λ p. p))).0 e

not_true : (b : Bool) → not b ≡ true → b ≡ false
not_true true e = sym e
not_true false e = refl

value_of : {A : Type 0} (o : Option A) (d : A) → is_some o ≡ true → o ≡ Some (unwrap_or o d)
value_of None d e = absurd (let z : ◌≡◌ {A = ℕ} 0 1 = cc in omega arith)
value_of (Some x) d e = refl

none_of : {A : Type 0} (o : Option A) → is_some o ≡ false → o ≡ None
none_of None e = refl
none_of (Some x) e = absurd (let z : ◌≡◌ {A = ℕ} 0 1 = cc in omega arith)

is_sound : (g : Grammar) (w : List ℕ) → ready g w ≡ true → Sound g
is_sound g w e = passed (sound? g) (both (is_some (sound? g)) (is_some (chart_of g w)) e).0

facts_listed : (g : Grammar) (w : List ℕ) → ready g w ≡ true → Enumerates (Chart g w) (facts_of g w)
facts_listed g w e =
    let h = both (is_some (sound? g)) (is_some (chart_of g w)) e in
    chart_listed g w _ (bares_listed g (passed (sound? g) h.0)) 1000 (facts_of g w) (value_of (chart_of g w) [] h.1)

rules_all : (g : Grammar) (w : List ℕ) → ready g w ≡ true → Enumerates (RuleOf g w) (rules_of g w)
rules_all g w e = rules_from_facts g (is_sound g w e) w (live_places g) (facts_of g w) (live_listed g (is_sound g w e)) (facts_listed g w e)

-- The next tokens.
goes_on : (g : Grammar) (w : List ℕ) → ready g w ≡ true → (t : ℕ) → GoesOn g w t ↔ Member t (frontier g w)
goes_on g w e t = (
  (λ h. (frontier_exactly g w (facts_listed g w e) t).0 (goes_on_frontier g w t (is_sound g w e) h)),
  (λ m. frontier_goes_on g w t (is_sound g w e) ((frontier_exactly g w (facts_listed g w e) t).1 m)),
)

all_are_lem : (t : ℕ) (xs : List ℕ) → all_are t xs ≡ true → (x : ℕ) → Member x xs → x ≡ t
all_are_lem t [] e x m = absurd m
all_are_lem t (y ∷ ys) e x (inl h) = h ∙ (Decides-eqb y t).0 (both (eqb y t) (all_are t ys) e).0
all_are_lem t (y ∷ ys) e x (inr m) = all_are_lem t ys (both (eqb y t) (all_are t ys) e).1 x m

only_is : (t : ℕ) (xs : List ℕ) → only t xs ≡ true → (x : ℕ) → Member x xs ↔ (x ≡ t)
only_is t xs e x =
    let h = both (has t xs) (all_are t xs) e in
    (all_are_lem t xs h.1 x, λ p. subst (λ y. Member y xs) (sym p) ((has_test t xs).0 h.0))

-- The left sides of made rules.
phrase_in : (X : Phrase) (Ys : List Phrase) → Decides (has_phrase X Ys) (Member X Ys)
phrase_in X [] = ((λ e. absurd (let z : ◌≡◌ {A = ℕ} 0 1 = cc in omega arith)), (λ m. absurd m))
phrase_in X (Y ∷ Ys) = Decides-or (same_phrase X Y) (has_phrase X Ys) (phrase_test X Y) (phrase_in X Ys)

left_made : (X : Phrase) (facts : List Fact) → Member X (lefts_of facts) → (r : Rule) × Member (made r) facts × (r.left ≡ X)
left_made X [] m = absurd m
left_made X (made r ∷ facts) (inl e) = (r, inl refl, sym e)
left_made X (made r ∷ facts) (inr m) = let h = left_made X facts m in (h.0, inr h.1, h.2)
left_made X (item r l j i k ∷ facts) m = let h = left_made X facts m in (h.0, inr h.1, h.2)

made_left : (r : Rule) (facts : List Fact) → Member (made r) facts → Member r.left (lefts_of facts)
made_left r [] m = absurd m
made_left r (made q ∷ facts) (inl e) = let same : r ≡ q = cc in inl (ap (λ x. x.left) same)
made_left r (made q ∷ facts) (inr m) = inr (made_left r facts m)
made_left r (item q l j i k ∷ facts) (inl e) = absurd (let z : ◌≡◌ {A = ℕ} 0 1 = cc in omega arith)
made_left r (item q l j i k ∷ facts) (inr m) = made_left r facts m

module _ (X : Phrase) (Ys : List Phrase) where
  in_more : (Z : Phrase) (b : Bool) → has_phrase X Ys ≡ b → (Z ≡ X) ⊎ Member Z Ys → Member Z (cond b Ys (X ∷ Ys))
  in_more Z true e (inl h) = subst (λ Y. Member Y Ys) (sym h) ((phrase_in X Ys).0 e)
  in_more Z true e (inr m) = m
  in_more Z false e m = m

  of_more : (Z : Phrase) (b : Bool) → Member Z (cond b Ys (X ∷ Ys)) → (Z ≡ X) ⊎ Member Z Ys
  of_more Z true m = inr m
  of_more Z false m = m

  apart_more : (b : Bool) → has_phrase X Ys ≡ b → Apart Ys → Apart (cond b Ys (X ∷ Ys))
  apart_more true e a = a
  apart_more false e a = (not_from_Decides (has_phrase X Ys) (phrase_in X Ys) e, a)

distinct_apart : (Xs : List Phrase) → Apart (distinct Xs)
distinct_apart [] = tt
distinct_apart (X ∷ Xs) = apart_more X (distinct Xs) (has_phrase X (distinct Xs)) refl (distinct_apart Xs)

in_distinct : (Z : Phrase) (Xs : List Phrase) → Member Z Xs → Member Z (distinct Xs)
in_distinct Z [] m = absurd m
in_distinct Z (X ∷ Xs) (inl e) = in_more X (distinct Xs) Z (has_phrase X (distinct Xs)) refl (inl e)
in_distinct Z (X ∷ Xs) (inr m) = in_more X (distinct Xs) Z (has_phrase X (distinct Xs)) refl (inr (in_distinct Z Xs m))

of_distinct : (Z : Phrase) (Xs : List Phrase) → Member Z (distinct Xs) → Member Z Xs
of_distinct Z [] m = absurd m
of_distinct Z (X ∷ Xs) m = elim (of_more X (distinct Xs) Z (has_phrase X (distinct Xs)) m) [ inl e ↦ inl e | inr n ↦ inr (of_distinct Z Xs n) ]

lefts_listed : (g : Grammar) (w : List ℕ) → ready g w ≡ true → Enumerates (Made g w) (distinct (lefts_of (facts_of g w)))
lefts_listed g w e = record {
  apart = distinct_apart (lefts_of (facts_of g w));
  exactly = λ X. (
    (λ m. let h = left_made X (facts_of g w) (of_distinct X (lefts_of (facts_of g w)) m) in (h.0, ((facts_listed g w e).exactly (made h.0)).0 h.1, h.2)),
    (λ h. in_distinct X (lefts_of (facts_of g w)) (subst (λ Y. Member Y (lefts_of (facts_of g w))) h.2 (made_left h.0 (facts_of g w) (((facts_listed g w e).exactly (made h.0)).1 h.1)))),
  );
}

cells_are : (g : Grammar) (w : List ℕ) → ready g w ≡ true → CellsInUse g w (cells_at g w)
cells_are g w e = record { facts = facts_of g w; listed = facts_listed g w e; total = refl }

-- Strings.
numbers_test : (xs ys : List ℕ) → Decides (same_numbers xs ys) (xs ≡ ys)
numbers_test [] [] = ((λ e. refl), (λ e. refl))
numbers_test [] (y ∷ ys) = ((λ e. cc), (λ e. cc))
numbers_test (x ∷ xs) [] = ((λ e. cc), (λ e. cc))
numbers_test (x ∷ xs) (y ∷ ys) =
    Decides-like (eqb x y && same_numbers xs ys) (λ p. let h = p.0 in let k = p.1 in cc) (λ p. ((cc), (cc)))
    (Decides-and (eqb x y) (same_numbers xs ys) (Decides-eqb x y) (numbers_test xs ys))

is_string_lem : (o : Option (List ℕ)) (w : List ℕ) → is_string o w ≡ true → o ≡ Some w
is_string_lem None w e = absurd (let z : ◌≡◌ {A = ℕ} 0 1 = cc in omega arith)
is_string_lem (Some u) w e = ap Some ((numbers_test u w).0 e)

-- The sums of counts and of costs are those of the trees.
module _ (count-sums : Sum counts.nought counts.plus counts.times) (cost-sums : Sum costs.nought costs.plus costs.times) where
  counts_to : (g : Grammar) (w : List ℕ) (h n : ℕ) → answered (counted g w h n) ≡ true → Counted g w h n
  counts_to g w h n e =
      let a = both (ready g w) _ e in
      let b = both (eqb (length (trees (rules_of g w) h (start_read g w))) n) _ a.1 in
      let s = is_sound g w a.0 in
      let sums = count-sums g s w (rules_of g w) (rules_all g w a.0) (λ p. counts.unit) h in
      record {
        some = sums.0;
        many = λ ts l. same_length (TreeUpTo g w h) ts (trees (rules_of g w) h (start_read g w)) l (start_listed g w (rules_of g w) (rules_all g w a.0) s h) ∙ (Decides-eqb _ n).0 b.0;
        total = λ ts l. sym (sums.1 ts l) ∙ same_count _ (counts.reads n) ((Decides-eqb _ (counts.writes (counts.reads n))).0 b.1);
      }

  costs_to : (g : Grammar) (w weights : List ℕ) (h n : ℕ) → answered (cheapest g w weights h n) ≡ true → Cheapest g w weights h n
  costs_to g w weights h n e =
      let a = both (ready g w) _ e in
      let sums = cost-sums g (is_sound g w a.0) w (rules_of g w) (rules_all g w a.0) (λ p. costs.reads (get_or weights p 0)) h in
      record {
        some = sums.0;
        total = λ ts l. sym (sums.1 ts l) ∙ same_cost _ (costs.reads n) ((Decides-eqb _ (costs.writes (costs.reads n))).0 a.1);
      }

  holds : (l : Line) → answered l ≡ true → Holds l
  holds (only_next g w t) e =
      let a = both (ready g w) (only t (frontier g w)) e in
      λ x. ((λ h. (only_is t (frontier g w) a.1 x).0 ((goes_on g w a.0 x).0 h)), (λ p. (goes_on g w a.0 x).1 ((only_is t (frontier g w) a.1 x).1 p)))
  holds (not_next g w t) e =
      let a = both (ready g w) (not (has t (frontier g w))) e in
      λ h. not_from_Decides (has t (frontier g w)) (has_test t (frontier g w)) (not_true (has t (frontier g w)) a.1) ((goes_on g w a.0 t).0 h)
  holds (complete g w) e =
      let a = both (ready g w) (has_phrase (start_read g w) (lefts_of (facts_of g w))) e in
      let m = left_made (start_read g w) (facts_of g w) ((phrase_in (start_read g w) (lefts_of (facts_of g w))).0 a.1) in
      accepts_complete g w (is_sound g w a.0) (m.0, ((facts_listed g w a.0).exactly (made m.0)).0 m.1, m.2)
  holds (counted g w h n) e = counts_to g w h n e
  holds (cheapest g w weights h n) e = costs_to g w weights h n e
  holds (linearizes g ns w) e = let is = is_string_lem (string_written g ns) w e in (is, ((read_written g ns).1 w).0 is)
  holds (writes_none g ns) e =
      let none = none_of (string_written g ns) (not_true (is_some (string_written g ns)) e) in
      (none, λ t s p. let found = ((read_written g ns).1 _).1 (t, s, p, refl) in let z : ◌≡◌ {A = ℕ} 0 1 = cc in omega arith)
  holds (cells g w n) e =
      let a = both (ready g w) (eqb n (cells_at g w)) e in
      subst (CellsInUse g w) (sym ((Decides-eqb n (cells_at g w)).0 a.1)) (cells_are g w a.0)
  holds (too_short g w area) e =
      let a = both (ready g w) (ltb area (cells_at g w)) e in
      λ n c. subst (λ m. area < m) (cells_one g w (cells_at g w) n (cells_are g w a.0) c) ((Decides-ltb area (cells_at g w)).0 a.1)
  holds (bounded g w n) e =
      let a = both (ready g w) (eqb n (length g.dimensions + length (distinct (lefts_of (facts_of g w))))) e in
      record { phrases = distinct (lefts_of (facts_of g w)); listed = lefts_listed g w a.0; total = (Decides-eqb n _).0 a.1 }

  pub all_hold : (ls : List Line) → all_answered ls ≡ true → AllByRecursion Holds ls
  all_hold [] e = tt
  all_hold (l ∷ ls) e = let a = both (answered l) (all_answered ls) e in (holds l a.0, all_hold ls a.1)

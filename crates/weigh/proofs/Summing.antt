-- The sums in the second row, one rule after another: `summed_more` is one rule more.
use Rattle.std.proofs.Common.{◌≡◌, ℕ, ◌+◌, ◌≤◌, Bool, true, false, cond, ◌≢◌, List, [], ◌∷◌, ◌++◌, map, length, get_or, set, sym, refl, ap, ◌∙◌, subst, inl, inr, append_assoc, arith, get_or-set_other, get_or-set_same}
use Rattle.std.proofs.lemmas.Bool.{cases_eq}
use Rattle.std.proofs.lemmas.List.{map-append}
use Rattle.std.proofs.lemmas.List.Elements.{filter-append}
use Rattle.algebra.specs.Laws.{Laws}
use Rattle.algebra.specs.Sums.{sum_of}
use Rattle.algebra.proofs.Sums.{sum_of_concatenation}
use Rattle.grammar.specs.Grammar.{Grammar}
use Rattle.chart.specs.Chart.{Phrase, Rule, Fact, made, item}
use Rattle.chart.specs.Sums.{same_phrase, rule_value, rules_for, made_rules}
use Rattle.chart.proofs.Phrases.{phrase_test}
use Rattle.cells.specs.declared.Cell.{Cell}
use Rattle.weigh.specs.declared.table.Table.{Table}
use Rattle.weigh.specs.Weighed.{Ready, width, IndexOf, First, Second, weight_in, sum_for, Summed, Past, Filled, Copied}
use Rattle.weigh.proofs.Indexing.{index_inside, index_one, phrase_one}

pub past_more : (q : ℕ) (a b c : List ℕ) → Past q a b → Past q b c → Past q a c
past_more q a b c h k j le = k j le ∙ h j le

mades_append : (xs ys : List Fact) → made_rules (xs ++ ys) ≡ made_rules xs ++ made_rules ys
mades_append [] ys = refl
mades_append (made r ∷ xs) ys = ap (λ (l : List Rule). r ∷ l) (mades_append xs ys)
mades_append (item r l j i k ∷ xs) ys = mades_append xs ys

-- the rules so far and those of one cell more
pub made_more : (done : List Rule) (xs ys : List Fact) → (done ++ made_rules xs) ++ made_rules ys ≡ done ++ made_rules (xs ++ ys)
made_more done xs ys = append_assoc done (made_rules xs) (made_rules ys) ∙ ap (λ (l : List Rule). done ++ l) (sym (mades_append xs ys))

module _ {A : Type 0} {nought unit : A} {plus times : A → A → A} {reads : ℕ → A} {writes : A → ℕ} (laws : Laws nought unit plus times reads writes) where
  split : (weight : ℕ → A) (f : Phrase → A) (done : List Rule) (r : Rule) (X : Phrase) (b : Bool) → same_phrase r.left X ≡ b
      → sum_for nought plus times weight f (done ++ (r ∷ [])) X ≡ plus (sum_for nought plus times weight f done X) (sum_of nought plus (map (rule_value times weight f) (cond b (r ∷ []) [])))
  split weight f done r X b e =
      ap (λ (l : List Rule). sum_of nought plus (map (rule_value times weight f) l)) (filter-append (λ v. same_phrase v.left X) done (r ∷ []))
      ∙ (ap (λ (v : Bool). sum_of nought plus (map (rule_value times weight f) (rules_for X done ++ cond v (r ∷ []) []))) e
      ∙ (ap (sum_of nought plus) (map-append (rule_value times weight f) (rules_for X done) (cond b (r ∷ []) []))
      ∙ sum_of_concatenation laws (map (rule_value times weight f) (rules_for X done)) (map (rule_value times weight f) (cond b (r ∷ []) []))))

  sum_own : (weight : ℕ → A) (f : Phrase → A) (done : List Rule) (r : Rule) (X : Phrase) → r.left ≡ X
      → sum_for nought plus times weight f (done ++ (r ∷ [])) X ≡ plus (sum_for nought plus times weight f done X) (rule_value times weight f r)
  sum_own weight f done r X e = split weight f done r X true ((phrase_test r.left X).1 e) ∙ ap (plus (sum_for nought plus times weight f done X)) (laws.sum_zero (rule_value times weight f r))

  is_false : (X Y : Phrase) (b : Bool) → same_phrase X Y ≡ b → (X ≡ Y → ⊥) → b ≡ false
  is_false X Y true e n = absurd (n ((phrase_test X Y).0 e))
  is_false X Y false e n = refl

  sum_other : (weight : ℕ → A) (f : Phrase → A) (done : List Rule) (r : Rule) (X : Phrase) → (r.left ≡ X → ⊥) → sum_for nought plus times weight f (done ++ (r ∷ [])) X ≡ sum_for nought plus times weight f done X
  sum_other weight f done r X n =
      split weight f done r X false (is_false r.left X (same_phrase r.left X) refl n) ∙ laws.sum_zero (sum_for nought plus times weight f done X)

  pub summed_more : (g : Grammar) (w : List ℕ) (cs : List Cell) (t : Table) (phrases : List Phrase) (weights : List ℕ) (f : Phrase → A) (work after : List ℕ) (done : List Rule) (r : Rule) (i : ℕ) → Ready g w cs t phrases
      → IndexOf g phrases r.left i → width t + width t ≤ length work → Summed nought plus times reads g phrases weights (width t) f work done
      → after ≡ set work (width t + i) (writes (plus (reads (get_or work (width t + i) 0)) (rule_value times (weight_in reads weights) f r)))
      → Summed nought plus times reads g phrases weights (width t) f after (done ++ (r ∷ [])) × Past (width t) work after
  summed_more g w cs t phrases weights f work after done r i h ix room s is =
      let lt = index_inside g w cs t phrases r.left i h ix in
      let v = writes (plus (reads (get_or work (width t + i) 0)) (rule_value times (weight_in reads weights) f r)) in
      let other : (j : ℕ) → j ≢ width t + i → get_or after j 0 ≡ get_or work j 0 = (λ j ne. ap (λ (l : List ℕ). get_or l j 0) is ∙ get_or-set_other work (width t + i) j v 0 ne) in
      let same : get_or after (width t + i) 0 ≡ v = ap (λ (l : List ℕ). get_or l (width t + i) 0) is ∙ get_or-set_same work (width t + i) v 0 (omega (arith, lt, room)) in (
        record {
          first = λ X j x. let jt = index_inside g w cs t phrases X j h x in ap reads (other j (λ e. omega (arith, jt, e))) ∙ s.first X j x;
          second = λ X j x. elim (cases_eq j i) [
            | inl e ↦
                let own : r.left ≡ X = phrase_one g phrases r.left X i ix (subst (λ (k : ℕ). IndexOf g phrases X k) e x) in
                let old = s.second X j x in
                let here : reads (get_or after (width t + j) 0) ≡ plus (reads (get_or work (width t + i) 0)) (rule_value times (weight_in reads weights) f r) =
                ap (λ (k : ℕ). reads (get_or after (width t + k) 0)) e ∙ (ap reads same ∙ laws.reads_writes (plus (reads (get_or work (width t + i) 0)) (rule_value times (weight_in reads weights) f r))) in
                here
                ∙ (ap (λ (k : ℕ). plus (reads (get_or work (width t + k) 0)) (rule_value times (weight_in reads weights) f r)) (sym e)
                ∙ (ap (λ (a : A). plus a (rule_value times (weight_in reads weights) f r)) old ∙ sym (sum_own (weight_in reads weights) f done r X own)))
            | inr ne ↦
                ap reads (other (width t + j) (λ e. ne (omega (arith, e))))
                ∙ (s.second X j x
                ∙ sym (sum_other (weight_in reads weights) f done r X (λ e. ne (index_one g w cs t phrases X j i h x (subst (λ (Y : Phrase). IndexOf g phrases Y i) e ix)))))
          ];
        },
        λ j le. other j (λ e. omega (arith, lt, e, le)),
      )

  -- the start of a round: nothing in the second row
  pub summed_none : (g : Grammar) (w : List ℕ) (cs : List Cell) (t : Table) (phrases : List Phrase) (weights : List ℕ) (f : Phrase → A) (work after : List ℕ) → Ready g w cs t phrases → First reads g phrases work f
      → Filled (width t) (width t + width t) (writes nought) work after → Summed nought plus times reads g phrases weights (width t) f after []
  summed_none g w cs t phrases weights f work after h row fill = record {
    first = λ X i x. let lt = index_inside g w cs t phrases X i h x in ap reads (fill.low i lt) ∙ row X i x;
    second = λ X i x.
        let lt = index_inside g w cs t phrases X i h x in
        ap reads (fill.inside (width t + i) (omega arith) (omega (arith, lt))) ∙ laws.reads_writes nought;
  }

  -- the end of a round: the second row becomes the first
  pub first_copied : (g : Grammar) (w : List ℕ) (cs : List Cell) (t : Table) (phrases : List Phrase) (f : Phrase → A) (work after : List ℕ) → Ready g w cs t phrases → Second reads g phrases (width t) work f → Copied (width t) work after
      → First reads g phrases after f
  first_copied g w cs t phrases f work after h row k X i x = let lt = index_inside g w cs t phrases X i h x in ap reads (k.inside i lt) ∙ row X i x

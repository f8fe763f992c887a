-- The rules that a round adds: those of the made rules in the cells (`made-added`), and those of the live places (`live_again`, `live_none`).
use Rattle.std.proofs.Common.{◌≡◌, ℕ, suc, ◌+◌, ◌-◌, ◌<◌, ◌≤◌, List, [], ◌∷◌, ◌++◌, length, get_or, take, drop, Some, None, Option, sym, refl, ap, ◌∙◌, subst, inl, inr, arith}
use Rattle.std.proofs.lemmas.Bool.{cases_lt, cases_eq}
use Rattle.std.proofs.lemmas.List.{append-nil, get_or-take, get_or-drop}
use Rattle.std.specs.List.{slice_get}
use Rattle.algebra.specs.Laws.{Laws}
use Rattle.grammar.specs.Grammar.{Grammar, Production, production_at}
use Rattle.faults.proofs.Made.{below_there}
use Rattle.chart.specs.Chart as chart
use Rattle.chart.specs.Chart.{Phrase, RuleOf, is_bare, is_made, bare, bare_rule, Enumerates}
use Rattle.chart.specs.Sums.{bare_rules, with_bare, made_rules}
use Rattle.chart.proofs.Listing.{in_left, in_right, of_append, apart_append}
use Rattle.cells.specs.declared.Cell.{Cell}
use Rattle.cells.specs.declared.Rule.{Rule}
use Rattle.cells.specs.declared.Row.{Row}
use Rattle.cells.specs.declared.Row as row
use Rattle.cells.specs.declared.Fact.TheVariants as fact
use Rattle.cells.specs.declared.Waiting.TheVariants.{Left}
use Rattle.cells.specs.Facts.{phrase_of, rule_of, fact_of, zero_cell}
use Rattle.fact_log.specs.Index.{cell_of}
use Rattle.fact_log.specs.Log.{FactAt}
use Rattle.closing.specs.Joined.{made_in}
use Rattle.steps.specs.Bare.{BareAt}
use Rattle.steps.specs.Live.{FirstLive}
use Rattle.weigh.specs.declared.table.Table.{Table}
use Rattle.weigh.specs.Listed.{one_fact, facts_in}
use Rattle.weigh.specs.Weighed.{Ready, width, IndexOf, Summed, Past, LiveBefore, RuleAdded, RulesAdded, LiveAdded, BareAdded}
use Rattle.weigh.proofs.Indexing.{production_sound}
use Rattle.weigh.proofs.Listed.{one_fact_lem}
use Rattle.weigh.proofs.Summing.{past_more, made_more, summed_more}

-- a cell that holds no made rule adds none
none_made : (r : Row) → None ≡ made_in r → made_rules (one_fact (fact_of r)) ≡ []
none_made row.TheVariants.Nothing e = refl
none_made (row.TheVariants.Category d h p) e = refl
none_made (row.TheVariants.Function a c n) e = refl
none_made (row.TheVariants.Constituent s n) e = refl
none_made (row.TheVariants.Symbol s) e = refl
none_made row.TheVariants.Empty e = refl
none_made (row.TheVariants.Place c f a n p) e = refl
none_made (row.TheVariants.Argument c) e = refl
none_made (row.TheVariants.Token t) e = refl
none_made (row.TheVariants.Fact (fact.Item x)) e = refl
none_made (row.TheVariants.Fact (fact.Made q)) e = cc

-- a cell among those of the table
pub table_cell : (cs : List Cell) (base n i : ℕ) → i < n - base → get_or (take (n - base) (drop base cs)) i zero_cell ≡ cell_of cs (base + i)
table_cell cs base n i lt = get_or-take (n - base) (drop base cs) i zero_cell lt ∙ get_or-drop base cs i zero_cell

-- the number of a made rule's left side is the one in its cell
pub left_index : (g : Grammar) (w : List ℕ) (cs : List Cell) (t : Table) (phrases : List Phrase) (p k : ℕ) (r : Rule) → Ready g w cs t phrases → t.base ≤ p → p < t.end → FactAt cs p (fact.Made r) → (cell_of cs p).wait ≡ Left k
    → IndexOf g phrases (phrase_of r.left) (t.categories + k) × (k < t.phrases)
left_index g w cs t phrases p k r h bp pn e l =
    let num = h.numbered.numbers p r (bp, pn, e) in
    let same : num.0 ≡ k = (let a = sym num.1 ∙ l in cc) in
    let there = ap (slice_get phrases) (sym same) ∙ num.2 in
    (inr (k, there, ap (λ (v : ℕ). v + k) h.categories), omega (arith, below_there phrases k (phrase_of r.left) there, h.total))

pub rule_there : (g : Grammar) (w : List ℕ) (cs : List Cell) (t : Table) (phrases : List Phrase) (p : ℕ) (r : Rule) → Ready g w cs t phrases → t.base ≤ p → p < t.end → FactAt cs p (fact.Made r) → RuleOf g w (rule_of r)
rule_there g w cs t phrases p r h bp pn e = is_made (h.state.sound (fact.Made r) (p, bp, pn, e))

module _ {A : Type 0} {nought unit : A} {plus times : A → A → A} {reads : ℕ → A} {writes : A → ℕ} (laws : Laws nought unit plus times reads writes) (cs : List Cell) (t : Table) (weights : List ℕ) where
  pub added_none : (before : List ℕ) (p : ℕ) → None ≡ made_in (cell_of cs p).row → RulesAdded nought plus times reads cs t weights before before (made_rules (one_fact (fact_of (cell_of cs p).row)))
  added_none before p e g w phrases f done h s =
      (subst (λ (l : List chart.Rule). Summed nought plus times reads g phrases weights (width t) f before l) (sym (ap (λ (l : List chart.Rule). done ++ l) (none_made (cell_of cs p).row e) ∙ append-nil done)) s, λ j le. refl)

  pub added_unnumbered : (before : List ℕ) (p : ℕ) (r : Rule) → t.base ≤ p → p < t.end → FactAt cs p (fact.Made r) → ((k : ℕ) → (cell_of cs p).wait ≡ Left k → ⊥) → RulesAdded nought plus times reads cs t weights before before (made_rules (one_fact (fact_of (cell_of cs p).row)))
  added_unnumbered before p r bp pn e n g w phrases f done h s = let num = h.numbered.numbers p r (bp, pn, e) in absurd (n num.0 num.1)

  pub added_made : (before after : List ℕ) (p k : ℕ) (r : Rule) → t.base ≤ p → p < t.end → width t + width t ≤ length before → FactAt cs p (fact.Made r) → (cell_of cs p).wait ≡ Left k
      → RuleAdded plus times reads writes cs t weights before after r (t.categories + k) → RulesAdded nought plus times reads cs t weights before after (made_rules (one_fact (fact_of (cell_of cs p).row)))
  added_made before after p k r bp pn room e l add g w phrases f done h s =
      let m = summed_more laws g w cs t phrases weights f before after done (rule_of r) (t.categories + k) h (left_index g w cs t phrases p k r h bp pn e l).0 room s
      (add g w phrases f h (rule_there g w cs t phrases p r h bp pn e) s.first) in
      (subst (λ (l : List chart.Rule). Summed nought plus times reads g phrases weights (width t) f after (done ++ l)) (sym (ap made_rules (one_fact_lem cs p (fact.Made r) e))) m.0, m.1)

  -- the facts one after another
  pub made_first : (before : List ℕ) (base : ℕ) → RulesAdded nought plus times reads cs t weights before before (made_rules (facts_in cs base 0))
  made_first before base g w phrases f done h s = (subst (λ (l : List chart.Rule). Summed nought plus times reads g phrases weights (width t) f before l) (sym (append-nil done)) s, λ j le. refl)

  pub made_again : (before now after : List ℕ) (base i : ℕ) → RulesAdded nought plus times reads cs t weights before now (made_rules (facts_in cs base i))
      → RulesAdded nought plus times reads cs t weights now after (made_rules (one_fact (fact_of (cell_of cs (base + i)).row))) → RulesAdded nought plus times reads cs t weights before after (made_rules (facts_in cs base (i + 1)))
  made_again before now after base i a b g w phrases f done h s =
      let x = a g w phrases f done h s in
      let y = b g w phrases f (done ++ made_rules (facts_in cs base i)) h x.0 in
      let up : suc i ≡ i + 1 = omega arith in
      let rules : (done ++ made_rules (facts_in cs base i)) ++ made_rules (one_fact (fact_of (cell_of cs (base + i)).row)) ≡ done ++ made_rules (facts_in cs base (i + 1)) =
      made_more done (facts_in cs base i) (one_fact (fact_of (cell_of cs (base + i)).row)) ∙ ap (λ (n : ℕ). done ++ made_rules (facts_in cs base n)) up in
      (subst (λ (l : List chart.Rule). Summed nought plus times reads g phrases weights (width t) f after l) rules y.0, past_more (width t) before now after x.1 y.1)

-- the bare rules of places, one place more
withs_append : (g : Grammar) (p : ℕ) (o : Option Production) (xs ys : List chart.Rule) → with_bare g p o (xs ++ ys) ≡ with_bare g p o xs ++ ys
withs_append g p None xs ys = refl
withs_append g p (Some q) xs ys = refl

bares_append : (g : Grammar) (xs ys : List ℕ) → bare_rules g (xs ++ ys) ≡ bare_rules g xs ++ bare_rules g ys
bares_append g [] ys = refl
bares_append g (p ∷ xs) ys = ap (with_bare g p (production_at g p)) (bares_append g xs ys) ∙ withs_append g p (production_at g p) (bare_rules g xs) (bare_rules g ys)

one_bare : (g : Grammar) (p : ℕ) (q : Production) → production_at g p ≡ Some q → bare_rules g (p ∷ []) ≡ bare_rule g p q ∷ []
one_bare g p q e = ap (λ (o : Option Production). with_bare g p o []) e

one_production : (g : Grammar) (p : ℕ) (q r : Production) → production_at g p ≡ Some q → production_at g p ≡ Some r → q ≡ r
one_production g p q r a b = cc

-- the live places before the next one
next_listed : (g : Grammar) (c m p : ℕ) (places : List ℕ) → FirstLive g c m (Some p) → Enumerates (LiveBefore g c m) places → Enumerates (LiveBefore g c (suc p)) (places ++ (p ∷ []))
next_listed g c m p places f e =
    let L = f.1 in
    record {
      apart = apart_append places (p ∷ []) e.apart ((λ z. z), tt)
          (λ x a b. elim b [
            | inl same ↦
                let h = (e.exactly x).0 a in
                let q-is : h.0 ≡ L.0 = one_production g p h.0 L.0 (ap (production_at g) (sym same) ∙ h.1.filled) L.1.filled in
                let r = ap (λ (v : Production). v.result) q-is in
                elim h.2 [ inl lt ↦ omega (arith, lt, r, L.2) | inr k ↦ omega (arith, k.1, same, f.0) ]
            | inr z ↦ absurd z
          ]);
      exactly = λ x. (
        (λ mem. elim (of_append x places (p ∷ []) mem) [
          | inl a ↦ let h = (e.exactly x).0 a in (h.0, h.1, elim h.2 [ inl lt ↦ inl lt | inr k ↦ inr (k.0, omega (arith, k.1, f.0)) ])
          | inr b ↦ elim b [
            | inl same ↦ subst (λ (v : ℕ). LiveBefore g c (suc p) v) (sym same) (L.0, L.1, inr (L.2, omega arith))
            | inr z ↦ absurd z
          ]
        ]),
        (λ h. elim h.2 [
          | inl lt ↦ in_left x places (p ∷ []) ((e.exactly x).1 (h.0, h.1, inl lt))
          | inr k ↦ elim (cases_eq x p) [
            | inl same ↦ in_right x places (p ∷ []) (inl same)
            | inr ne ↦ elim (cases_lt x m) [
              | inl less ↦ in_left x places (p ∷ []) ((e.exactly x).1 (h.0, h.1, inr (k.0, less)))
              | inr ge ↦ absurd (f.2 x ge (omega (arith, k.1, ne)) (h.0, h.1, k.0))
            ]
          ]
        ]),
      );
    }

last_listed : (g : Grammar) (c m : ℕ) (places : List ℕ) → FirstLive g c m None → Enumerates (LiveBefore g c m) places → Enumerates (LiveBefore g (c + 1) 0) places
last_listed g c m places f e = record {
  apart = e.apart;
  exactly = λ x. (
    (λ a. let h = (e.exactly x).0 a in (h.0, h.1, inl (elim h.2 [ inl lt ↦ omega (arith, lt) | inr k ↦ omega (arith, k.0) ]))),
    (λ h. (e.exactly x).1 (
      h.0,
      h.1,
      elim h.2 [
        | inl lt ↦ elim (cases_eq h.0.result c) [
          | inl same ↦ elim (cases_lt x m) [ inl less ↦ inr (same, less) | inr ge ↦ absurd (f x ge (h.0, h.1, same)) ]
          | inr ne ↦ inl (omega (arith, lt, ne))
        ]
        | inr k ↦ absurd (omega (arith, k.1))
      ],
    )),
  );
}

-- the live places of category c have come to m
abbrev pub LiveTo : {A : Type 0} → A → (A → A → A) → (A → A → A) → (ℕ → A) → Grammar → List Cell → Table → List ℕ → List ℕ → List ℕ → ℕ → ℕ → Type 0
LiveTo {A} nought plus times reads g cs t weights before after c m =
    (w : List ℕ) (phrases : List Phrase) (f : Phrase → A) (places : List ℕ) → Ready g w cs t phrases → Enumerates (LiveBefore g c 0) places
    → Summed nought plus times reads g phrases weights (width t) f before (bare_rules g places)
    → (more : List ℕ) × Enumerates (LiveBefore g c m) more × Summed nought plus times reads g phrases weights (width t) f after (bare_rules g more) × Past (width t) before after

pub live_rule : (g : Grammar) (w : List ℕ) (c m p : ℕ) (r : Rule) → FirstLive g c m (Some p) → BareAt g p (Some r) → RuleOf g w (rule_of r)
live_rule g w c m p r f b =
    let L = f.1 in
    let same : b.0 ≡ L.0 = one_production g p b.0 L.0 b.1 L.1.filled in
    is_bare (record { place = p; production = L.0; live = L.1; is = b.2 ∙ ap (bare_rule g p) same })

pub live_empty : (g : Grammar) (c m p : ℕ) → FirstLive g c m (Some p) → BareAt g p None → ⊥
live_empty g c m p f b = let L = f.1 in let e = sym b ∙ L.1.filled in let z : ◌≡◌ {A = ℕ} 0 1 = cc in omega arith

module _ {A : Type 0} {nought unit : A} {plus times : A → A → A} {reads : ℕ → A} {writes : A → ℕ} (laws : Laws nought unit plus times reads writes) (g : Grammar) (cs : List Cell) (t : Table) (weights : List ℕ) where
  pub live_first : (before : List ℕ) (c : ℕ) → LiveTo nought plus times reads g cs t weights before before c 0
  live_first before c w phrases f places h e s = (places, e, s, λ j le. refl)

  pub live_again : (before now after : List ℕ) (c m p : ℕ) (r : Rule) → c < t.categories → width t + width t ≤ length now → FirstLive g c m (Some p) → BareAt g p (Some r) → LiveTo nought plus times reads g cs t weights before now c m
      → RuleAdded plus times reads writes cs t weights now after r c → LiveTo nought plus times reads g cs t weights before after c (suc p)
  live_again before now after c m p r cl room fl b to add w phrases f places h e s =
      let x = to w phrases f places h e s in
      let L = fl.1 in
      let same : b.0 ≡ L.0 = one_production g p b.0 L.0 b.1 L.1.filled in
      let rule : rule_of r ≡ bare_rule g p L.0 = b.2 ∙ ap (bare_rule g p) same in
      let left : phrase_of r.left ≡ bare g c = ap (λ (v : chart.Rule). v.left) rule ∙ ap (bare g) L.2 in
      let sum = summed_more laws g w cs t phrases weights f now after (bare_rules g x.0) (rule_of r) c h (inl (omega (arith, h.categories, cl), left)) room x.2 (add g w phrases f h (live_rule g w c m p r fl b) x.2.first) in
      let rules : bare_rules g x.0 ++ (rule_of r ∷ []) ≡ bare_rules g (x.0 ++ (p ∷ [])) =
      ap (λ (v : chart.Rule). bare_rules g x.0 ++ (v ∷ [])) rule ∙ (ap (λ (l : List chart.Rule). bare_rules g x.0 ++ l) (sym (one_bare g p L.0 L.1.filled)) ∙ sym (bares_append g x.0 (p ∷ []))) in
      (x.0 ++ (p ∷ []), next_listed g c m p x.0 fl x.1, subst (λ (l : List chart.Rule). Summed nought plus times reads g phrases weights (width t) f after l) rules sum.0, past_more (width t) before now after x.3 sum.1)

  pub live_none : (before after : List ℕ) (c m : ℕ) → FirstLive g c m None → LiveTo nought plus times reads g cs t weights before after c m → LiveAdded nought plus times reads g cs t weights before after c
  live_none before after c m fl to w phrases f places h e s = let x = to w phrases f places h e s in (x.0, last_listed g c m x.0 fl x.1, x.2, x.3)

-- the categories have come to c
abbrev pub BareTo : {A : Type 0} → A → (A → A → A) → (A → A → A) → (ℕ → A) → Grammar → List Cell → Table → List ℕ → List ℕ → List ℕ → ℕ → Type 0
BareTo {A} nought plus times reads g cs t weights before after c =
    (w : List ℕ) (phrases : List Phrase) (f : Phrase → A) → Ready g w cs t phrases → Summed nought plus times reads g phrases weights (width t) f before []
    → (places : List ℕ) × Enumerates (LiveBefore g c 0) places × Summed nought plus times reads g phrases weights (width t) f after (bare_rules g places) × Past (width t) before after

module _ {A : Type 0} (nought : A) (plus times : A → A → A) (reads : ℕ → A) (g : Grammar) (cs : List Cell) (t : Table) (weights : List ℕ) where
  pub bare_first : (before : List ℕ) → BareTo nought plus times reads g cs t weights before before 0
  bare_first before w phrases f h s = (
    [],
    record { apart = tt; exactly = λ x. ((λ m. absurd m), (λ k. elim k.2 [ inl lt ↦ absurd (omega (arith, lt)) | inr y ↦ absurd (omega (arith, y.1)) ])) },
    s,
    λ j le. refl,
  )

  pub bare_again : (before now after : List ℕ) (c : ℕ) → BareTo nought plus times reads g cs t weights before now c → LiveAdded nought plus times reads g cs t weights now after c → BareTo nought plus times reads g cs t weights before after (c + 1)
  bare_again before now after c a b w phrases f h s =
      let x = a w phrases f h s in
      let y = b w phrases f x.0 h x.1 x.2 in
      (y.0, y.1, y.2, past_more (width t) before now after x.3 y.3)

  pub bare_all : (before after : List ℕ) (c : ℕ) → c ≡ length g.dimensions → BareTo nought plus times reads g cs t weights before after c → BareAdded nought plus times reads g cs t weights before after
  bare_all before after c e a w phrases f h s =
      let x = a w phrases f h s in (
        x.0,
        record {
          apart = x.1.apart;
          exactly = λ p. (
            (λ m. let k = (x.1.exactly p).0 m in (k.0, k.1)),
            (λ l.
                let sp = production_sound g h.sound p l.0 l.1.filled in
                (x.1.exactly p).1 (l.0, l.1, inl (omega (arith, e, below_there g.dimensions l.0.result (length sp.its.constituents) sp.result)))),
          );
        },
        x.2,
        x.3,
      )

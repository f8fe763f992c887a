-- Going through the live places of a phrase's category in ascending order: `live_again` is one turn.
use Rattle.std.proofs.Common.{◌≡◌, ℕ, suc, ◌-◌, ◌<◌, List, length, Some, None, Option, sym, refl, ap, ◌∙◌, subst, inl, inr, arith}
use Rattle.std.proofs.lemmas.Bool.{cases_lt}
use Rattle.std.specs.List.{slice_get}
use Rattle.std.specs.Option.{option_flatten}
use Rattle.grammar.specs.Grammar.{Grammar, Production, production_at}
use Rattle.faults.specs.Sound.{Sound}
use Rattle.faults.proofs.Made.{below_there}
use Rattle.chart.specs.Chart as chart
use Rattle.chart.specs.Chart.{Phrase, Live, bare, bare_rule, item, Chart}
use Rattle.cells.specs.declared.Cell.{Cell}
use Rattle.cells.specs.declared.Rule.{Rule}
use Rattle.cells.specs.Facts.{phrase_of, rule_of}
use Rattle.steps.specs.Live.{LiveOf, FirstLive}
use Rattle.steps.specs.Bare.{BareAt}
use Rattle.closing.specs.State.{Has, Grown}
use Rattle.closing.specs.Predicted.{EachLive}
use Rattle.closing.proofs.Growing.{grown_more, has_up}

-- Of each live place before m the start is there.
abbrev pub UpTo : Grammar → List Cell → ℕ → Phrase → ℕ → ℕ → ℕ → ℕ → Type 0
UpTo g cs base X s k e m = (p : ℕ) (q : Production) → p < m → Live g p q → (bare_rule g p q).left ≡ X → Has cs base e (item (bare_rule g p q) s k 0 k)

-- where the live places have come to `place`
pub record Going (g : Grammar) (w : List ℕ) (cs cs' : List Cell) (base n e limit : ℕ) (X : Phrase) (s k : ℕ) (place : Option ℕ) : Type 0 where
  pub grown : Grown g w cs cs' base n e limit
  pub from : ℕ
  pub first : FirstLive g X.category from place
  pub done : UpTo g cs' base X s k e from

category_of : (g : Grammar) (p : ℕ) (q : Production) (X : Phrase) → (bare_rule g p q).left ≡ X → q.result ≡ X.category
category_of g p q X e = ap (λ (Y : Phrase). Y.category) e

pub going_first : (g : Grammar) (w : List ℕ) (cs cs' : List Cell) (base n e limit : ℕ) (X : Phrase) (s k : ℕ) (place : Option ℕ) → Grown g w cs cs' base n e limit → FirstLive g X.category 0 place → Going g w cs cs' base n e limit X s k place
going_first g w cs cs' base n e limit X s k place a f = record { grown = a; from = 0; first = f; done = λ p q lt. absurd (omega arith) }

-- no place is left
pub going_none : (g : Grammar) (w : List ℕ) (cs cs' : List Cell) (base n e limit : ℕ) (X : Phrase) (s k : ℕ) → Going g w cs cs' base n e limit X s k None → Grown g w cs cs' base n e limit × EachLive g X s k (Has cs' base e)
going_none g w cs cs' base n e limit X s k h = (
  h.grown,
  λ p q l is. elim (cases_lt p h.from) [
    | inl lt ↦ h.done p q lt l is
    | inr ge ↦ absurd (h.first p ge (q, l, category_of g p q X is))
  ],
)

one_production : (g : Grammar) (p : ℕ) (q r : Production) → production_at g p ≡ Some q → production_at g p ≡ Some r → q ≡ r
one_production g p q r a b = cc

-- the left sides of bare rules of one category are one phrase; so where one is not X, none is
pub going_other : (g : Grammar) (w : List ℕ) (cs cs' : List Cell) (base n e limit : ℕ) (X : Phrase) (s k p : ℕ) (rule : Rule) → Going g w cs cs' base n e limit X s k (Some p) → BareAt g p (Some rule) → (phrase_of rule.left ≡ X → ⊥)
    → Grown g w cs cs' base n e limit × EachLive g X s k (Has cs' base e)
going_other g w cs cs' base n e limit X s k p rule h b other = (
  h.grown,
  λ p' q' l' is'.
      let L = h.first.1 in
      let same : b.0 ≡ L.0 = one_production g p b.0 L.0 b.1 L.1.filled in
      let result : b.0.result ≡ q'.result = (ap (λ (v : Production). v.result) same ∙ L.2) ∙ sym (category_of g p' q' X is') in
      absurd (other (ap (λ (v : chart.Rule). v.left) b.2 ∙ (ap (bare g) result ∙ is'))),
)

-- a live place is filled
pub going_missing : (g : Grammar) (w : List ℕ) (cs cs' : List Cell) (base n e limit : ℕ) (X : Phrase) (s k p : ℕ) → Going g w cs cs' base n e limit X s k (Some p) → BareAt g p None → ⊥
going_missing g w cs cs' base n e limit X s k p h b = let f = h.first.1.1.filled in let z : ◌≡◌ {A = ℕ} 0 1 = cc in omega arith

pub going_again : (g : Grammar) (w : List ℕ) (cs c₁ c₂ : List Cell) (base n e next limit : ℕ) (X : Phrase) (s k p : ℕ) (place : Option ℕ) (f : chart.Fact) (rule : Rule) → Going g w cs c₁ base n e limit X s k (Some p)
    → BareAt g p (Some rule) → f ≡ item (rule_of rule) s k 0 k → Grown g w c₁ c₂ base e next limit × Has c₂ base next f → ((c : ℕ) → LiveOf g c p → FirstLive g c (suc p) place) → Going g w cs c₂ base n next limit X s k place
going_again g w cs c₁ c₂ base n e next limit X s k p place f rule h b is o nx =
    let L = h.first.1 in
    record {
      grown = grown_more g w cs c₁ c₂ base n e next limit h.grown o.0;
      from = suc p;
      first = nx X.category L;
      done = λ p' q' lt l' is'. elim (cases_lt p' h.from) [
        | inl less ↦ has_up c₁ c₂ base e e next limit _ o.0.later (omega arith) o.0.up (h.done p' q' less l' is')
        | inr ge ↦ elim (cases_lt p' p) [
          | inl before ↦ absurd (h.first.2 p' ge before (q', l', category_of g p' q' X is'))
          | inr after ↦
              let at : p' ≡ p = omega arith in
              let q-is : b.0 ≡ q' = one_production g p b.0 q' b.1 (ap (production_at g) (sym at) ∙ l'.filled) in
              let fact-is : f ≡ item (bare_rule g p' q') s k 0 k =
              is ∙ (ap (λ (v : chart.Rule). item v s k 0 k) b.2 ∙ (ap (λ (v : Production). item (bare_rule g p v) s k 0 k) q-is ∙ ap (λ (v : ℕ). item (bare_rule g v q') s k 0 k) (sym at))) in
              subst (λ (v : chart.Fact). Has c₂ base next v) fact-is o.1
        ]
      ];
    }

-- the start at the live place is in the chart
pub going_chart : (g : Grammar) (w : List ℕ) (cs cs' : List Cell) (base n e limit : ℕ) (X : Phrase) (s k p : ℕ) (f : chart.Fact) (rule : Rule) → Going g w cs cs' base n e limit X s k (Some p) → EachLive g X s k (Chart g w) → BareAt g p (Some rule)
    → phrase_of rule.left ≡ X → f ≡ item (rule_of rule) s k 0 k → Chart g w f
going_chart g w cs cs' base n e limit X s k p f rule h each b left is =
    let L = h.first.1 in
    let same : b.0 ≡ L.0 = one_production g p b.0 L.0 b.1 L.1.filled in
    let rule-is : rule_of rule ≡ bare_rule g p L.0 = b.2 ∙ ap (bare_rule g p) same in
    subst (λ (v : chart.Fact). Chart g w v) (ap (λ (v : chart.Rule). item v s k 0 k) (sym rule-is) ∙ sym is) (each p L.0 L.1 (ap (λ (v : chart.Rule). v.left) (sym rule-is) ∙ left))

in_places : (g : Grammar) (p : ℕ) (q : Production) (o : Option (Option Production)) → slice_get g.places p ≡ o → option_flatten o ≡ Some q → p < length g.places
in_places g p q None e f = absurd (let z : ◌≡◌ {A = ℕ} 0 1 = cc in omega arith)
in_places g p q (Some r) e f = below_there g.places p r e

-- how many places are left
abbrev pub left : Option ℕ → ℕ
left None = 0
left (Some p) = suc (512 - p)

pub live_place : (g : Grammar) → Sound g → (c m p : ℕ) → FirstLive g c m (Some p) → p < 512
live_place g sd c m p f = let q = f.1 in let lt = in_places g p q.0 (slice_get g.places p) refl q.1.filled in omega (arith, sd.places)

pub left_falls : (g : Grammar) → Sound g → (c m p : ℕ) (place : Option ℕ) → FirstLive g c m (Some p) → FirstLive g c (suc p) place → left place < left (Some p)
left_falls g sd c m p None f h = omega arith
left_falls g sd c m p (Some r) f h = let lt = live_place g sd c m p f in let up = h.0 in omega arith

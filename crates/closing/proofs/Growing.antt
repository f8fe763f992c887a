-- How facts in cells grow: what was there stays, and one call's outcome goes on to the next.
use Rattle.std.proofs.Common.{◌≡◌, ℕ, ◌+◌, ◌<◌, ◌≤◌, List, Some, None, Option, MatchOption, sym, refl, ◌∙◌, subst, inl, inr, arith}
use Rattle.grammar.specs.Grammar.{Grammar}
use Rattle.chart.specs.Chart as chart
use Rattle.chart.specs.Chart.{Chart}
use Rattle.cells.specs.declared.Cell.{Cell}
use Rattle.cells.specs.declared.Waiting.{Waiting}
use Rattle.cells.specs.declared.Item.{Item}
use Rattle.cells.specs.declared.Fact.{Fact}
use Rattle.cells.specs.declared.Fact.TheVariants as fact
use Rattle.cells.specs.Facts.{meant}
use Rattle.cells.proofs.Meant.{meant_apart}
use Rattle.fact_log.specs.Index.{cell_of}
use Rattle.fact_log.specs.Log.{FactAt, Logged, Later, Appended}
use Rattle.fact_log.proofs.Cutting.{later_first, later_more}
use Rattle.std.proofs.lemmas.Bool.{cases_lt}
use Rattle.steps.specs.Waits.{Told}
use Rattle.closing.specs.State.{Has, State, Grown, Full, Outcome}

pub fact_up : (cs cs' : List Cell) (base n limit p : ℕ) (f : Fact) → Later cs cs' base n limit → p < n → FactAt cs p f → FactAt cs' p f
fact_up cs cs' base n limit p f k pn e = (k.rows p pn).0 ∙ e

pub fact_down : (cs cs' : List Cell) (base n limit p : ℕ) (f : Fact) → Later cs cs' base n limit → p < n → FactAt cs' p f → FactAt cs p f
fact_down cs cs' base n limit p f k pn e = sym (k.rows p pn).0 ∙ e

pub logged_up : (cs cs' : List Cell) (base n d e limit : ℕ) (f : Fact) → Later cs cs' base n limit → d ≤ n → d ≤ e → Logged cs base d f → Logged cs' base e f
logged_up cs cs' base n d e limit f k dn de h = (h.0, h.1, omega (arith, h.2), fact_up cs cs' base n limit h.0 f k (omega (arith, h.2)) h.3)

pub logged_down : (cs cs' : List Cell) (base n d limit : ℕ) (f : Fact) → Later cs cs' base n limit → d ≤ n → Logged cs' base d f → Logged cs base d f
logged_down cs cs' base n d limit f k dn h = (h.0, h.1, h.2, fact_down cs cs' base n limit h.0 f k (omega (arith, h.2)) h.3)

pub has_up : (cs cs' : List Cell) (base n d e limit : ℕ) (z : chart.Fact) → Later cs cs' base n limit → d ≤ n → d ≤ e → Has cs base d z → Has cs' base e z
has_up cs cs' base n d e limit z k dn de h = (h.0, logged_up cs cs' base n d e limit h.0 k dn de h.1, h.2)

pub grown_same : (g : Grammar) (w : List ℕ) (cs : List Cell) (base n limit : ℕ) → State g w cs base n limit → Grown g w cs cs base n n limit
grown_same g w cs base n limit s = record { state = s; later = later_first cs base n limit; up = omega arith }

pub grown_more : (g : Grammar) (w : List ℕ) (cs mid after : List Cell) (base n m e limit : ℕ) → Grown g w cs mid base n m limit → Grown g w mid after base m e limit → Grown g w cs after base n e limit
grown_more g w cs mid after base n m e limit a b =
    record { state = b.state; later = later_more cs mid after base n m limit a.up a.later b.later; up = omega (arith, a.up, b.up) }

pub full_more : (g : Grammar) (w : List ℕ) (cs mid after : List Cell) (base n m limit : ℕ) → Grown g w cs mid base n m limit → Full g w mid after base m limit → Full g w cs after base n limit
full_more g w cs mid after base n m limit a b =
    record { state = b.state; later = later_more cs mid after base n m limit a.up a.later b.later; missing = b.missing }

-- an outcome after facts were added, with more known at its end
pub outcome_after : (g : Grammar) (w : List ℕ) (cs mid after : List Cell) (base n m limit : ℕ) (P Q : ℕ → Type 0) (r : Option ℕ) → Grown g w cs mid base n m limit
    → ((e : ℕ) → Grown g w mid after base m e limit → P e → Q e) → Outcome g w mid after base m limit P r → Outcome g w cs after base n limit Q r
outcome_after g w cs mid after base n m limit P Q None a f o = full_more g w cs mid after base n m limit a o
outcome_after g w cs mid after base n m limit P Q (Some e) a f o = (grown_more g w cs mid after base n m e limit a o.0, f e o.0 o.1)

pub outcome_so : (g : Grammar) (w : List ℕ) (cs after : List Cell) (base n limit : ℕ) (P Q : ℕ → Type 0) (r : Option ℕ)
    → ((e : ℕ) → Grown g w cs after base n e limit → P e → Q e) → Outcome g w cs after base n limit P r → Outcome g w cs after base n limit Q r
outcome_so g w cs after base n limit P Q None f o = o
outcome_so g w cs after base n limit P Q (Some e) f o = (o.0, f e o.0 o.1)

-- the fact was there
pub add_there : (g : Grammar) (w : List ℕ) (cs : List Cell) (base n limit : ℕ) (f : Fact) → State g w cs base n limit → Logged cs base n f
    → Outcome g w cs cs base n limit (λ e. Has cs base e (meant f)) (Some n)
add_there g w cs base n limit f s h = (grown_same g w cs base n limit s, (f, h, refl))

-- the fact was appended
logged_new : (cs cs' : List Cell) (base n limit : ℕ) (f : Fact) (wait : Waiting) → Appended cs cs' base n limit f wait → (h : Fact) → Logged cs' base (n + 1) h → (P : Fact → Type 0) → P f → ((k : Fact) → Logged cs base n k → P k) → P h
logged_new cs cs' base n limit f wait a h l P new old = elim (cases_lt l.0 n) [
  | inl pn ↦ old h (l.0, l.1, pn, fact_down cs cs' base n limit l.0 h a.later pn l.3)
  | inr np ↦
      let at : l.0 ≡ n = omega (arith, l.2) in
      let one : FactAt cs' n h = subst (λ (p : ℕ). FactAt cs' p h) at l.3 in
      let two = a.fact in
      let same : f ≡ h = cc in
      subst P same new
]

add_new : (g : Grammar) (w : List ℕ) (cs cs' : List Cell) (base n limit : ℕ) (f : Fact) (wait : Waiting) → State g w cs base n limit → Chart g w (meant f) → ((x : Item) → f ≡ fact.Item x → Told g x wait)
    → Appended cs cs' base n limit f wait → Outcome g w cs cs' base n limit (λ e. Has cs' base e (meant f)) (Some (n + 1))
add_new g w cs cs' base n limit f wait s c t a = (
  record {
    state =
        record {
          log = a.log;
          sound = λ h l. logged_new cs cs' base n limit f wait a h l (λ (k : Fact). Chart g w (meant k)) c s.sound;
          told = λ p x bp pn e. elim (cases_lt p n) [
            | inl lt ↦ subst (λ (v : Waiting). Told g x v) (sym (a.later.rows p lt).1) (s.told p x bp lt (fact_down cs cs' base n limit p (fact.Item x) a.later lt e))
            | inr ge ↦
                let at : p ≡ n = omega arith in
                let one : FactAt cs' n (fact.Item x) = subst (λ (q : ℕ). FactAt cs' q (fact.Item x)) at e in
                let two = a.fact in
                let same : f ≡ fact.Item x = cc in
                subst (λ (q : ℕ). Told g x (cell_of cs' q).wait) (sym at) (subst (λ (v : Waiting). Told g x v) (sym a.waits) (t x same))
          ];
        };
    later = a.later;
    up = omega arith;
  },
  (f, (n, s.log.begun, omega arith, a.fact), refl),
)

-- there was no room
add_none : (g : Grammar) (w : List ℕ) (cs : List Cell) (base n limit : ℕ) (f : Fact) → State g w cs base n limit → Chart g w (meant f) → (Logged cs base n f → ⊥) → n ≡ limit
    → Full g w cs cs base n limit
add_none g w cs base n limit f s c absent e =
    record {
      state = subst (λ (m : ℕ). State g w cs base m limit) e s;
      later = later_first cs base n limit;
      missing = (meant f, c, λ h. absent (subst (λ (m : ℕ). Logged cs base m f) (sym e) (subst (λ (k : Fact). Logged cs base limit k) (meant_apart h.0 f h.2) h.1)));
    }

-- a fact was appended, or there was no room for it
pub add_either : (g : Grammar) (w : List ℕ) (cs cs' : List Cell) (base n limit : ℕ) (f : Fact) (wait : Waiting) (r : Option ℕ) → State g w cs base n limit → Chart g w (meant f) → ((x : Item) → f ≡ fact.Item x → Told g x wait)
    → (Logged cs base n f → ⊥) → MatchOption r ((n ≡ limit) × (cs' ≡ cs)) (λ to. (to ≡ n + 1) × Appended cs cs' base n limit f wait) → Outcome g w cs cs' base n limit (λ e. Has cs' base e (meant f)) r
add_either g w cs cs' base n limit f wait None s c t absent a = subst (λ (x : List Cell). Full g w cs x base n limit) (sym a.1) (add_none g w cs base n limit f s c absent a.0)
add_either g w cs cs' base n limit f wait (Some to) s c t absent a =
    subst (λ (e : ℕ). Outcome g w cs cs' base n limit (λ k. Has cs' base k (meant f)) (Some e)) (sym a.0) (add_new g w cs cs' base n limit f wait s c t a.1)

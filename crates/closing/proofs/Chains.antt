-- Joining a fact with all that are looked up by one thing, one after another: `chain_again` is one turn, and `chain_first` the state before any.
use Rattle.std.proofs.Common.{◌≡◌, ℕ, ◌+◌, ◌<◌, ◌≤◌, List, Some, None, Option, unwrap_or, refl, ◌∙◌, subst, inl, inr, arith}
use Rattle.std.proofs.lemmas.Bool.{cases_lt, cases_eq}
use Rattle.grammar.specs.Grammar.{Grammar}
use Rattle.cells.specs.declared.Cell.{Cell}
use Rattle.cells.specs.declared.Fact.TheVariants as fact
use Rattle.fact_log.specs.declared.things.Thing.{Thing}
use Rattle.fact_log.specs.Index.{things, Last, LastOf}
use Rattle.fact_log.specs.Log.{Later}
use Rattle.fact_log.specs.Things.{slot_of}
use Rattle.fact_log.proofs.Cutting.{later_more, things_later}
use Rattle.closing.specs.State.{Grown}
use Rattle.closing.specs.Joined.{PairIn, ChainIn}
use Rattle.closing.proofs.Growing.{fact_up, has_up, grown_more}

-- what was joined stays joined, and counts for the cells as they were
pub pair_up : (g : Grammar) (cs c₁ c₂ : List Cell) (base i m d e limit : ℕ) → Later c₁ c₂ base d limit → d ≤ e → PairIn g cs c₁ base i m d → PairIn g cs c₂ base i m e
pair_up g cs c₁ c₂ base i m d e limit k de h x q z a b j = has_up c₁ c₂ base d d e limit z k (omega arith) de (h x q z a b j)

pub pair_from : (g : Grammar) (cs c₁ c₂ : List Cell) (base n i m e limit : ℕ) → Later cs c₁ base n limit → i < n → m < n → PairIn g c₁ c₂ base i m e → PairIn g cs c₂ base i m e
pair_from g cs c₁ c₂ base n i m e limit k lt mt h x q z a b j = h x q z (fact_up cs c₁ base n limit i (fact.Item x) k lt a) (fact_up cs c₁ base n limit m (fact.Made q) k mt b) j

pub chain_up : (g : Grammar) (cs c₁ c₂ : List Cell) (base at : ℕ) (t : Thing) (low d e limit : ℕ) → Later c₁ c₂ base d limit → d ≤ e → ChainIn g cs c₁ base at t low d → ChainIn g cs c₂ base at t low e
chain_up g cs c₁ c₂ base at t low d e limit k de h p bp lp pa th =
    let o = h p bp lp pa th in (pair_up g cs c₁ c₂ base at p d e limit k de o.0, pair_up g cs c₁ c₂ base p at d e limit k de o.1)

pub chain_from : (g : Grammar) (cs c₁ c₂ : List Cell) (base n at : ℕ) (t : Thing) (low e limit : ℕ) → Later cs c₁ base n limit → at < n → ChainIn g c₁ c₂ base at t low e → ChainIn g cs c₂ base at t low e
chain_from g cs c₁ c₂ base n at t low e limit k lt h p bp lp pa th =
    let o = h p bp lp pa (things_later cs c₁ base n limit k (slot_of t) p (omega arith) ∙ th) in
    (pair_from g cs c₁ c₂ base n at p e limit k lt (omega arith) o.0, pair_from g cs c₁ c₂ base n p at e limit k (omega arith) lt o.1)

chain_step : (g : Grammar) (w : List ℕ) (cs c₀ c₁ c₂ : List Cell) (base n to mid next limit at : ℕ) (t : Thing) (p r : ℕ)
    → at < n → 0 < base → 0 < p
    → (Grown g w cs c₀ base n to limit × (p ≤ at) × (0 < p → base ≤ p) × ChainIn g cs c₀ base at t p to)
    → Grown g w c₀ c₁ base to mid limit × PairIn g c₀ c₁ base at p mid
    → Grown g w c₁ c₂ base mid next limit × PairIn g c₁ c₂ base p at next
    → Last (things c₂ (slot_of t)) base t p r
    → Grown g w cs c₂ base n next limit × (r ≤ at) × (0 < r → base ≤ r) × ChainIn g cs c₂ base at t r next
chain_step g w cs c₀ c₁ c₂ base n to mid next limit at t p r lt pos pp inv one two last =
    let G₀ = inv.0 in
    let G₁ = one.0 in
    let G₂ = two.0 in
    let G₀₁ = grown_more g w cs c₀ c₁ base n to mid limit G₀ G₁ in
    let G = grown_more g w cs c₁ c₂ base n mid next limit G₀₁ G₂ in
    let rp : r ≤ at = elim (cases_eq r 0) [ inl z ↦ omega (arith, z) | inr z ↦ let f = last.found (omega (arith, z)) in omega (arith, f.1, inv.1) ] in (
      G,
      rp,
      λ z. (last.found z).0,
      λ x bx rx xa th. elim (cases_lt x p) [
        | inl xp ↦ absurd (last.after x bx rx xp (things_later cs c₂ base n limit G.later (slot_of t) x (omega arith) ∙ th))
        | inr px ↦ elim (cases_lt p x) [
          | inl more ↦ chain_up g cs c₀ c₂ base at t p to next limit (later_more c₀ c₁ c₂ base to mid limit G₁.up G₁.later G₂.later) (omega (arith, G₁.up, G₂.up)) inv.3 x bx more xa th
          | inr less ↦
              let same : p ≡ x = omega arith in
              subst (λ (v : ℕ). PairIn g cs c₂ base at v next × PairIn g cs c₂ base v at next) same (
                pair_up g cs c₁ c₂ base at p mid next limit G₂.later G₂.up (pair_from g cs c₀ c₁ base n at p mid limit G₀.later lt (omega (arith, inv.1)) one.1),
                pair_from g cs c₁ c₂ base n p at next limit G₀₁.later (omega (arith, inv.1)) lt two.1,
              )
        ]
      ],
    )

-- the cells after `other` and up to `at` are joined, and `other` is the next of them, if there is one
abbrev pub Joining : (g : Grammar) (w : List ℕ) (cs cs' : List Cell) (base n to limit at : ℕ) (t : Thing) (other : Option ℕ) → Type 0
Joining g w cs cs' base n to limit at t other =
    Grown g w cs cs' base n to limit × ((p : ℕ) → other ≡ Some p → (0 < p) × (p ≤ at) × (base ≤ p)) × ChainIn g cs cs' base at t (unwrap_or other 0) to

pub chain_first : (g : Grammar) (w : List ℕ) (cs : List Cell) (base n limit at : ℕ) (t : Thing) (other : Option ℕ) → Grown g w cs cs base n n limit → LastOf (things cs (slot_of t)) base t (at + 1) other → Joining g w cs cs base n n limit at t other
chain_first g w cs base n limit at t None G last = (G, λ p e. let z : ◌≡◌ {A = ℕ} 0 1 = cc in omega arith, λ p bp lp pa th. absurd (last.after p bp lp (omega arith) th))
chain_first g w cs base n limit at t (Some q) G last = (
  G,
  λ p e. let same : q ≡ p = cc in let f = last.1.found last.0 in (omega (arith, same, last.0), omega (arith, same, f.1), omega (arith, same, f.0)),
  λ p bp lp pa th. absurd (last.1.after p bp lp (omega arith) th),
)

pub chain_again : (g : Grammar) (w : List ℕ) (cs c₀ c₁ c₂ : List Cell) (base n to mid next limit at : ℕ) (t : Thing) (p : ℕ) (other : Option ℕ)
    → at < n → 0 < base → Joining g w cs c₀ base n to limit at t (Some p)
    → Grown g w c₀ c₁ base to mid limit × PairIn g c₀ c₁ base at p mid
    → Grown g w c₁ c₂ base mid next limit × PairIn g c₁ c₂ base p at next
    → LastOf (things c₂ (slot_of t)) base t p other
    → Joining g w cs c₂ base n next limit at t other
chain_again g w cs c₀ c₁ c₂ base n to mid next limit at t p None lt pos inv one two last =
    let f = inv.1 p refl in
    let o = chain_step g w cs c₀ c₁ c₂ base n to mid next limit at t p 0 lt pos f.0 (inv.0, f.1, (λ z. f.2), inv.2) one two last in
    (o.0, λ q e. let z : ◌≡◌ {A = ℕ} 0 1 = cc in omega arith, o.3)
chain_again g w cs c₀ c₁ c₂ base n to mid next limit at t p (Some q) lt pos inv one two last =
    let f = inv.1 p refl in
    let o = chain_step g w cs c₀ c₁ c₂ base n to mid next limit at t p q lt pos f.0 (inv.0, f.1, (λ z. f.2), inv.2) one two last.1 in
    (o.0, λ r e. let same : q ≡ r = cc in (omega (arith, same, last.0), omega (arith, same, o.1), omega (arith, same, o.2 last.0)), o.3)

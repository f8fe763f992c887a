-- The whole is read just where a made rule is looked up by the start phrase, read as the whole: `verdict`.
use Rattle.std.proofs.Common.{◌≡◌, ℕ, ◌<◌, Bool, true, false, List, Some, None, Option, is_some, Decides, sym, refl, ap, ◌∙◌, subst, inl, inr, arith}
use Rattle.std.proofs.lemmas.Bool.{cases_eq}
use Rattle.grammar.specs.Grammar.{Grammar, from_one}
use Rattle.chart.specs.Chart as chart
use Rattle.chart.specs.Chart.{made, start_read, Accepts}
use Rattle.cells.specs.declared.Cell.{Cell}
use Rattle.cells.specs.declared.Phrase.{Phrase}
use Rattle.cells.specs.declared.Rule.{Rule}
use Rattle.cells.specs.declared.Item.{Item}
use Rattle.cells.specs.declared.Waiting.{Waiting}
use Rattle.cells.specs.declared.Waiting.TheVariants.{Idle, Part, Until, Left}
use Rattle.cells.specs.declared.Row.{Row}
use Rattle.cells.specs.declared.Fact.{Fact}
use Rattle.cells.specs.declared.Fact.TheVariants as fact
use Rattle.cells.specs.Facts.{list_of, phrase_of, rule_of, meant}
use Rattle.cells.proofs.Meant.{phrase_apart}
use Rattle.fact_log.specs.declared.things.Key.{Key}
use Rattle.fact_log.specs.declared.things.Thing.{Thing}
use Rattle.fact_log.specs.declared.things.Thing as thing
use Rattle.fact_log.specs.Index.{cell_of, things, Last, LastOf}
use Rattle.fact_log.specs.Log.{FactAt}
use Rattle.fact_log.specs.Things.{thing_at, row_at, awaited_by, waiting_for}
use Rattle.closing.specs.State.{State, Whole}
use Rattle.closing.specs.Joined.{key_of}

-- an item is not looked up as a made rule is
false_true : {P : Type 0} → false ≡ true → P
false_true e = absurd (let z : ◌≡◌ {A = ℕ} 0 1 = cc in omega arith)

made_by : Thing → Bool
made_by (thing.TheVariants.Fact f) = false
made_by (thing.TheVariants.Key k) = k.made
made_by (thing.TheVariants.Due m) = false

key_made : (t : Thing) (X : Phrase) → Some t ≡ Some (key_of true X 0 0) → made_by t ≡ true
unfolding made_by
key_made t X e = let k : t ≡ key_of true X 0 0 = cc in ap made_by k

waiting_not : (o : Option Phrase) (part end : ℕ) (X : Phrase) → waiting_for o part end 4 ≡ Some (key_of true X 0 0) → ⊥
unfolding made_by
waiting_not None part end X e = let z : ◌≡◌ {A = ℕ} 0 1 = cc in omega arith
waiting_not (Some Y) part end X e = false_true (key_made (key_of false Y 0 0) X e)

item_not : (x : Item) (wait : Waiting) (X : Phrase) → awaited_by x wait 4 ≡ Some (key_of true X 0 0) → ⊥
unfolding made_by
item_not x Idle X e = let z : ◌≡◌ {A = ℕ} 0 1 = cc in omega arith
item_not x (Left n) X e = let z : ◌≡◌ {A = ℕ} 0 1 = cc in omega arith
item_not x (Part d s) X e = waiting_not (from_one (list_of x.rule.arguments) d) s x.end X e
item_not x (Until m) X e = false_true (key_made (thing.TheVariants.Due m) X e)

-- a made rule is looked up by its left side
rule_thing : (cs : List Cell) (p : ℕ) (q : Rule) → FactAt cs p (fact.Made q) → things cs 4 p ≡ Some (key_of true q.left 0 0)
unfolding thing_at
rule_thing cs p q e = ap (λ (r : Row). row_at r (cell_of cs p).wait 4) e

key_phrase : (X Y : Phrase) → Some (key_of true X 0 0) ≡ Some (key_of true Y 0 0) → X ≡ Y
key_phrase X Y e = let k : ◌≡◌ {A = Key} (record { made = true; phrase = X; constituent = 0; start = 0 }) (record { made = true; phrase = Y; constituent = 0; start = 0 }) = cc in ap (λ (v : Key). v.phrase) k

thing_rule : (cs : List Cell) (p : ℕ) (X : Phrase) (f : Fact) → FactAt cs p f → things cs 4 p ≡ Some (key_of true X 0 0) → (q : Rule) × (f ≡ fact.Made q) × (q.left ≡ X)
unfolding thing_at
thing_rule cs p X (fact.Item x) e t = absurd (item_not x (cell_of cs p).wait X (sym (ap (λ (r : Row). row_at r (cell_of cs p).wait 4) e) ∙ t))
thing_rule cs p X (fact.Made q) e t = (q, refl, key_phrase q.left X (sym (rule_thing cs p q e) ∙ t))

fact_made : (f : Fact) (R : chart.Rule) → meant f ≡ made R → (q : Rule) × (f ≡ fact.Made q) × (rule_of q ≡ R)
fact_made (fact.Item x) R e = absurd (let z : ◌≡◌ {A = ℕ} 0 1 = cc in omega arith)
fact_made (fact.Made q) R e = (q, refl, (cc))

verdict_at : (g : Grammar) (w : List ℕ) (cs : List Cell) (base n limit r : ℕ) (X : Phrase) → State g w cs base n limit → Whole g w cs base n → phrase_of X ≡ start_read g w → Last (things cs 4) base (key_of true X 0 0) n r
    → (0 < r → Accepts g w) × (Accepts g w → 0 < r)
verdict_at g w cs base n limit r X st whole is last = (
  λ z.
      let f = last.found z in
      let h = st.log.facts r f.0 f.1 in
      let q = thing_rule cs r X h.0 h.1 f.2 in
      let at : FactAt cs r (fact.Made q.0) = subst (λ (v : Fact). FactAt cs r v) q.1 h.1 in
      (rule_of q.0, st.sound (fact.Made q.0) (r, f.0, f.1, at), ap phrase_of q.2 ∙ is),
  λ a.
      let h = whole (made a.0) a.1 in
      let q = fact_made h.0 a.0 h.2 in
      let p = h.1.0 in
      let at : FactAt cs p (fact.Made q.0) = subst (λ (v : Fact). FactAt cs p v) q.1 h.1.3 in
      let left : q.0.left ≡ X = phrase_apart q.0.left X (ap (λ (v : chart.Rule). v.left) q.2 ∙ (a.2 ∙ sym is)) in
      let th : things cs 4 p ≡ Some (key_of true X 0 0) = rule_thing cs p q.0 at ∙ ap (λ (Y : Phrase). Some (key_of true Y 0 0)) left in
      elim (cases_eq r 0) [
        | inl z ↦ absurd (last.after p h.1.1 (omega (arith, z, st.log.positive, h.1.1)) h.1.2 th)
        | inr z ↦ omega (arith, z)
      ],
)

pub verdict : (g : Grammar) (w : List ℕ) (cs : List Cell) (base n limit : ℕ) (o : Option ℕ) (X : Phrase) → State g w cs base n limit → Whole g w cs base n → phrase_of X ≡ start_read g w → LastOf (things cs 4) base (key_of true X 0 0) n o
    → Decides (is_some o) (Accepts g w)
verdict g w cs base n limit None X st whole is last =
    let v = verdict_at g w cs base n limit 0 X st whole is last in (λ e. absurd (let z : ◌≡◌ {A = ℕ} 0 1 = cc in omega arith), λ a. absurd (omega (arith, v.1 a)))
verdict g w cs base n limit (Some p) X st whole is last = let v = verdict_at g w cs base n limit p X st whole is last.1 in (λ e. v.0 last.0, λ a. refl)

-- Taking a fact leaves no step from it and the facts up to it undone: `waiting_turned`, `moved_turned`, `idle_turned`, `made_turned`. So
-- the facts are closed one further, `closed_again`.
use Rattle.std.proofs.Common.{◌≡◌, ℕ, ◌+◌, ◌<◌, ◌≤◌, true, false, ◌⊎◌, List, Some, None, Option, sym, refl, ap, ◌∙◌, subst, inl, inr, arith}
use Rattle.std.proofs.lemmas.Bool.{cases_lt}
use Rattle.grammar.specs.declared.Symbol.TheVariants.{Token, Argument}
use Rattle.grammar.specs.Grammar.{Grammar, from_one}
use Rattle.chart.specs.Chart as chart
use Rattle.chart.specs.Chart.{Phrase, Rule, unread, read, reading_at, read_as, after_dot, BareRule, Live, bare_rule, made, item, Step, scan, predict_bare, finish, copy, Join, Chart, one}
use Rattle.cells.specs.declared.Span.TheVariants.{Unread}
use Rattle.cells.specs.declared.Phrase as cell
use Rattle.cells.specs.declared.Rule as rule
use Rattle.cells.specs.declared.Cell.{Cell}
use Rattle.cells.specs.declared.Waiting.{Waiting}
use Rattle.cells.specs.declared.Waiting.TheVariants.{Part}
use Rattle.cells.specs.declared.Item.{Item}
use Rattle.cells.specs.declared.Fact.{Fact}
use Rattle.cells.specs.declared.Fact.TheVariants as fact
use Rattle.cells.specs.Facts.{list_of, phrase_of, rule_of, meant}
use Rattle.fact_log.specs.Index.{cell_of, things}
use Rattle.fact_log.specs.Log.{FactAt, Logged, Later}
use Rattle.steps.specs.Nexts.{BeforeArgument, UnreadPart, NextOf}
use Rattle.steps.specs.declared.next.Next.TheVariants.{Moves}
use Rattle.steps.specs.Waits.{Told}
use Rattle.steps.proofs.Joining.{argument_there, open_there}
use Rattle.closing.specs.State.{Has, State, Grown, Outcome, ClosedTo}
use Rattle.closing.specs.Joined.{key_of, ChainIn, PartIn}
use Rattle.closing.specs.Predicted.{EachLive}
use Rattle.closing.specs.Turned.{Turned}
use Rattle.closing.proofs.Growing.{logged_down, has_up, grown_same, grown_more, outcome_after, outcome_so}
use Rattle.closing.proofs.Waiting.{awaits, waits_part, from_item, from_made}
use Rattle.closing.proofs.Chains.{chain_up, chain_from}
use Rattle.closing.proofs.Keys.{item_whole, item_part, made_whole, made_part, waiting_key, slot_part, three_cases}

-- the steps from an item that waits for constituent s of X: its bare rules start
bare_at : (g : Grammar) (w : List ℕ) {y z : chart.Fact} → Step g w y z → (R : Rule) (L J I K d s : ℕ) (X : Phrase) → y ≡ item R L J I K → after_dot g R L I ≡ Some (Argument d s) → from_one R.arguments d ≡ Some X → reading_at X s ≡ Some unread
    → (q : Rule) × BareRule g q × (q.left ≡ X) × (z ≡ item q s K 0 K)
bare_at g w (scan {r = r} {l = l} {i = i} {t = t} a n) R L J I K d s X e b x u =
    let er : r ≡ R = cc in
    let el : l ≡ L = cc in
    let ei : i ≡ I = cc in
    let h : after_dot g R L I ≡ Some (Token t) = subst (λ (v : Rule). after_dot g v L I ≡ Some (Token t)) er (subst (λ (v : ℕ). after_dot g r v I ≡ Some (Token t)) el (subst (λ (v : ℕ). after_dot g r l v ≡ Some (Token t)) ei a)) in
    absurd (let z : ◌≡◌ {A = ℕ} 0 1 = cc in omega arith)
bare_at g w (predict_bare {r = r} {q = q} {l = l} {j = j} {i = i} {k = k} {d = d₁} {s = s₁} a x₁ u₁ bare) R L J I K d s X e b x u =
    let er : r ≡ R = cc in
    let el : l ≡ L = cc in
    let ei : i ≡ I = cc in
    let ek : k ≡ K = cc in
    let h : after_dot g R L I ≡ Some (Argument d₁ s₁) = subst (λ (v : Rule). after_dot g v L I ≡ Some (Argument d₁ s₁)) er (subst (λ (v : ℕ). after_dot g r v I ≡ Some (Argument d₁ s₁)) el (subst (λ (v : ℕ). after_dot g r l v ≡ Some (Argument d₁ s₁)) ei a)) in
    let ed : d₁ ≡ d = cc in
    let es : s₁ ≡ s = cc in
    let there : from_one R.arguments d ≡ Some q.left = subst (λ (v : ℕ). from_one R.arguments v ≡ Some q.left) ed (ap (λ (v : Rule). from_one v.arguments d₁) (sym er) ∙ x₁) in
    let left : q.left ≡ X = cc in
    (q, bare, left, ap (λ (v : ℕ). item q v k 0 k) es ∙ ap (λ (v : ℕ). item q s v 0 v) ek)
bare_at g w (finish {r = r} {l = l} {i = i} a) R L J I K d s X e b x u =
    let er : r ≡ R = cc in
    let el : l ≡ L = cc in
    let ei : i ≡ I = cc in
    let h : after_dot g R L I ≡ None = subst (λ (v : Rule). after_dot g v L I ≡ None) er (subst (λ (v : ℕ). after_dot g r v I ≡ None) el (subst (λ (v : ℕ). after_dot g r l v ≡ None) ei a)) in
    absurd (let z : ◌≡◌ {A = ℕ} 0 1 = cc in omega arith)
bare_at g w (copy {r = r} {l = l} {i = i} {d = d₁} {s = s₁} {a = a₁} {b = b₁} {X = X₁} a x₁ u₁ ab km) R L J I K d s X e b x u =
    let er : r ≡ R = cc in
    let el : l ≡ L = cc in
    let ei : i ≡ I = cc in
    let h : after_dot g R L I ≡ Some (Argument d₁ s₁) = subst (λ (v : Rule). after_dot g v L I ≡ Some (Argument d₁ s₁)) er (subst (λ (v : ℕ). after_dot g r v I ≡ Some (Argument d₁ s₁)) el (subst (λ (v : ℕ). after_dot g r l v ≡ Some (Argument d₁ s₁)) ei a)) in
    let ed : d₁ ≡ d = cc in
    let es : s₁ ≡ s = cc in
    let there : from_one R.arguments d ≡ Some X₁ = subst (λ (v : ℕ). from_one R.arguments v ≡ Some X₁) ed (ap (λ (v : Rule). from_one v.arguments d₁) (sym er) ∙ x₁) in
    let same : X₁ ≡ X = cc in
    let not : reading_at X s ≡ Some (read a₁ b₁) = subst (λ (v : Phrase). reading_at v s ≡ Some (read a₁ b₁)) same (subst (λ (v : ℕ). reading_at X₁ v ≡ Some (read a₁ b₁)) es u₁) in
    absurd (let z : ◌≡◌ {A = ℕ} 0 1 = cc in omega arith)

-- no step leads from a made rule alone
step_item : (g : Grammar) (w : List ℕ) {y z : chart.Fact} → Step g w y z → (q : Rule) → y ≡ made q → ⊥
step_item g w (scan a n) q e = let z : ◌≡◌ {A = ℕ} 0 1 = cc in omega arith
step_item g w (predict_bare a x u b) q e = let z : ◌≡◌ {A = ℕ} 0 1 = cc in omega arith
step_item g w (finish a) q e = let z : ◌≡◌ {A = ℕ} 0 1 = cc in omega arith
step_item g w (copy a x u ab km) q e = let z : ◌≡◌ {A = ℕ} 0 1 = cc in omega arith

-- what the bare rules of the phrase that an item waits for start is in the chart
pub waiting_chart : (g : Grammar) (w : List ℕ) (x : Item) (d s : ℕ) (X : cell.Phrase) → Chart g w (meant (fact.Item x)) → BeforeArgument g x d s → from_one (list_of x.rule.arguments) d ≡ Some X → from_one (list_of X.spans) s ≡ Some Unread
    → EachLive g (phrase_of X) s x.end (Chart g w)
waiting_chart g w x d s X c b a u p q l is =
    one c (predict_bare b (argument_there x d X a ∙ ap Some (sym is)) (ap (λ (v : Phrase). reading_at v s) is ∙ open_there X s u) (record { place = p; production = q; live = l; is = refl }))

-- the phrase at the argument that an item waits for a part of
pub awaited_open : (x : Item) (d s : ℕ) (X : cell.Phrase) → UnreadPart x d s → from_one (list_of x.rule.arguments) d ≡ Some X → from_one (list_of X.spans) s ≡ Some Unread
awaited_open x d s X u a = let v = u.1 in let same : u.0 ≡ X = cc in subst (λ (y : cell.Phrase). from_one (list_of y.spans) s ≡ Some Unread) same u.2

-- the argument that an item stands before is one
one_part : (g : Grammar) (x : Item) (d s e t : ℕ) → BeforeArgument g x d s → BeforeArgument g x e t → (d ≡ e) × (s ≡ t)
one_part g x d s e t a b = (cc, cc)

waiting_made : (g : Grammar) (cs c₃ : List Cell) (base at : ℕ) (x : Item) (d s : ℕ) (X : cell.Phrase) (e : ℕ) → 0 < base → FactAt cs at (fact.Item x) → BeforeArgument g x d s → from_one (list_of x.rule.arguments) d ≡ Some X
    → from_one (list_of X.spans) s ≡ Some Unread → ChainIn g cs c₃ base at (key_of true X s x.end) 0 e → ChainIn g cs c₃ base at (key_of true X 0 0) 0 e
    → (q : rule.Rule) (z : chart.Fact) → Logged cs base (at + 1) (fact.Made q) → Join g (meant (fact.Item x)) (meant (fact.Made q)) z → Has c₃ base e z
waiting_made g cs c₃ base at x d s X e pos own b a u parts wholes q z L j =
    let A = awaits g x q z j in
    let P = one_part g x A.d A.s d s A.before b in
    let there : from_one (list_of x.rule.arguments) d ≡ Some A.awaited = subst (λ (v : ℕ). from_one (list_of x.rule.arguments) v ≡ Some A.awaited) P.0 A.argument in
    let X-is : A.awaited ≡ X = cc in
    let p = L.0 in
    let up : p ≤ at = omega (arith, L.2) in
    let positive : 0 < p = omega (arith, L.1) in
    elim A.left [
      | inl l ↦
          let key : things cs 4 p ≡ Some (key_of true X 0 0) = made_whole cs p q L.3 ∙ ap (λ (v : cell.Phrase). Some (key_of true v 0 0)) (l ∙ X-is) in
          (wholes p L.1 positive up key).0 x q z own L.3 j
      | inr l ↦
          let is : phrase_of q.left ≡ read_as (phrase_of X) s x.end l.0 =
          l.1 ∙ (ap (λ (v : ℕ). read_as (phrase_of A.awaited) v x.end l.0) P.1 ∙ ap (λ (v : cell.Phrase). read_as (phrase_of v) s x.end l.0) X-is) in
          let key : things cs s p ≡ Some (key_of true X s x.end) = made_part cs p q s x.end l.0 X L.3 u is in
          let slot = slot_part true X s x.end Unread u in
          (parts p L.1 positive up (subst (λ (v : ℕ). things cs v p ≡ Some (key_of true X s x.end)) (sym slot) key)).0 x q z own L.3 j
    ]

waiting_joins : (g : Grammar) (cs c₃ : List Cell) (base at : ℕ) (x : Item) (d s : ℕ) (X : cell.Phrase) (e : ℕ) → 0 < base → FactAt cs at (fact.Item x) → BeforeArgument g x d s → from_one (list_of x.rule.arguments) d ≡ Some X
    → from_one (list_of X.spans) s ≡ Some Unread → ChainIn g cs c₃ base at (key_of true X s x.end) 0 e → ChainIn g cs c₃ base at (key_of true X 0 0) 0 e
    → (h : Fact) (z : chart.Fact) → Logged cs base (at + 1) h → Join g (meant (fact.Item x)) (meant h) z ⊎ Join g (meant h) (meant (fact.Item x)) z → Has c₃ base e z
waiting_joins g cs c₃ base at x d s X e pos own b a u parts wholes (fact.Item y) z L (inl j) = absurd (from_made g j (rule_of y.rule) y.constituent y.start y.dot y.end refl)
waiting_joins g cs c₃ base at x d s X e pos own b a u parts wholes (fact.Made q) z L (inl j) = waiting_made g cs c₃ base at x d s X e pos own b a u parts wholes q z L j
waiting_joins g cs c₃ base at x d s X e pos own b a u parts wholes h z L (inr j) = absurd (from_made g j (rule_of x.rule) x.constituent x.start x.dot x.end refl)

pub waiting_turned : (g : Grammar) (w : List ℕ) (cs c₁ c₂ c₃ : List Cell) (base n e₁ e₂ limit at : ℕ) (x : Item) (d s : ℕ) (X : cell.Phrase) (r : Option ℕ)
    → 0 < base → at < n → FactAt cs at (fact.Item x) → BeforeArgument g x d s → from_one (list_of x.rule.arguments) d ≡ Some X → from_one (list_of X.spans) s ≡ Some Unread
    → Grown g w cs c₁ base n e₁ limit × EachLive g (phrase_of X) s x.end (Has c₁ base e₁)
    → Grown g w c₁ c₂ base e₁ e₂ limit × ChainIn g c₁ c₂ base at (key_of true X 0 0) 0 e₂
    → Outcome g w c₂ c₃ base e₂ limit (ChainIn g c₂ c₃ base at (key_of true X s x.end) 0) r
    → Outcome g w cs c₃ base n limit (Turned g w cs c₃ base at (fact.Item x)) r
waiting_turned g w cs c₁ c₂ c₃ base n e₁ e₂ limit at x d s X r pos lt own b a u h₁ h₂ h₃ =
    let G₁ = h₁.0 in
    let G₂ = h₂.0 in
    let G₁₂ = grown_more g w cs c₁ c₂ base n e₁ e₂ limit G₁ G₂ in
    outcome_after g w cs c₂ c₃ base n e₂ limit (ChainIn g c₂ c₃ base at (key_of true X s x.end) 0) (Turned g w cs c₃ base at (fact.Item x)) r G₁₂
    (λ e G₃ chain.
    let G₂₃ = grown_more g w c₁ c₂ c₃ base e₁ e₂ e limit G₂ G₃ in
    let parts = chain_from g cs c₂ c₃ base n at (key_of true X s x.end) 0 e limit G₁₂.later lt chain in
    let wholes = chain_from g cs c₁ c₃ base n at (key_of true X 0 0) 0 e limit G₁.later lt (chain_up g c₁ c₂ c₃ base at (key_of true X 0 0) 0 e₂ e limit G₃.later G₃.up h₂.1) in
    record {
      steps = λ z st.
          let B = bare_at g w st (rule_of x.rule) x.constituent x.start x.dot x.end d s (phrase_of X) refl b (argument_there x d X a) (open_there X s u) in
          let q-is = B.1.is in
          let h = h₁.1 B.1.place B.1.production B.1.live (ap (λ (v : Rule). v.left) (sym q-is) ∙ B.2) in
          let z-is : item (bare_rule g B.1.place B.1.production) s x.end 0 x.end ≡ z = ap (λ (v : Rule). item v s x.end 0 x.end) (sym q-is) ∙ sym B.3 in
          has_up c₁ c₃ base e₁ e₁ e limit z G₂₃.later (omega arith) G₂₃.up (subst (λ (v : chart.Fact). Has c₁ base e₁ v) z-is h);
      joins = λ h z L j. waiting_joins g cs c₃ base at x d s X e pos own b a u parts wholes h z L j;
    }) h₃

-- an item that does not wait for a part joins with nothing
idle_joins : (g : Grammar) (cs c₁ : List Cell) (base at : ℕ) (x : Item) (wait : Waiting) (e : ℕ) → Told g x wait → ((d s : ℕ) → wait ≡ Part d s → ⊥)
    → (h : Fact) (z : chart.Fact) → Logged cs base (at + 1) h → Join g (meant (fact.Item x)) (meant h) z ⊎ Join g (meant h) (meant (fact.Item x)) z → Has c₁ base e z
idle_joins g cs c₁ base at x wait e t other (fact.Item y) z L (inl j) = absurd (from_made g j (rule_of y.rule) y.constituent y.start y.dot y.end refl)
idle_joins g cs c₁ base at x wait e t other (fact.Made q) z L (inl j) = let A = awaits g x q z j in absurd (other A.d A.s (waits_part g x wait q t A))
idle_joins g cs c₁ base at x wait e t other h z L (inr j) = absurd (from_made g j (rule_of x.rule) x.constituent x.start x.dot x.end refl)

pub moved_turned : (g : Grammar) (w : List ℕ) (cs c₁ : List Cell) (base n limit at : ℕ) (x : Item) (wait : Waiting) (f : Fact) (r : Option ℕ) → Told g x wait → ((d s : ℕ) → wait ≡ Part d s → ⊥) → NextOf g w x (Moves f)
    → Outcome g w cs c₁ base n limit (λ e. Has c₁ base e (meant f)) r → Outcome g w cs c₁ base n limit (Turned g w cs c₁ base at (fact.Item x)) r
moved_turned g w cs c₁ base n limit at x wait f r t other nx o =
    outcome_so g w cs c₁ base n limit (λ e. Has c₁ base e (meant f)) (Turned g w cs c₁ base at (fact.Item x)) r
    (λ e G h. record { steps = λ z st. (h.0, h.1, h.2 ∙ sym (nx.1 z st)); joins = idle_joins g cs c₁ base at x wait e t other }) o

pub idle_turned : (g : Grammar) (w : List ℕ) (cs : List Cell) (base n limit at : ℕ) (x : Item) (wait : Waiting) → State g w cs base n limit → Told g x wait → ((d s : ℕ) → wait ≡ Part d s → ⊥) → ((z : chart.Fact) → Step g w (meant (fact.Item x)) z → ⊥)
    → Outcome g w cs cs base n limit (Turned g w cs cs base at (fact.Item x)) (Some n)
idle_turned g w cs base n limit at x wait s t other none =
    (grown_same g w cs base n limit s, record { steps = λ z st. absurd (none z st); joins = idle_joins g cs cs base at x wait n t other })

part_from : (g : Grammar) (cs c₁ c₂ : List Cell) (base n at : ℕ) (X : cell.Phrase) (s e limit : ℕ) → Later cs c₁ base n limit → at < n → PartIn g c₁ c₂ base at X s e → PartIn g cs c₂ base at X s e
part_from g cs c₁ c₂ base n at X s e limit k lt h t key = chain_from g cs c₁ c₂ base n at t 0 e limit k lt (h t key)

part_up : (g : Grammar) (cs c₁ c₂ : List Cell) (base at : ℕ) (X : cell.Phrase) (s d e limit : ℕ) → Later c₁ c₂ base d limit → d ≤ e → PartIn g cs c₁ base at X s d → PartIn g cs c₂ base at X s e
part_up g cs c₁ c₂ base at X s d e limit k de h t key = chain_up g cs c₁ c₂ base at t 0 d e limit k de (h t key)

made_item : (g : Grammar) (w : List ℕ) (cs c₄ : List Cell) (base n limit at : ℕ) (q : rule.Rule) (e : ℕ) → State g w cs base n limit → at < n → FactAt cs at (fact.Made q) → ChainIn g cs c₄ base at (key_of false q.left 0 0) 0 e
    → PartIn g cs c₄ base at q.left 1 e → PartIn g cs c₄ base at q.left 2 e → PartIn g cs c₄ base at q.left 3 e
    → (x : Item) (z : chart.Fact) → Logged cs base (at + 1) (fact.Item x) → Join g (meant (fact.Item x)) (meant (fact.Made q)) z → Has c₄ base e z
made_item g w cs c₄ base n limit at q e st lt own wholes first second third x z L j =
    let A = awaits g x q z j in
    let p = L.0 in
    let up : p ≤ at = omega (arith, L.2) in
    let below : p < n = omega arith in
    let positive : 0 < p = omega (arith, L.1, st.log.positive) in
    let wait : (cell_of cs p).wait ≡ Part A.d A.s = waits_part g x (cell_of cs p).wait q (st.told p x L.1 below L.3) A in
    elim A.left [
      | inl l ↦
          let key : things cs 4 p ≡ Some (key_of false q.left 0 0) = item_whole cs p x A.d A.s A.awaited L.3 wait A.argument ∙ ap (λ (v : cell.Phrase). Some (key_of false v 0 0)) (sym l) in
          (wholes p L.1 positive up key).1 x q z L.3 own j
      | inr l ↦
          let key : things cs A.s p ≡ Some (key_of false A.awaited A.s x.end) = item_part cs p x A.d A.s A.awaited Unread L.3 wait A.argument A.vacant in
          let slot = slot_part false A.awaited A.s x.end Unread A.vacant in
          let part : PartIn g cs c₄ base at q.left A.s e = three_cases A.awaited A.s Unread (λ (v : ℕ). PartIn g cs c₄ base at q.left v e) A.vacant first second third in
          (part (key_of false A.awaited A.s x.end) (waiting_key q A.s x.end l.0 A.awaited A.vacant l.1) p L.1 positive up
          (subst (λ (v : ℕ). things cs v p ≡ Some (key_of false A.awaited A.s x.end)) (sym slot) key)).1 x q z L.3 own j
    ]

made_joins : (g : Grammar) (w : List ℕ) (cs c₄ : List Cell) (base n limit at : ℕ) (q : rule.Rule) (e : ℕ) → State g w cs base n limit → at < n → FactAt cs at (fact.Made q) → ChainIn g cs c₄ base at (key_of false q.left 0 0) 0 e
    → PartIn g cs c₄ base at q.left 1 e → PartIn g cs c₄ base at q.left 2 e → PartIn g cs c₄ base at q.left 3 e
    → (h : Fact) (z : chart.Fact) → Logged cs base (at + 1) h → Join g (meant (fact.Made q)) (meant h) z ⊎ Join g (meant h) (meant (fact.Made q)) z → Has c₄ base e z
made_joins g w cs c₄ base n limit at q e st lt own wholes first second third h z L (inl j) = absurd (from_item g j (rule_of q) refl)
made_joins g w cs c₄ base n limit at q e st lt own wholes first second third (fact.Item x) z L (inr j) = made_item g w cs c₄ base n limit at q e st lt own wholes first second third x z L j
made_joins g w cs c₄ base n limit at q e st lt own wholes first second third (fact.Made y) z L (inr j) = absurd (from_item g j (rule_of y) refl)

-- while the constituents of a made rule's left side X are gone through: it was joined with what is looked up by X alone, and with the items
-- that wait for a constituent before s
pub record Parted (g : Grammar) (w : List ℕ) (cs c₁ : List Cell) (base n limit at : ℕ) (X : cell.Phrase) (s e : ℕ) : Type 0 where
  pub grown : Grown g w cs c₁ base n e limit
  pub wholes : ChainIn g cs c₁ base at (key_of false X 0 0) 0 e
  pub parts : (k : ℕ) → 1 ≤ k → k < s → PartIn g cs c₁ base at X k e

pub parted_again : (g : Grammar) (w : List ℕ) (cs c₁ c₂ : List Cell) (base n limit at : ℕ) (X : cell.Phrase) (s d e : ℕ) → at < n → Parted g w cs c₁ base n limit at X s d
    → Grown g w c₁ c₂ base d e limit × PartIn g c₁ c₂ base at X s e → Parted g w cs c₂ base n limit at X (s + 1) e
parted_again g w cs c₁ c₂ base n limit at X s d e lt p h =
    let G = h.0 in
    record {
      grown = grown_more g w cs c₁ c₂ base n d e limit p.grown G;
      wholes = chain_up g cs c₁ c₂ base at (key_of false X 0 0) 0 d e limit G.later G.up p.wholes;
      parts = λ k one below.
          elim (cases_lt k s) [
            | inl before ↦ part_up g cs c₁ c₂ base at X k d e limit G.later G.up (p.parts k one before)
            | inr from ↦
                let same : s ≡ k = omega (arith, below) in
                subst (λ (v : ℕ). PartIn g cs c₂ base at X v e) same (part_from g cs c₁ c₂ base n at X s e limit p.grown.later lt h.1)
          ];
    }

pub made_turned : (g : Grammar) (w : List ℕ) (cs c₁ : List Cell) (base n limit at : ℕ) (q : rule.Rule) (s e : ℕ) → State g w cs base n limit → at < n → FactAt cs at (fact.Made q) → 3 < s
    → Parted g w cs c₁ base n limit at q.left s e → Grown g w cs c₁ base n e limit × Turned g w cs c₁ base at (fact.Made q) e
made_turned g w cs c₁ base n limit at q s e st lt own all p = (
  p.grown,
  record {
    steps = λ z t. absurd (step_item g w t (rule_of q) refl);
    joins = made_joins g w cs c₁ base n limit at q e st lt own p.wholes (p.parts 1 (omega arith) (omega (arith, all))) (p.parts 2 (omega arith) (omega (arith, all))) (p.parts 3 (omega arith) all);
  },
)

-- the fact that stands last among those before `at + 1`, or one before
last_or : (cs : List Cell) (base at : ℕ) (h : Fact) → Logged cs base (at + 1) h → FactAt cs at h ⊎ Logged cs base at h
last_or cs base at h L = elim (cases_lt L.0 at) [
  | inl lt ↦ inr (L.0, L.1, lt, L.3)
  | inr ge ↦ let same : L.0 ≡ at = omega (arith, L.2) in inl (subst (λ (p : ℕ). FactAt cs p h) same L.3)
]

pub closed_again : (g : Grammar) (w : List ℕ) (c₀ c₁ : List Cell) (base at to e limit : ℕ) → at < to → base ≤ at → ClosedTo g w c₀ base at to → Grown g w c₀ c₁ base to e limit → ((f : Fact) → FactAt c₀ at f → Turned g w c₀ c₁ base at f e)
    → ClosedTo g w c₁ base (at + 1) e
closed_again g w c₀ c₁ base at to e limit lt ba k G turn =
    record {
      steps = λ f z L s. elim (last_or c₀ base at f (logged_down c₀ c₁ base to (at + 1) limit f G.later (omega arith) L)) [
        | inl own ↦ (turn f own).steps z s
        | inr old ↦ has_up c₀ c₁ base to to e limit z G.later (omega arith) G.up (k.steps f z old s)
      ];
      joins = λ x y z L M j.
          let L₀ = logged_down c₀ c₁ base to (at + 1) limit x G.later (omega arith) L in
          let M₀ = logged_down c₀ c₁ base to (at + 1) limit y G.later (omega arith) M in
          elim (last_or c₀ base at x L₀) [
            | inl own ↦ (turn x own).joins y z M₀ (inl j)
            | inr old ↦ elim (last_or c₀ base at y M₀) [
              | inl own ↦ (turn y own).joins x z L₀ (inr j)
              | inr older ↦ has_up c₀ c₁ base to to e limit z G.later (omega arith) G.up (k.joins x y z old older j)
            ]
          ];
    }

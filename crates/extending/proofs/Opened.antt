-- What a token opens: the items that are due (`due_wait`), so that taking these leaves the facts closed (`closed_opened`), and in the end
-- all facts of the chart are there (`whole_closed`).
use Rattle.std.proofs.Common.{◌≡◌, ℕ, suc, ◌<◌, ◌≤◌, List, [], ◌∷◌, ◌++◌, length, Some, None, Option, sym, refl, ap, ◌∙◌, subst, inl, inr, arith, length-append}
use Rattle.std.proofs.lemmas.Bool.{cases_lt}
use Rattle.std.specs.Option.{option_map, unwrap_or}
use Rattle.grammar.specs.declared.Symbol.TheVariants.{Token, Argument}
use Rattle.grammar.specs.Grammar.{Grammar, from_one}
use Rattle.faults.specs.Sound.{Sound}
use Rattle.chart.specs.Chart as chart
use Rattle.chart.specs.Chart.{Phrase, Rule, read, Reads, reading_at, after_dot, bare, BareRule, made, item, Begin, begin, Step, Join, Chart, first, two}
use Rattle.chart.specs.Theorems.{Opens, scans, copies}
use Rattle.chart.proofs.Ends.{item_inside}
use Rattle.chart.proofs.Faultless.{faultless_sound}
use Rattle.chart.proofs.Growth.{grows, opens}
use Rattle.chart.proofs.Smallest.{least}
use Rattle.cells.specs.declared.Span.{Span}
use Rattle.cells.specs.declared.Span.TheVariants.{Unread, Read}
use Rattle.cells.specs.declared.Cell.{Cell}
use Rattle.cells.specs.declared.Row.{Row}
use Rattle.cells.specs.declared.Row as row
use Rattle.cells.specs.declared.Waiting.{Waiting}
use Rattle.cells.specs.declared.Waiting.TheVariants.{Until}
use Rattle.cells.specs.declared.Item.{Item}
use Rattle.cells.specs.declared.Fact.{Fact}
use Rattle.cells.specs.declared.Fact.TheVariants as fact
use Rattle.cells.specs.Facts.{list_of, reading_of, phrase_of, rule_of, meant}
use Rattle.fact_log.specs.declared.things.Thing.{Thing}
use Rattle.fact_log.specs.declared.things.Thing.TheVariants.{Due}
use Rattle.fact_log.specs.Index.{cell_of, things, Last, LastOf}
use Rattle.fact_log.specs.Log.{FactAt, Logged, Log, Later}
use Rattle.fact_log.specs.Things.{slot_of, thing_at, row_at}
use Rattle.fact_log.proofs.Cutting.{things_later}
use Rattle.steps.specs.Nexts.{BeforeToken, BeforeArgument}
use Rattle.steps.specs.Waits.{Told}
use Rattle.steps.proofs.Reading.{from_mapped}
use Rattle.closing.specs.State.{Has, State, Grown, Outcome, ClosedTo, Whole}
use Rattle.rows.specs.declared.counts.Counts.{Counts}
use Rattle.closing.specs.Ready.{grammar_in}
use Rattle.closing.specs.Predicted.{EachLive}
use Rattle.closing.specs.Turned.{Turned}
use Rattle.closing.proofs.Growing.{fact_up, logged_down, has_up, grown_more, outcome_after}
use Rattle.closing.proofs.Waiting.{mapped_some}
use Rattle.extending.specs.Charted.{Charted, DueIn, Before}

-- the facts after `due` that are due were taken, and `due` is the next of them, if there is one
abbrev pub Taking : (g : Grammar) (w : List ℕ) (cs c₀ : List Cell) (base n to limit : ℕ) (t : Thing) (due : Option ℕ) → Type 0
Taking g w cs c₀ base n to limit t due =
    Grown g w cs c₀ base n to limit × ((p : ℕ) → due ≡ Some p → (0 < p) × (base ≤ p) × (p < n)) × DueIn g w cs c₀ base n t (unwrap_or due 0) to

pub due_first : (g : Grammar) (w : List ℕ) (cs : List Cell) (base n limit : ℕ) (t : Thing) (due : Option ℕ) → Grown g w cs cs base n n limit → LastOf (things cs (slot_of t)) base t n due → Taking g w cs cs base n n limit t due
due_first g w cs base n limit t None G last = (G, λ p e. let z : ◌≡◌ {A = ℕ} 0 1 = cc in omega arith, λ p bp lp pn th f z a s. absurd (last.after p bp lp pn th))
due_first g w cs base n limit t (Some q) G last = (
  G,
  λ p e. let same : q ≡ p = cc in let f = last.1.found last.0 in (omega (arith, same, last.0), omega (arith, same, f.0), omega (arith, same, f.1)),
  λ p bp lp pn th f z a s. absurd (last.1.after p bp lp pn th),
)

due_step : (g : Grammar) (w : List ℕ) (cs c₀ c₁ : List Cell) (base n to next limit : ℕ) (t : Thing) (p r : ℕ) → 0 < p
    → (Grown g w cs c₀ base n to limit × (0 < p → (base ≤ p) × (p < n)) × DueIn g w cs c₀ base n t p to)
    → Grown g w c₀ c₁ base to next limit × ((f : Fact) → FactAt c₀ p f → Turned g w c₀ c₁ base p f next)
    → Last (things c₁ (slot_of t)) base t p r
    → Grown g w cs c₁ base n next limit × (0 < r → (base ≤ r) × (r < n)) × DueIn g w cs c₁ base n t r next
due_step g w cs c₀ c₁ base n to next limit t p r pos inv turn last =
    let G₀ = inv.0 in
    let G₁ = turn.0 in
    let G = grown_more g w cs c₀ c₁ base n to next limit G₀ G₁ in
    let P = inv.1 pos in (
      G,
      λ z. let f = last.found z in (f.0, omega (arith, f.1, P.1)),
      λ x bx rx xn th f z at s. elim (cases_lt x p) [
        | inl xp ↦ absurd (last.after x bx rx xp (things_later cs c₁ base n limit G.later (slot_of t) x xn ∙ th))
        | inr px ↦ elim (cases_lt p x) [
          | inl more ↦ has_up c₀ c₁ base to to next limit z G₁.later (omega arith) G₁.up (inv.2 x bx more xn th f z at s)
          | inr less ↦
              let same : x ≡ p = omega arith in
              (turn.1 f (subst (λ (v : ℕ). FactAt c₀ v f) same (fact_up cs c₀ base n limit x f G₀.later xn at))).steps z s
        ]
      ],
    )

-- one turn of taking the facts that are due
pub due_again : (g : Grammar) (w : List ℕ) (cs c₀ c₁ : List Cell) (base n to next limit : ℕ) (t : Thing) (p : ℕ) (due : Option ℕ) → Taking g w cs c₀ base n to limit t (Some p)
    → Grown g w c₀ c₁ base to next limit × ((f : Fact) → FactAt c₀ p f → Turned g w c₀ c₁ base p f next)
    → LastOf (things c₁ (slot_of t)) base t p due
    → Taking g w cs c₁ base n next limit t due
due_again g w cs c₀ c₁ base n to next limit t p None inv turn last =
    let f = inv.1 p refl in
    let o = due_step g w cs c₀ c₁ base n to next limit t p 0 f.0 (inv.0, (λ z. (f.1, f.2)), inv.2) turn last in
    (o.0, λ q e. let z : ◌≡◌ {A = ℕ} 0 1 = cc in omega arith, o.2)
due_again g w cs c₀ c₁ base n to next limit t p (Some q) inv turn last =
    let f = inv.1 p refl in
    let o = due_step g w cs c₀ c₁ base n to next limit t p q f.0 (inv.0, (λ z. (f.1, f.2)), inv.2) turn last.1 in
    let r = o.1 last.0 in
    (o.0, λ v e. let same : q ≡ v = cc in (omega (arith, same, last.0), omega (arith, same, r.0), omega (arith, same, r.1)), o.2)

read_span : (o : Option Span) (a b : ℕ) → option_map reading_of o ≡ Some (read a b) → o ≡ Some (Read a b)
read_span None a b e = cc
read_span (Some Unread) a b e = cc
read_span (Some (Read c d)) a b e = cc

-- an item from which t opens a step waits for that many tokens
due_wait : (g : Grammar) (w : List ℕ) (t : ℕ) → Sound g → {y z : chart.Fact} → Opens g w t y z → (x : Item) (wait : Waiting) → y ≡ meant (fact.Item x) → Chart g w y → Told g x wait → wait ≡ Until (suc (length w))
due_wait g w t sd (scans {r = r} {l = l} {j = j} {i = i} a) x wait e c told =
    let er : r ≡ rule_of x.rule = cc in
    let el : l ≡ x.constituent = cc in
    let ei : i ≡ x.dot = cc in
    let ek : length w ≡ x.end = cc in
    let b : BeforeToken g x t = subst (λ (v : Rule). after_dot g v x.constituent x.dot ≡ Some (Token t)) er (subst (λ (v : ℕ). after_dot g r v x.dot ≡ Some (Token t)) el (subst (λ (v : ℕ). after_dot g r l v ≡ Some (Token t)) ei a)) in
    told.token t b ∙ ap (λ (v : ℕ). Until (suc v)) (sym ek)
due_wait g w t sd (copies {r = r} {l = l} {j = j} {i = i} {k = k} {d = d} {s = s} {a = a} {b = b} {X = X} {u = u} h n rd ab km) x wait e c told =
    let er : r ≡ rule_of x.rule = cc in
    let el : l ≡ x.constituent = cc in
    let ei : i ≡ x.dot = cc in
    let ek : k ≡ x.end = cc in
    let before : BeforeArgument g x d s = subst (λ (v : Rule). after_dot g v x.constituent x.dot ≡ Some (Argument d s)) er (subst (λ (v : ℕ). after_dot g r v x.dot ≡ Some (Argument d s)) el (subst (λ (v : ℕ). after_dot g r l v ≡ Some (Argument d s)) ei h)) in
    let Y = mapped_some phrase_of (from_one (list_of x.rule.arguments) d) X (sym (from_mapped phrase_of (list_of x.rule.arguments) d) ∙ (ap (λ (v : Rule). from_one v.arguments d) (sym er) ∙ n)) in
    let there : reading_at (phrase_of Y.0) s ≡ Some (read a b) = ap (λ (v : Phrase). reading_at v s) Y.2 ∙ rd in
    let span : from_one (list_of Y.0.spans) s ≡ Some (Read a b) = read_span (from_one (list_of Y.0.spans) s) a b (sym (from_mapped reading_of (list_of Y.0.spans) s) ∙ there) in
    let inside : k ≤ length w = item_inside g w (faultless_sound g sd) c in
    told.copy d s a b (suc (length w)) Y.0 before Y.1 span (omega (arith, ab.ends, km.ends, inside)) (omega (arith, ab.ends, km.ends, ek))

due_thing : (cs : List Cell) (p m : ℕ) (x : Item) → FactAt cs p (fact.Item x) → (cell_of cs p).wait ≡ Until m → things cs 4 p ≡ Some (Due m)
unfolding thing_at
due_thing cs p m x e v = ap (λ (r : Row). row_at r (cell_of cs p).wait 4) e ∙ ap (λ (u : Waiting). row_at (row.TheVariants.Fact (fact.Item x)) u 4) v

opens_item : (g : Grammar) (w : List ℕ) (t : ℕ) {y z : chart.Fact} → Opens g w t y z → (q : Rule) → y ≡ made q → ⊥
opens_item g w t (scans a) q e = let z : ◌≡◌ {A = ℕ} 0 1 = cc in omega arith
opens_item g w t (copies h n rd ab km) q e = let z : ◌≡◌ {A = ℕ} 0 1 = cc in omega arith

-- so the fact is looked up as due
due_fact : (g : Grammar) (w : List ℕ) (t : ℕ) → Sound g → (cs : List Cell) (base n limit p : ℕ) (f : Fact) (z : chart.Fact) → State g w cs base n limit → base ≤ p → p < n → FactAt cs p f → Opens g w t (meant f) z → things cs 4 p ≡ Some (Due (suc (length w)))
due_fact g w t sd cs base n limit p (fact.Item x) z s bp pn e o =
    due_thing cs p (suc (length w)) x e (due_wait g w t sd o x (cell_of cs p).wait refl (s.sound (fact.Item x) (p, bp, pn, e)) (s.told p x bp pn e))
due_fact g w t sd cs base n limit p (fact.Made q) z s bp pn e o = absurd (opens_item g w t o (rule_of q) refl)

-- the facts of the chart of w are in that of w with t
pub state_grows : (g : Grammar) (w v : List ℕ) (cs : List Cell) (base n limit : ℕ) → State g w cs base n limit → State g (w ++ v) cs base n limit
state_grows g w v cs base n limit s = record { log = s.log; sound = λ f l. grows g w v (s.sound f l); told = s.told }

-- a fact of the chart of w leads to such a fact, or to one that was added
opened_step : (g : Grammar) (w : List ℕ) (t : ℕ) → Sound g → (cs c₁ : List Cell) (base n e limit : ℕ) → Charted g w cs base n limit → Later cs c₁ base n limit → n ≤ e → DueIn g (w ++ (t ∷ [])) cs c₁ base n (Due (suc (length w))) 0 e
    → (f : Fact) (z : chart.Fact) → Logged cs base n f → Step g (w ++ (t ∷ [])) (meant f) z → Has c₁ base e z
opened_step g w t sd cs c₁ base n e limit k later up due f z L s = elim (opens g w t (faultless_sound g sd) (k.state.sound f L) s) [
  | inl c ↦ has_up cs c₁ base n n e limit z later (omega arith) up (k.whole z c)
  | inr o ↦ due L.0 L.1 (omega (arith, L.1, k.state.log.positive)) L.2 (due_fact g w t sd cs base n limit L.0 f z k.state L.1 L.2 L.3 o) f z L.3 s
]

pub closed_opened : (g : Grammar) (w : List ℕ) (t : ℕ) → Sound g → (cs c₁ : List Cell) (base n e limit : ℕ) → Charted g w cs base n limit → Later cs c₁ base n limit → n ≤ e → DueIn g (w ++ (t ∷ [])) cs c₁ base n (Due (suc (length w))) 0 e
    → ClosedTo g (w ++ (t ∷ [])) c₁ base n e
closed_opened g w t sd cs c₁ base n e limit k later up due =
    record {
      steps = λ f z L s. opened_step g w t sd cs c₁ base n e limit k later up due f z (logged_down cs c₁ base n n limit f later (omega arith) L) s;
      joins = λ x y z L M j.
          has_up cs c₁ base n n e limit z later (omega arith) up
          (k.whole z (two (k.state.sound x (logged_down cs c₁ base n n limit x later (omega arith) L)) (k.state.sound y (logged_down cs c₁ base n n limit y later (omega arith) M)) j));
    }

-- closed under the steps, the facts are all of the chart
pub whole_closed : (g : Grammar) (w : List ℕ) (cs : List Cell) (base n : ℕ) → ((z : chart.Fact) → Begin g z → Has cs base n z) → ClosedTo g w cs base n n → Whole g w cs base n
whole_closed g w cs base n b k z c =
    least g w (Has cs base n)
    (record {
      begins = b;
      steps = λ x y h s. k.steps h.0 y h.1 (subst (λ (v : chart.Fact). Step g w v y) (sym h.2) s);
      joins = λ x y v h i j. k.joins h.0 i.0 v h.1 i.1 (subst (λ (a : chart.Fact). Join g a (meant i.0) v) (sym h.2) (subst (λ (a : chart.Fact). Join g x a v) (sym i.2) j));
    }) c

-- what begins
pub begin_chart : (g : Grammar) (w : List ℕ) (X : Phrase) → X ≡ bare g g.start → EachLive g X 1 0 (Chart g w)
begin_chart g w X e p q l is = first (begin (record { place = p; production = q; live = l; is = refl }) (ap (λ (Y : Phrase). Y.category) (is ∙ e)))

begins : (g : Grammar) (cs : List Cell) (base n : ℕ) (X : Phrase) → X ≡ bare g g.start → EachLive g X 1 0 (Has cs base n) → {z : chart.Fact} → Begin g z → Has cs base n z
begins g cs base n X e each (begin {r = r} b c) =
    let left : r.left ≡ X = ap (λ (v : Rule). v.left) b.is ∙ (ap (bare g) (ap (λ (v : Rule). v.left.category) (sym b.is) ∙ c) ∙ sym e) in
    subst (λ (v : Rule). Has cs base n (item v 1 0 0 0)) (sym b.is) (each b.place b.production b.live (ap (λ (v : Rule). v.left) (sym b.is) ∙ left))

pub begun_whole : (g : Grammar) (w : List ℕ) (cs c₁ c₂ : List Cell) (base e limit : ℕ) (X : Phrase) (r : Option ℕ) → X ≡ bare g g.start → Grown g w cs c₁ base base e limit × EachLive g X 1 0 (Has c₁ base e)
    → Outcome g w c₁ c₂ base e limit (λ n. ClosedTo g w c₂ base n n) r → Outcome g w cs c₂ base base limit (Whole g w c₂ base) r
begun_whole g w cs c₁ c₂ base e limit X r is h o =
    outcome_after g w cs c₁ c₂ base base e limit (λ n. ClosedTo g w c₂ base n n) (Whole g w c₂ base) r h.0
    (λ n G k. whole_closed g w c₂ base n (λ z b. has_up c₁ c₂ base e e n limit z G.later (omega arith) G.up (begins g c₁ base e X is h.1 b)) k) o

pub empty_state : (g : Grammar) (w : List ℕ) (cs : List Cell) (base limit : ℕ) → Log cs base base limit → State g w cs base base limit
empty_state g w cs base limit l = record { log = l; sound = λ f L. absurd (omega (arith, L.1, L.2)); told = λ p x bp pn e. absurd (omega arith) }

-- the state with one token more
pub before_state : (g : Grammar) (tokens : List ℕ) (cs : List Cell) (base n limit : ℕ) → Before g tokens cs base n limit → State g tokens cs base n limit
before_state g tokens cs base n limit b = subst (λ (v : List ℕ). State g v cs base n limit) (sym b.is) (state_grows g b.w (b.t ∷ []) cs base n limit b.charted.state)

one_more_lem : (tokens w : List ℕ) (t : ℕ) → tokens ≡ w ++ (t ∷ []) → length tokens ≡ suc (length w)
one_more_lem tokens w t e = omega (arith, ap length e ∙ length-append w (t ∷ []))

pub before_closed : (g : Grammar) (tokens : List ℕ) → Sound g → (cs c₁ : List Cell) (base n e limit : ℕ) → Before g tokens cs base n limit → Grown g tokens cs c₁ base n e limit × DueIn g tokens cs c₁ base n (Due (length tokens)) 0 e
    → ClosedTo g tokens c₁ base n e
before_closed g tokens sd cs c₁ base n e limit b h =
    let due : DueIn g (b.w ++ (b.t ∷ [])) cs c₁ base n (Due (suc (length b.w))) 0 e =
    subst (λ (v : List ℕ). DueIn g v cs c₁ base n (Due (suc (length b.w))) 0 e) b.is (subst (λ (m : ℕ). DueIn g tokens cs c₁ base n (Due m) 0 e) (one_more_lem tokens b.w b.t b.is) h.1) in
    subst (λ (v : List ℕ). ClosedTo g v c₁ base n e) (sym b.is) (closed_opened g b.w b.t sd cs c₁ base n e limit b.charted h.0.later h.0.up due)

pub extended_whole : (g : Grammar) (tokens : List ℕ) (cs c₁ c₂ : List Cell) (base n e limit : ℕ) (r : Option ℕ) → Before g tokens cs base n limit → Grown g tokens cs c₁ base n e limit
    → Outcome g tokens c₁ c₂ base e limit (λ m. ClosedTo g tokens c₂ base m m) r → Outcome g tokens cs c₂ base n limit (Whole g tokens c₂ base) r
extended_whole g tokens cs c₁ c₂ base n e limit r b G o =
    outcome_after g tokens cs c₁ c₂ base n e limit (λ m. ClosedTo g tokens c₂ base m m) (Whole g tokens c₂ base) r G
    (λ m H k.
    let all = grown_more g tokens cs c₁ c₂ base n e m limit G H in
    whole_closed g tokens c₂ base m (λ z begins. has_up cs c₂ base n n m limit z all.later (omega arith) all.up (b.charted.whole z (first begins))) k) o

pub begun_closed : (g : Grammar) (w : List ℕ) (cs : List Cell) (base n : ℕ) → ClosedTo g w cs base base n
begun_closed g w cs base n = record { steps = λ f z L s. absurd (omega (arith, L.1, L.2)); joins = λ x y z L M j. absurd (omega (arith, L.1, L.2)) }

-- the start that the counts have is that of the grammar in the cells
pub start_counted : (cs : List Cell) (base : ℕ) (counts : Counts) → counts.start ≡ (grammar_in cs base counts).start
unfolding grammar_in
start_counted cs base counts = refl

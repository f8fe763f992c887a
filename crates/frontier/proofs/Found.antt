-- The items that are due offer what is in the frontier, and no more: `frontier_marked`.
use Rattle.std.proofs.Common.{◌≡◌, ℕ, suc, ◌+◌, ◌-◌, ◌*◌, ◌<◌, ◌≤◌, Bool, List, map, length, Some, None, Option, sym, refl, ap, ◌∙◌, subst, arith}
use Rattle.std.specs.Option.{option_map}
use Rattle.grammar.specs.declared.Symbol.{Symbol}
use Rattle.grammar.specs.declared.Symbol.TheVariants.{Token, Argument}
use Rattle.grammar.specs.Grammar.{Grammar, from_one}
use Rattle.faults.specs.Sound.{Sound}
use Rattle.chart.specs.Chart as chart
use Rattle.chart.specs.Chart.{read, reading_at, after_dot, item, Chart, Frontier}
use Rattle.chart.proofs.Faultless.{faultless_sound}
use Rattle.chart.proofs.Shapes.{argument_inside}
use Rattle.chart.proofs.Soundness.{sound}
use Rattle.cells.specs.declared.Cell.{Cell}
use Rattle.cells.specs.declared.Span.{Span}
use Rattle.cells.specs.declared.Span.TheVariants.{Unread, Read}
use Rattle.cells.specs.declared.Short.{Short}
use Rattle.cells.specs.declared.Phrase.{Phrase}
use Rattle.cells.specs.declared.Item.{Item}
use Rattle.cells.specs.declared.Waiting.TheVariants.{Until}
use Rattle.cells.specs.declared.Fact.{Fact}
use Rattle.cells.specs.declared.Fact.TheVariants as fact
use Rattle.cells.specs.Facts.{list_of, reading_of, phrase_of, rule_of, meant}
use Rattle.fact_log.specs.declared.things.Thing as thing
use Rattle.fact_log.specs.Index.{cell_of, things}
use Rattle.fact_log.specs.Log.{FactAt, Logged}
use Rattle.fact_log.specs.Things.{thing_at}
use Rattle.steps.specs.Nexts.{BeforeToken, BeforeArgument}
use Rattle.steps.proofs.Reading.{from_mapped}
use Rattle.closing.specs.State.{Has, State, Whole}
use Rattle.frontier.specs.Offers.{Runs, Offers, before, within}
use Rattle.frontier.specs.Marks.{Marks, RangeOffers}
use Rattle.frontier.proofs.Chains.{marks_so}

-- what an item of the chart offers is in the frontier
offers_frontier : (g : Grammar) (w : List ℕ) (x : Item) (t : ℕ) → Chart g w (meant (fact.Item x)) → Offers g w x t → Frontier g w t
offers_frontier g w x t c (before e b) =
    chart.before {r = rule_of x.rule} {l = x.constituent} {j = x.start} {i = x.dot} (subst (λ (k : ℕ). Chart g w (item (rule_of x.rule) x.constituent x.start x.dot k)) e c) b
offers_frontier g w x t c (within d s a b X f there is h) =
    let here : from_one (map phrase_of (list_of x.rule.arguments)) d ≡ Some (phrase_of X) = from_mapped phrase_of (list_of x.rule.arguments) d ∙ ap (option_map phrase_of) there in
    let span : reading_at (phrase_of X) s ≡ Some (read a b) = from_mapped reading_of (list_of X.spans) s ∙ ap (option_map reading_of) is in
    chart.within c f here span h.once h.again h.inside h.next

found : (g : Grammar) (w : List ℕ) (cs : List Cell) (base n limit m k : ℕ) → State g w cs base n limit → (t : ℕ) → RangeOffers g w cs base n m k t → Frontier g w t
found g w cs base n limit m k s t o =
    let d = o.3 in
    let x = d.offers.0 in
    offers_frontier g w x t (s.sound (fact.Item x) (d.at, d.from, d.upto, d.offers.1)) d.offers.2

-- an item that waits until there are m tokens is looked up by m
due_thing : (cs : List Cell) (p m : ℕ) (x : Item) → FactAt cs p (fact.Item x) → (cell_of cs p).wait ≡ Until m → things cs 4 p ≡ Some (thing.TheVariants.Due m)
unfolding thing_at
due_thing cs p m x e f = cc

-- the item in a cell that means an item of the chart
record Held (cs : List Cell) (base n : ℕ) (R : chart.Rule) (L I K : ℕ) : Type 0 where
  x : Item
  p : ℕ
  from : base ≤ p
  upto : p < n
  there : FactAt cs p (fact.Item x)
  rule : rule_of x.rule ≡ R
  constituent : x.constituent ≡ L
  dot : x.dot ≡ I
  end : x.end ≡ K

held : (cs : List Cell) (base n : ℕ) (R : chart.Rule) (L J I K : ℕ) (f : Fact) → Logged cs base n f → meant f ≡ item R L J I K → Held cs base n R L I K
held cs base n R L J I K (fact.Made q) l e = absurd (let z : ◌≡◌ {A = ℕ} 0 1 = cc in omega arith)
held cs base n R L J I K (fact.Item x) l e = record { x = x; p = l.0; from = l.1; upto = l.2; there = l.3; rule = cc; constituent = cc; dot = cc; end = cc }

-- the same symbol follows its dot
held_dot : (g : Grammar) (cs : List Cell) (base n : ℕ) (R : chart.Rule) (L I K : ℕ) (h : Held cs base n R L I K) (o : Option Symbol) → after_dot g R L I ≡ o → after_dot g (rule_of h.x.rule) h.x.constituent h.x.dot ≡ o
held_dot g cs base n R L I K h o e =
    ap (λ (r : chart.Rule). after_dot g r h.x.constituent h.x.dot) h.rule ∙ (ap (λ (l : ℕ). after_dot g R l h.x.dot) h.constituent ∙ (ap (after_dot g R L) h.dot ∙ e))

-- where a phrase, or a reading, is what is meant by something
unmapped : {X Y : Type 0} (f : X → Y) (o : Option X) (y : Y) → option_map f o ≡ Some y → (x : X) × (o ≡ Some x) × (f x ≡ y)
unmapped f None y e = absurd (let z : ◌≡◌ {A = ℕ} 0 1 = cc in omega arith)
unmapped f (Some x) y e = (x, refl, (cc))

reading_read : (s : Span) (a b : ℕ) → reading_of s ≡ read a b → s ≡ Read a b
reading_read Unread a b e = cc
reading_read (Read c d) a b e = cc

phrase_read : (arguments : Short Phrase) (d s a b : ℕ) (X : chart.Phrase) → from_one (map phrase_of (list_of arguments)) d ≡ Some X → reading_at X s ≡ Some (read a b)
    → (Y : Phrase) × (from_one (list_of arguments) d ≡ Some Y) × (from_one (list_of Y.spans) s ≡ Some (Read a b))
phrase_read arguments d s a b X there is =
    let Y = unmapped phrase_of (from_one (list_of arguments) d) X (sym (from_mapped phrase_of (list_of arguments) d) ∙ there) in
    let here : reading_at (phrase_of Y.0) s ≡ Some (read a b) = ap (λ (Z : chart.Phrase). reading_at Z s) Y.2 ∙ is in
    let S = unmapped reading_of (from_one (list_of Y.0.spans) s) (read a b) (sym (from_mapped reading_of (list_of Y.0.spans) s) ∙ here) in
    (Y.0, Y.1, S.1 ∙ ap Some (reading_read S.0 a b S.2))

-- the frontier is offered by items that are due after at most twice as many tokens and one
found_before : (g : Grammar) (w : List ℕ) (cs : List Cell) (base n limit : ℕ) → State g w cs base n limit → (t : ℕ) (R : chart.Rule) (L J I : ℕ) → Has cs base n (item R L J I (length w)) → after_dot g R L I ≡ Some (Token t)
    → RangeOffers g w cs base n (length w + 1) (2 * (length w + 1)) t
found_before g w cs base n limit st t R L J I has e =
    let h = held cs base n R L J I (length w) has.0 has.1 has.2 in
    let b : BeforeToken g h.x t = held_dot g cs base n R L I (length w) h (Some (Token t)) e in
    let waits : (cell_of cs h.p).wait ≡ Until (suc h.x.end) = (st.told h.p h.x h.from h.upto h.there).token t b in
    let end = h.end in (
      suc h.x.end,
      omega arith,
      omega arith,
      record {
        at = h.p;
        from = h.from;
        past = omega (arith, st.log.positive, h.from);
        upto = h.upto;
        due = due_thing cs h.p (suc h.x.end) h.x h.there waits;
        offers = (h.x, h.there, before end b);
      },
    )

found_within : (g : Grammar) (w : List ℕ) (cs : List Cell) (base n limit : ℕ) → State g w cs base n limit → (t : ℕ) (R : chart.Rule) (L J I K d s a b : ℕ) (X : chart.Phrase) → Has cs base n (item R L J I K)
    → after_dot g R L I ≡ Some (Argument d s) → from_one R.arguments d ≡ Some X → reading_at X s ≡ Some (read a b) → b ≤ length w → Runs w a b K t → RangeOffers g w cs base n (length w + 1) (2 * (length w + 1)) t
found_within g w cs base n limit st t R L J I K d s a b X has e there is bw runs =
    let h = held cs base n R L J I K has.0 has.1 has.2 in
    let f : BeforeArgument g h.x d s = held_dot g cs base n R L I K h (Some (Argument d s)) e in
    let Y = phrase_read h.x.rule.arguments d s a b X (ap (λ (r : chart.Rule). from_one r.arguments d) h.rule ∙ there) is in
    let span = Y.2 in
    let end : h.x.end ≡ K = h.end in
    let one = runs.once.ends in
    let two = runs.again.ends in
    let short = runs.inside in
    let m : ℕ = K + b - a in
    let waits : (cell_of cs h.p).wait ≡ Until m = (st.told h.p h.x h.from h.upto h.there).copy d s a b m Y.0 f Y.1 span (omega arith) (omega arith) in (
      m,
      omega arith,
      omega arith,
      record {
        at = h.p;
        from = h.from;
        past = omega (arith, st.log.positive, h.from);
        upto = h.upto;
        due = due_thing cs h.p m h.x h.there waits;
        offers = (h.x, h.there, within d s a b Y.0 f Y.1 span (subst (λ (k : ℕ). Runs w a b k t) (sym end) runs));
      },
    )

all_found : (g : Grammar) (w : List ℕ) (cs : List Cell) (base n limit : ℕ) → Sound g → State g w cs base n limit → Whole g w cs base n → (t : ℕ) → Frontier g w t → RangeOffers g w cs base n (length w + 1) (2 * (length w + 1)) t
all_found g w cs base n limit sd st whole t (chart.before {r = r} {l = l} {j = j} {i = i} c e) = found_before g w cs base n limit st t r l j i (whole (item r l j i (length w)) c) e
all_found g w cs base n limit sd st whole t (chart.within {r = r} {l = l} {j = j} {i = i} {k = k} {d = d} {s = s} {a = a} {b = b} {c = v} {X = X} {u = u} c e there is once again inside next) =
    found_within g w cs base n limit st t r l j i k d s a b X (whole (item r l j i k) c) e there is (argument_inside g w r (sound g w (faultless_sound g sd) c).rule d s a b X there is).1
    (record { upto = v; string = u; once = once; again = again; inside = inside; next = next })

pub frontier_marked : (g : Grammar) (w : List ℕ) (cs : List Cell) (base n limit k : ℕ) (old new : List Bool) → Sound g → State g w cs base n limit → Whole g w cs base n → 2 * (length w + 1) ≤ k
    → Marks (RangeOffers g w cs base n (length w + 1) k) old new → Marks (Frontier g w) old new
frontier_marked g w cs base n limit k old new sd st whole far =
    marks_so (RangeOffers g w cs base n (length w + 1) k) (Frontier g w) old new (found g w cs base n limit (length w + 1) k st)
    (λ t f. let o = all_found g w cs base n limit sd st whole t f in (o.0, o.1, omega (arith, o.2), o.3))

-- An item and a made rule that join: the item waits for a part of a phrase, and the rule has that phrase, with the part unread or
-- read, on its left (`awaits`).
use Rattle.std.proofs.Common.{◌≡◌, ℕ, ◌≤◌, ◌⊎◌, Some, None, Option, sym, refl, ap, ◌∙◌, subst, inl, inr, arith}
use Rattle.std.specs.Option.{option_map}
use Rattle.grammar.specs.declared.Symbol.TheVariants.{Argument}
use Rattle.grammar.specs.Grammar.{Grammar, from_one}
use Rattle.chart.specs.Chart as chart
use Rattle.chart.specs.Chart.{Reading, unread, reading_at, read_as, after_dot, made, item, Join, predict, combine}
use Rattle.cells.specs.declared.Span.{Span}
use Rattle.cells.specs.declared.Span.TheVariants.{Unread, Read}
use Rattle.cells.specs.declared.Phrase.{Phrase}
use Rattle.cells.specs.declared.Rule.{Rule}
use Rattle.cells.specs.declared.Item.{Item}
use Rattle.cells.specs.declared.Waiting.{Waiting}
use Rattle.cells.specs.declared.Waiting.TheVariants.{Part}
use Rattle.cells.specs.declared.Fact.TheVariants as fact
use Rattle.cells.specs.Facts.{list_of, reading_of, phrase_of, rule_of, meant}
use Rattle.cells.proofs.Meant.{phrase_apart}
use Rattle.steps.specs.Nexts.{BeforeArgument}
use Rattle.steps.specs.Waits.{Told}
use Rattle.steps.proofs.Moving.{dot_few}
use Rattle.steps.proofs.Reading.{from_mapped}
use Rattle.closing.specs.Joined.{JoinedOf}

-- how a join leads from the item R, L, J, I, K and the made rule Q
record Met (g : Grammar) (R Q : chart.Rule) (L I K : ℕ) : Type 0 where
  d : ℕ
  s : ℕ
  awaited : chart.Phrase
  before : after_dot g R L I ≡ Some (Argument d s)
  argument : from_one R.arguments d ≡ Some awaited
  vacant : reading_at awaited s ≡ Some unread
  left : (Q.left ≡ awaited) ⊎ ((m : ℕ) × (Q.left ≡ read_as awaited s K m))

met_at : (g : Grammar) {x y z : chart.Fact} → Join g x y z → (R Q : chart.Rule) (L J I K : ℕ) → x ≡ item R L J I K → y ≡ made Q → Met g R Q L I K
met_at g (predict {r = r} {q = q} {l = l} {j = j} {i = i} {k = k} {d = d} {s = s} a n u) R Q L J I K e f =
    let er : r ≡ R = cc in
    let eq : q ≡ Q = cc in
    let el : l ≡ L = cc in
    let ei : i ≡ I = cc in
    record {
      d = d;
      s = s;
      awaited = q.left;
      before = subst (λ (v : chart.Rule). after_dot g v L I ≡ Some (Argument d s)) er (subst (λ (v : ℕ). after_dot g r v I ≡ Some (Argument d s)) el (subst (λ (v : ℕ). after_dot g r l v ≡ Some (Argument d s)) ei a));
      argument = ap (λ (v : chart.Rule). from_one v.arguments d) (sym er) ∙ n;
      vacant = u;
      left = inl (ap (λ (v : chart.Rule). v.left) (sym eq));
    }
met_at g (combine {r = r} {q = q} {l = l} {j = j} {i = i} {k = k} {d = d} {s = s} {m = m} {X = X} a n u is) R Q L J I K e f =
    let er : r ≡ R = cc in
    let eq : q ≡ Q = cc in
    let el : l ≡ L = cc in
    let ei : i ≡ I = cc in
    let ek : k ≡ K = cc in
    record {
      d = d;
      s = s;
      awaited = X;
      before = subst (λ (v : chart.Rule). after_dot g v L I ≡ Some (Argument d s)) er (subst (λ (v : ℕ). after_dot g r v I ≡ Some (Argument d s)) el (subst (λ (v : ℕ). after_dot g r l v ≡ Some (Argument d s)) ei a));
      argument = ap (λ (v : chart.Rule). from_one v.arguments d) (sym er) ∙ n;
      vacant = u;
      left = inr (m, ap (λ (v : chart.Rule). v.left) (sym eq) ∙ (is ∙ ap (λ (v : ℕ). read_as X s v m) ek));
    }

-- a join leads from an item and a made rule only
pub from_item : (g : Grammar) {x y z : chart.Fact} → Join g x y z → (q : chart.Rule) → x ≡ made q → ⊥
from_item g (predict a n u) q e = let z : ◌≡◌ {A = ℕ} 0 1 = cc in omega arith
from_item g (combine a n u is) q e = let z : ◌≡◌ {A = ℕ} 0 1 = cc in omega arith

pub from_made : (g : Grammar) {x y z : chart.Fact} → Join g x y z → (r : chart.Rule) (l j i k : ℕ) → y ≡ item r l j i k → ⊥
from_made g (predict a n u) r l j i k e = let z : ◌≡◌ {A = ℕ} 0 1 = cc in omega arith
from_made g (combine a n u is) r l j i k e = let z : ◌≡◌ {A = ℕ} 0 1 = cc in omega arith

pub mapped_some : {X Y : Type 0} (f : X → Y) (o : Option X) (y : Y) → option_map f o ≡ Some y → (x : X) × (o ≡ Some x) × (f x ≡ y)
mapped_some f None y e = absurd (let z : ◌≡◌ {A = ℕ} 0 1 = cc in omega arith)
mapped_some f (Some x) y e = (x, refl, cc)

unread_span : (o : Option Span) → option_map reading_of o ≡ Some unread → o ≡ Some Unread
unread_span None e = cc
unread_span (Some Unread) e = refl
unread_span (Some (Read a b)) e = cc

-- the item waits for constituent s of the phrase that is its argument d, and the rule has that phrase on its left, or that phrase with
-- s read from the item's end
pub record Awaits (g : Grammar) (x : Item) (q : Rule) : Type 0 where
  pub d : ℕ
  pub s : ℕ
  pub awaited : Phrase
  pub before : BeforeArgument g x d s
  pub argument : from_one (list_of x.rule.arguments) d ≡ Some awaited
  pub vacant : from_one (list_of awaited.spans) s ≡ Some Unread
  pub left : (q.left ≡ awaited) ⊎ ((m : ℕ) × (phrase_of q.left ≡ read_as (phrase_of awaited) s x.end m))

pub awaits : (g : Grammar) (x : Item) (q : Rule) (z : chart.Fact) → Join g (meant (fact.Item x)) (meant (fact.Made q)) z → Awaits g x q
awaits g x q z j =
    let k = met_at g j (rule_of x.rule) (rule_of q) x.constituent x.start x.dot x.end refl refl in
    let Y = mapped_some phrase_of (from_one (list_of x.rule.arguments) k.d) k.awaited (sym (from_mapped phrase_of (list_of x.rule.arguments) k.d) ∙ k.argument) in
    let u : reading_at (phrase_of Y.0) k.s ≡ Some unread = ap (λ (v : chart.Phrase). reading_at v k.s) Y.2 ∙ k.vacant in
    record {
      d = k.d;
      s = k.s;
      awaited = Y.0;
      before = k.before;
      argument = Y.1;
      vacant = unread_span (from_one (list_of Y.0.spans) k.s) (sym (from_mapped reading_of (list_of Y.0.spans) k.s) ∙ u);
      left = elim k.left [
        | inl e ↦ inl (phrase_apart q.left Y.0 (e ∙ sym Y.2))
        | inr e ↦ inr (e.0, e.1 ∙ ap (λ (v : chart.Phrase). read_as v k.s x.end e.0) (sym Y.2))
      ];
    }

pub waits_part : (g : Grammar) (x : Item) (wait : Waiting) (q : Rule) → Told g x wait → (a : Awaits g x q) → wait ≡ Part a.d a.s
waits_part g x wait q t a = t.parts a.d a.s a.before (a.awaited, a.argument, a.vacant)

-- an item that does not wait for a part joins with nothing
pub joined_idle : (x : Item) (wait : Waiting) (q : Rule) → ((d s : ℕ) → wait ≡ Part d s → ⊥) → JoinedOf x wait q None
joined_idle x wait q other g sd t z j = let a = awaits g x q z j in other a.d a.s (waits_part g x wait q t a)

-- the dot of an item that waits for a part is before a symbol
pub joined_far : (x : Item) (wait : Waiting) (d s : ℕ) (q : Rule) → wait ≡ Part d s → 16 ≤ x.dot → JoinedOf x wait q None
joined_far x wait d s q e far g sd t z j = let b = dot_few g sd x.rule.place x.constituent x.dot (t.part d s e).0 in omega (arith, b)

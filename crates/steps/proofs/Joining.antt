-- Which joins lead from an item and a made rule: `joins`. At most one does.
use Rattle.std.proofs.Common.{◌≡◌, ℕ, suc, map, Some, None, sym, refl, ap, ◌∙◌, subst, arith}
use Rattle.std.specs.Option.{option_map}
use Rattle.grammar.specs.declared.Symbol.TheVariants.{Argument}
use Rattle.grammar.specs.Grammar.{Grammar, from_one}
use Rattle.chart.specs.Chart as chart
use Rattle.chart.specs.Chart.{Reading, unread, read, reading_at, read_as, with_argument, after_dot, made, item, Join, predict, combine}
use Rattle.cells.specs.declared.Span.TheVariants.{Unread, Read}
use Rattle.cells.specs.declared.Phrase.{Phrase}
use Rattle.cells.specs.declared.Rule.{Rule}
use Rattle.cells.specs.declared.Item.{Item}
use Rattle.cells.specs.declared.Fact.TheVariants as fact
use Rattle.cells.specs.Facts.{list_of, reading_of, phrase_of, rule_of, meant}
use Rattle.cells.proofs.Meant.{phrase_apart}
use Rattle.steps.specs.Joins.{JoinOf}
use Rattle.steps.proofs.Reading.{from_mapped, span_there}

-- how a join leads from the item R, L, J, I, K and the made rule Q to z
pub data Way (g : Grammar) (R Q : chart.Rule) (L J I K : ℕ) (z : chart.Fact) : Type 0 where
  predicts : (d s : ℕ) → after_dot g R L I ≡ Some (Argument d s) → from_one R.arguments d ≡ Some Q.left → z ≡ item Q s K 0 K → Way g R Q L J I K z
  combines : (d s m : ℕ) (X : chart.Phrase) → after_dot g R L I ≡ Some (Argument d s) → from_one R.arguments d ≡ Some X → Q.left ≡ read_as X s K m → z ≡ item (with_argument R d Q.left) L J (suc I) m → Way g R Q L J I K z

way_at : (g : Grammar) {x y z : chart.Fact} → Join g x y z → (R Q : chart.Rule) (L J I K : ℕ) → x ≡ item R L J I K → y ≡ made Q → Way g R Q L J I K z
way_at g (predict {r = r} {q = q} {l = l} {j = j} {i = i} {k = k} {d = d} {s = s} a n u) R Q L J I K e f =
    let er : r ≡ R = cc in
    let eq : q ≡ Q = cc in
    let el : l ≡ L = cc in
    let ei : i ≡ I = cc in
    let ek : k ≡ K = cc in
    let y : after_dot g R L I ≡ Some (Argument d s) = subst (λ (v : chart.Rule). after_dot g v L I ≡ Some (Argument d s)) er (subst (λ (v : ℕ). after_dot g r v I ≡ Some (Argument d s)) el (subst (λ (v : ℕ). after_dot g r l v ≡ Some (Argument d s)) ei a)) in
    predicts d s y ((ap (λ (v : chart.Rule). from_one v.arguments d) (sym er) ∙ n) ∙ ap (λ (v : chart.Rule). Some v.left) eq) (cc)
way_at g (combine {r = r} {q = q} {l = l} {j = j} {i = i} {k = k} {d = d} {s = s} {m = m} {X = X} a n u is) R Q L J I K e f =
    let er : r ≡ R = cc in
    let eq : q ≡ Q = cc in
    let el : l ≡ L = cc in
    let ej : j ≡ J = cc in
    let ei : i ≡ I = cc in
    let ek : k ≡ K = cc in
    let y : after_dot g R L I ≡ Some (Argument d s) = subst (λ (v : chart.Rule). after_dot g v L I ≡ Some (Argument d s)) er (subst (λ (v : ℕ). after_dot g r v I ≡ Some (Argument d s)) el (subst (λ (v : ℕ). after_dot g r l v ≡ Some (Argument d s)) ei a)) in
    let left : q.left ≡ Q.left = ap (λ (v : chart.Rule). v.left) eq in
    combines d s m X y (ap (λ (v : chart.Rule). from_one v.arguments d) (sym er) ∙ n) (sym left ∙ (is ∙ ap (λ (v : ℕ). read_as X s v m) ek))
    (ap (λ (v : chart.Rule). item (with_argument v d q.left) l j (suc i) m) er ∙ (ap (λ (v : chart.Phrase). item (with_argument R d v) l j (suc i) m) left ∙ (let p : item (with_argument R d Q.left) l j (suc i) m ≡ item (with_argument R d Q.left) L J (suc I) m = cc in p)))

pub ways : (g : Grammar) (x : Item) (q : Rule) (z : chart.Fact) → Join g (meant (fact.Item x)) (meant (fact.Made q)) z → Way g (rule_of x.rule) (rule_of q) x.constituent x.start x.dot x.end z
ways g x q z j = way_at g j (rule_of x.rule) (rule_of q) x.constituent x.start x.dot x.end refl refl

-- the argument that an item waits for
pub argument_is : (x : Item) (d e : ℕ) (Y : Phrase) (X : chart.Phrase) → e ≡ d → from_one (list_of x.rule.arguments) d ≡ Some Y → from_one (map phrase_of (list_of x.rule.arguments)) e ≡ Some X → X ≡ phrase_of Y
argument_is x d e Y X ed there n =
    let here : from_one (map phrase_of (list_of x.rule.arguments)) d ≡ Some (phrase_of Y) = from_mapped phrase_of (list_of x.rule.arguments) d ∙ ap (option_map phrase_of) there in
    let same : Some X ≡ Some (phrase_of Y) = sym n ∙ (ap (from_one (map phrase_of (list_of x.rule.arguments))) ed ∙ here) in
    cc

pub open_there : (Y : Phrase) (s : ℕ) → from_one (list_of Y.spans) s ≡ Some Unread → reading_at (phrase_of Y) s ≡ Some unread
open_there Y s u = from_mapped reading_of (list_of Y.spans) s ∙ ap (option_map reading_of) u

pub argument_there : (x : Item) (d : ℕ) (Y : Phrase) → from_one (list_of x.rule.arguments) d ≡ Some Y → from_one (map phrase_of (list_of x.rule.arguments)) d ≡ Some (phrase_of Y)
argument_there x d Y there = from_mapped phrase_of (list_of x.rule.arguments) d ∙ ap (option_map phrase_of) there

-- a phrase is not itself with an unread constituent read
not_itself : (Y : Phrase) (s k m : ℕ) → from_one (list_of Y.spans) s ≡ Some Unread → phrase_of Y ≡ read_as (phrase_of Y) s k m → ⊥
not_itself Y s k m u e = let r : Some Unread ≡ Some (Read k m) = sym u ∙ span_there Y Y s k m u e in let z : ◌≡◌ {A = ℕ} 0 1 = cc in omega arith

pub join_predicts : (x z : Item) (d s : ℕ) (Y : Phrase) (q : Rule) → from_one (list_of x.rule.arguments) d ≡ Some Y → from_one (list_of Y.spans) s ≡ Some Unread → q.left ≡ Y → meant (fact.Item z) ≡ item (rule_of q) s x.end 0 x.end
    → JoinOf x d s q (Some (fact.Item z))
join_predicts x z d s Y q there u is e g a =
    let left : phrase_of q.left ≡ phrase_of Y = ap phrase_of is in (
      subst (λ (v : chart.Fact). Join g (meant (fact.Item x)) (meant (fact.Made q)) v) (sym e)
          (predict a (argument_there x d Y there ∙ ap Some (sym left)) (ap (λ (v : chart.Phrase). reading_at v s) left ∙ open_there Y s u)),
      λ y j. elim (ways g x q y j) [
        | predicts f c b n w ↦ let cs : c ≡ s = cc in w ∙ (ap (λ (v : ℕ). item (rule_of q) v x.end 0 x.end) cs ∙ sym e)
        | combines f c m X b n r w ↦
            let fd : f ≡ d = cc in
            let cs : c ≡ s = cc in
            let X-is : X ≡ phrase_of Y = argument_is x d f Y X fd there n in
            let r' : phrase_of Y ≡ read_as (phrase_of Y) s x.end m = sym left ∙ (r ∙ (ap (λ (v : ℕ). read_as X v x.end m) cs ∙ ap (λ (V : chart.Phrase). read_as V s x.end m) X-is)) in
            absurd (not_itself Y s x.end m u r')
      ],
    )

pub join_combines : (x z : Item) (d s m : ℕ) (Y : Phrase) (q : Rule) → from_one (list_of x.rule.arguments) d ≡ Some Y → from_one (list_of Y.spans) s ≡ Some Unread → phrase_of q.left ≡ read_as (phrase_of Y) s x.end m
    → meant (fact.Item z) ≡ item (with_argument (rule_of x.rule) d (phrase_of q.left)) x.constituent x.start (suc x.dot) m → JoinOf x d s q (Some (fact.Item z))
join_combines x z d s m Y q there u is e g a = (
  subst (λ (v : chart.Fact). Join g (meant (fact.Item x)) (meant (fact.Made q)) v) (sym e) (combine a (argument_there x d Y there) (open_there Y s u) is),
  λ y j. elim (ways g x q y j) [
    | predicts f c b n w ↦
        let fd : f ≡ d = cc in
        let left : phrase_of q.left ≡ phrase_of Y = argument_is x d f Y (phrase_of q.left) fd there n in
        absurd (not_itself Y s x.end m u (sym left ∙ is))
    | combines f c m' X b n r w ↦
        let fd : f ≡ d = cc in
        let cs : c ≡ s = cc in
        let X-is : X ≡ phrase_of Y = argument_is x d f Y X fd there n in
        let r' : phrase_of q.left ≡ read_as (phrase_of Y) s x.end m' = r ∙ (ap (λ (v : ℕ). read_as X v x.end m') cs ∙ ap (λ (V : chart.Phrase). read_as V s x.end m') X-is) in
        let one = span_there Y q.left s x.end m u is in
        let two = span_there Y q.left s x.end m' u r' in
        let em : m' ≡ m = cc in
        w ∙ (ap (λ (v : ℕ). item (with_argument (rule_of x.rule) v (phrase_of q.left)) x.constituent x.start (suc x.dot) m') fd
        ∙ (ap (item (with_argument (rule_of x.rule) d (phrase_of q.left)) x.constituent x.start (suc x.dot)) em ∙ sym e))
  ],
)

pub join_none : (x : Item) (d s : ℕ) (Y : Phrase) (q : Rule) → from_one (list_of x.rule.arguments) d ≡ Some Y → (q.left ≡ Y → ⊥) → ((m : ℕ) → phrase_of q.left ≡ read_as (phrase_of Y) s x.end m → ⊥) → JoinOf x d s q None
join_none x d s Y q there other none g a y j = elim (ways g x q y j) [
  | predicts f c b n w ↦ let fd : f ≡ d = cc in other (phrase_apart q.left Y (argument_is x d f Y (phrase_of q.left) fd there n))
  | combines f c m X b n r w ↦
      let fd : f ≡ d = cc in
      let cs : c ≡ s = cc in
      let X-is : X ≡ phrase_of Y = argument_is x d f Y X fd there n in
      none m (r ∙ (ap (λ (v : ℕ). read_as X v x.end m) cs ∙ ap (λ (V : chart.Phrase). read_as V s x.end m) X-is))
]

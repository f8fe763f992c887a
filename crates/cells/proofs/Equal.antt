-- The derived == decides whether two spans, phrases, rules, items or facts are the same.
use Rattle.std.proofs.Common.{◌≡◌, Bool, ◌&&◌, ◌==◌, Decides, refl}
use mir.Syntax.{Dict}
use denote.RattleType.{RattleType}
use Rattle.std.proofs.lemmas.Bool.Decides.{Decides-like, Decides-and, Decides-eqb, Decides-at}
use Rattle.std.specs.declared.cmp.PartialEq as eq
use Rattle.cells.specs.declared.Span.{Span}
use Rattle.cells.specs.declared.Span.TheVariants.{Unread, Read}
use Rattle.cells.specs.declared.Short.{Short}
use Rattle.cells.specs.declared.Short.TheVariants.{Nil, One, Two, Three}
use Rattle.cells.specs.declared.Phrase.{Phrase}
use Rattle.cells.specs.declared.Rule.{Rule}
use Rattle.cells.specs.declared.Item as cell
use Rattle.cells.specs.declared.Fact.{Fact}
use Rattle.cells.specs.declared.Fact.TheVariants.{Item, Made}
use Rattle.cells.proofs.Meant.{same_phrase_lem, same_rule_lem, same_item}
use Rattle.cells.specs.contracts.Span as contract-span
use Rattle.cells.specs.contracts.Phrase as contract-phrase
use Rattle.cells.specs.contracts.SpanPartialEq.TheImpl as span
use Rattle.cells.specs.contracts.ShortPartialEq.TheImpl as short
use Rattle.cells.specs.contracts.PhrasePartialEq.TheImpl as phrase
use Rattle.cells.specs.contracts.RulePartialEq.TheImpl as rule
use Rattle.cells.specs.contracts.ItemPartialEq.TheImpl as item
use Rattle.cells.specs.contracts.FactPartialEq.TheImpl as fact

-- f decides whether two values are the same
abbrev pub Tests : (A : Type 0) → (A → A → Bool) → Type 0
Tests A f = (x y : A) → Decides (f x y) (x ≡ y)

span_decides : Tests Span span.ghosts.eq
span_decides Unread Unread = (λ _. refl, λ _. refl)
span_decides Unread (Read c d) = (λ e. cc, λ e. cc)
span_decides (Read a b) Unread = (λ e. cc, λ e. cc)
span_decides (Read a b) (Read c d) =
    Decides-like ((a == c) && (b == d)) (λ p. let q = p.0 in let s = p.1 in cc) (λ e. (cc, cc)) (Decides-and (a == c) (b == d) (Decides-eqb a c) (Decides-eqb b d))

-- for any type whose == decides whether two values are the same
short_decides : (T : RattleType) (G : eq.Ghosts T.Denot) (D : Dict) → Tests T.Denot G.eq → Tests (Short T.Denot) (short.ghosts T G D).eq
short_decides T G D each Nil Nil = (λ _. refl, λ _. refl)
short_decides T G D each Nil (One x) = (λ e. cc, λ e. cc)
short_decides T G D each Nil (Two x y) = (λ e. cc, λ e. cc)
short_decides T G D each Nil (Three x y z) = (λ e. cc, λ e. cc)
short_decides T G D each (One a) Nil = (λ e. cc, λ e. cc)
short_decides T G D each (One a) (One x) = Decides-like (G.eq a x) (λ p. cc) (λ e. cc) (each a x)
short_decides T G D each (One a) (Two x y) = (λ e. cc, λ e. cc)
short_decides T G D each (One a) (Three x y z) = (λ e. cc, λ e. cc)
short_decides T G D each (Two a b) Nil = (λ e. cc, λ e. cc)
short_decides T G D each (Two a b) (One x) = (λ e. cc, λ e. cc)
short_decides T G D each (Two a b) (Two x y) =
    Decides-like (G.eq a x && G.eq b y) (λ p. let q = p.0 in let s = p.1 in cc) (λ e. (cc, cc)) (Decides-and (G.eq a x) (G.eq b y) (each a x) (each b y))
short_decides T G D each (Two a b) (Three x y z) = (λ e. cc, λ e. cc)
short_decides T G D each (Three a b c) Nil = (λ e. cc, λ e. cc)
short_decides T G D each (Three a b c) (One x) = (λ e. cc, λ e. cc)
short_decides T G D each (Three a b c) (Two x y) = (λ e. cc, λ e. cc)
short_decides T G D each (Three a b c) (Three x y z) =
    Decides-like (G.eq a x && (G.eq b y && G.eq c z)) (λ p. let q = p.0 in let s = p.1.0 in let t = p.1.1 in cc) (λ e. (cc, (cc, cc)))
    (Decides-and (G.eq a x) (G.eq b y && G.eq c z) (each a x) (Decides-and (G.eq b y) (G.eq c z) (each b y) (each c z)))

-- whether two short lists are the same
abbrev same_spans : Short Span → Short Span → Bool
same_spans = (short.ghosts contract-span.the_row span.ghosts span.dict).eq

abbrev same_arguments : Short Phrase → Short Phrase → Bool
same_arguments = (short.ghosts contract-phrase.the_row phrase.ghosts phrase.dict).eq

pub phrase_decides : Tests Phrase phrase.ghosts.eq
phrase_decides x y =
    Decides-like ((x.category == y.category) && same_spans x.spans y.spans) (λ p. same_phrase_lem x y p.0 p.1) (λ e. (cc, cc))
    (Decides-and (x.category == y.category) (same_spans x.spans y.spans) (Decides-eqb x.category y.category) (short_decides contract-span.the_row span.ghosts span.dict span_decides x.spans y.spans))

-- so a test that is told to be the derived == decides it
pub phrase_told : (x y : Phrase) (r : Bool) → r ≡ phrase.ghosts.eq x y → Decides r (x ≡ y)
phrase_told x y r e = Decides-at r (phrase.ghosts.eq x y) e (phrase_decides x y)

rule_decides : Tests Rule rule.ghosts.eq
rule_decides x y =
    let first = phrase.ghosts.eq x.left y.left in
    let second = x.place == y.place in
    let third = same_arguments x.arguments y.arguments in
    Decides-like (first && (second && third)) (λ p. same_rule_lem x y p.0 p.1.0 p.1.1) (λ e. (cc, (cc, cc)))
    (Decides-and first (second && third) (phrase_decides x.left y.left)
    (Decides-and second third (Decides-eqb x.place y.place) (short_decides contract-phrase.the_row phrase.ghosts phrase.dict phrase_decides x.arguments y.arguments)))

item_decides : Tests cell.Item item.ghosts.eq
item_decides x y =
    let first = rule.ghosts.eq x.rule y.rule in
    let second = x.constituent == y.constituent in
    let third = x.start == y.start in
    let fourth = x.dot == y.dot in
    let fifth = x.end == y.end in
    Decides-like (first && (second && (third && (fourth && fifth)))) (λ p. same_item x y p.0 p.1.0 p.1.1.0 p.1.1.1.0 p.1.1.1.1) (λ e. (cc, (cc, (cc, (cc, cc)))))
    (Decides-and first (second && (third && (fourth && fifth))) (rule_decides x.rule y.rule)
    (Decides-and second (third && (fourth && fifth)) (Decides-eqb x.constituent y.constituent)
    (Decides-and third (fourth && fifth) (Decides-eqb x.start y.start)
    (Decides-and fourth fifth (Decides-eqb x.dot y.dot) (Decides-eqb x.end y.end)))))

pub fact_decides : Tests Fact fact.ghosts.eq
fact_decides (Item x) (Item y) = Decides-like (item.ghosts.eq x y) (λ p. cc) (λ e. cc) (item_decides x y)
fact_decides (Item x) (Made y) = (λ e. cc, λ e. cc)
fact_decides (Made x) (Item y) = (λ e. cc, λ e. cc)
fact_decides (Made x) (Made y) = Decides-like (rule.ghosts.eq x y) (λ p. cc) (λ e. cc) (rule_decides x y)

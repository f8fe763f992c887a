-- A fact in a cell is known by the fact of the chart that it means: `meant_apart`.
use Rattle.std.proofs.Common.{◌≡◌, map, refl, ap}
use Rattle.cells.specs.declared.Span.{Span}
use Rattle.cells.specs.declared.Span.TheVariants.{Unread, Read}
use Rattle.cells.specs.declared.Short.{Short}
use Rattle.cells.specs.declared.Short.TheVariants.{Nil, One, Two, Three}
use Rattle.cells.specs.declared.Phrase.{Phrase}
use Rattle.cells.specs.declared.Rule.{Rule}
use Rattle.cells.specs.declared.Item as cell
use Rattle.cells.specs.declared.Fact.{Fact}
use Rattle.cells.specs.declared.Fact.TheVariants.{Item, Made}
use Rattle.cells.specs.Facts.{list_of, reading_of, phrase_of, rule_of, meant}

-- a record is the same where its fields are
pub same_phrase_lem : (x y : Phrase) → x.category ≡ y.category → x.spans ≡ y.spans → x ≡ y
same_phrase_lem x y c s = let z : ◌≡◌ {A = Phrase} (record { category = x.category; spans = x.spans }) (record { category = y.category; spans = y.spans }) = cc in z

pub same_rule_lem : (x y : Rule) → x.left ≡ y.left → x.place ≡ y.place → x.arguments ≡ y.arguments → x ≡ y
same_rule_lem x y l p a =
    let z : ◌≡◌ {A = Rule} (record { left = x.left; place = x.place; arguments = x.arguments }) (record { left = y.left; place = y.place; arguments = y.arguments }) = cc in
    z

pub same_item : (x y : cell.Item) → x.rule ≡ y.rule → x.constituent ≡ y.constituent → x.start ≡ y.start → x.dot ≡ y.dot → x.end ≡ y.end → x ≡ y
same_item x y r l j i k =
    let z : ◌≡◌ {A = cell.Item} (record { rule = x.rule; constituent = x.constituent; start = x.start; dot = x.dot; end = x.end })
    (record { rule = y.rule; constituent = y.constituent; start = y.start; dot = y.dot; end = y.end }) =
    cc in
    z

pub reading_apart : (x y : Span) → reading_of x ≡ reading_of y → x ≡ y
reading_apart Unread Unread e = refl
reading_apart Unread (Read c d) e = cc
reading_apart (Read a b) Unread e = cc
reading_apart (Read a b) (Read c d) e = cc

-- a map that keeps values apart keeps short lists apart
pub short_apart : {X Y : Type 0} (f : X → Y) → ((x y : X) → f x ≡ f y → x ≡ y) → (x y : Short X) → map f (list_of x) ≡ map f (list_of y) → x ≡ y
short_apart f each Nil Nil e = refl
short_apart f each Nil (One x) e = cc
short_apart f each Nil (Two x y) e = cc
short_apart f each Nil (Three x y z) e = cc
short_apart f each (One a) Nil e = cc
short_apart f each (One a) (One x) e = let p = each a x (cc) in cc
short_apart f each (One a) (Two x y) e = cc
short_apart f each (One a) (Three x y z) e = cc
short_apart f each (Two a b) Nil e = cc
short_apart f each (Two a b) (One x) e = cc
short_apart f each (Two a b) (Two x y) e = let p = each a x (cc) in let q = each b y (cc) in cc
short_apart f each (Two a b) (Three x y z) e = cc
short_apart f each (Three a b c) Nil e = cc
short_apart f each (Three a b c) (One x) e = cc
short_apart f each (Three a b c) (Two x y) e = cc
short_apart f each (Three a b c) (Three x y z) e = let p = each a x (cc) in let q = each b y (cc) in let s = each c z (cc) in cc

pub phrase_apart : (x y : Phrase) → phrase_of x ≡ phrase_of y → x ≡ y
phrase_apart x y e =
    let c : x.category ≡ y.category = ap (λ z. z.category) e in
    let s : x.spans ≡ y.spans = short_apart reading_of reading_apart x.spans y.spans (ap (λ z. z.readings) e) in
    same_phrase_lem x y c s

pub rule_apart : (x y : Rule) → rule_of x ≡ rule_of y → x ≡ y
rule_apart x y e =
    let l : x.left ≡ y.left = phrase_apart x.left y.left (ap (λ z. z.left) e) in
    let p : x.place ≡ y.place = ap (λ z. z.place) e in
    let a : x.arguments ≡ y.arguments = short_apart phrase_of phrase_apart x.arguments y.arguments (ap (λ z. z.arguments) e) in
    same_rule_lem x y l p a

pub meant_apart : (x y : Fact) → meant x ≡ meant y → x ≡ y
meant_apart (Item x) (Item y) e =
    let r : x.rule ≡ y.rule = rule_apart x.rule y.rule (cc) in
    let l : x.constituent ≡ y.constituent = cc in
    let j : x.start ≡ y.start = cc in
    let i : x.dot ≡ y.dot = cc in
    let k : x.end ≡ y.end = cc in
    ap Item (same_item x y r l j i k)
meant_apart (Item x) (Made y) e = cc
meant_apart (Made x) (Item y) e = cc
meant_apart (Made x) (Made y) e = let r = rule_apart x y (cc) in cc

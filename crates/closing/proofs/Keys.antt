-- By which keys the items and the made rules that join are looked up: an item and a made rule that join have one key.
use Rattle.std.proofs.Common.{◌≡◌, ℕ, zero, suc, Bool, true, false, List, [], ◌∷◌, map, set, Some, Option, sym, refl, ap, ◌∙◌, arith}
use Rattle.std.specs.List.{slice_get}
use Rattle.std.specs.Option.{option_map}
use Rattle.grammar.specs.Grammar.{from_one}
use Rattle.chart.specs.Chart as chart
use Rattle.chart.specs.Chart.{Reading, unread, read, put, read_as}
use Rattle.cells.specs.declared.Span.{Span}
use Rattle.cells.specs.declared.Span.TheVariants.{Unread, Read}
use Rattle.cells.specs.declared.Short.{Short}
use Rattle.cells.specs.declared.Short.TheVariants.{Nil, One, Two, Three}
use Rattle.cells.specs.declared.Phrase.{Phrase}
use Rattle.cells.specs.declared.Cell.{Cell}
use Rattle.cells.specs.declared.Row.{Row}
use Rattle.cells.specs.declared.Row as row
use Rattle.cells.specs.declared.Waiting.{Waiting}
use Rattle.cells.specs.declared.Waiting.TheVariants.{Part}
use Rattle.cells.specs.declared.Item.{Item}
use Rattle.cells.specs.declared.Rule.{Rule}
use Rattle.cells.specs.declared.Fact.TheVariants as fact
use Rattle.cells.specs.Facts.{list_of, reading_of, phrase_of}
use Rattle.cells.proofs.Meant.{same_phrase_lem, short_apart, reading_apart}
use Rattle.fact_log.specs.Index.{cell_of, things}
use Rattle.fact_log.specs.Log.{FactAt}
use Rattle.fact_log.specs.Things.{thing_at, row_at, waiting_for, made_from, unread_at, slot_of}
use Rattle.fact_log.proofs.Unread.{unread_put}
use Rattle.steps.proofs.Bridge.{map_put}
use Rattle.steps.proofs.Reading.{span_there}
use Rattle.closing.specs.Joined.{key_of, WaitingKey}

-- a constituent of a short list is the first, the second or the third
data OneToThree : ℕ → Type 0 where
  one : OneToThree 1
  two : OneToThree 2
  three : OneToThree 3

in_three : {X : Type 0} (xs : Short X) (s : ℕ) (x : X) → from_one (list_of xs) s ≡ Some x → OneToThree s
in_three Nil zero x e = absurd (let z : ◌≡◌ {A = ℕ} 0 1 = cc in omega arith)
in_three Nil (suc s) x e = absurd (let z : ◌≡◌ {A = ℕ} 0 1 = cc in omega arith)
in_three (One a) zero x e = absurd (let z : ◌≡◌ {A = ℕ} 0 1 = cc in omega arith)
in_three (One a) (suc zero) x e = one
in_three (One a) (suc (suc s)) x e = absurd (let z : ◌≡◌ {A = ℕ} 0 1 = cc in omega arith)
in_three (Two a b) zero x e = absurd (let z : ◌≡◌ {A = ℕ} 0 1 = cc in omega arith)
in_three (Two a b) (suc zero) x e = one
in_three (Two a b) (suc (suc zero)) x e = two
in_three (Two a b) (suc (suc (suc s))) x e = absurd (let z : ◌≡◌ {A = ℕ} 0 1 = cc in omega arith)
in_three (Three a b c) zero x e = absurd (let z : ◌≡◌ {A = ℕ} 0 1 = cc in omega arith)
in_three (Three a b c) (suc zero) x e = one
in_three (Three a b c) (suc (suc zero)) x e = two
in_three (Three a b c) (suc (suc (suc zero))) x e = three
in_three (Three a b c) (suc (suc (suc (suc s)))) x e = absurd (let z : ◌≡◌ {A = ℕ} 0 1 = cc in omega arith)

thing_of_lem : (cs : List Cell) (p s : ℕ) (f : Rattle.cells.specs.declared.Fact.Fact) (wait : Waiting) → FactAt cs p f → (cell_of cs p).wait ≡ wait → things cs s p ≡ row_at (row.TheVariants.Fact f) wait s
unfolding thing_at
thing_of_lem cs p s f wait e v = ap (λ (r : Row). row_at r (cell_of cs p).wait s) e ∙ ap (λ (u : Waiting). row_at (row.TheVariants.Fact f) u s) v

-- the keys of an item that waits for constituent s of the phrase X, its argument d
pub item_whole : (cs : List Cell) (p : ℕ) (x : Item) (d s : ℕ) (X : Phrase) → FactAt cs p (fact.Item x) → (cell_of cs p).wait ≡ Part d s → from_one (list_of x.rule.arguments) d ≡ Some X → things cs 4 p ≡ Some (key_of false X 0 0)
item_whole cs p x d s X e v a = thing_of_lem cs p 4 (fact.Item x) (Part d s) e v ∙ ap (λ (o : Option Phrase). waiting_for o s x.end 4) a

item_in_lem : (x : Item) (d s : ℕ) (X : Phrase) → OneToThree s → from_one (list_of x.rule.arguments) d ≡ Some X → row_at (row.TheVariants.Fact (fact.Item x)) (Part d s) s ≡ Some (key_of false X s x.end)
item_in_lem x d s X one a = ap (λ (o : Option Phrase). waiting_for o 1 x.end 1) a
item_in_lem x d s X two a = ap (λ (o : Option Phrase). waiting_for o 2 x.end 2) a
item_in_lem x d s X three a = ap (λ (o : Option Phrase). waiting_for o 3 x.end 3) a

pub item_part : (cs : List Cell) (p : ℕ) (x : Item) (d s : ℕ) (X : Phrase) (u : Span) → FactAt cs p (fact.Item x) → (cell_of cs p).wait ≡ Part d s → from_one (list_of x.rule.arguments) d ≡ Some X → from_one (list_of X.spans) s ≡ Some u
    → things cs s p ≡ Some (key_of false X s x.end)
item_part cs p x d s X u e v a h = thing_of_lem cs p s (fact.Item x) (Part d s) e v ∙ item_in_lem x d s X (in_three X.spans s u h) a

-- the keys of a made rule
pub made_whole : (cs : List Cell) (p : ℕ) (q : Rule) → FactAt cs p (fact.Made q) → things cs 4 p ≡ Some (key_of true q.left 0 0)
made_whole cs p q e = thing_of_lem cs p 4 (fact.Made q) (cell_of cs p).wait e refl

made_in_lem : (q : Rule) (wait : Waiting) (s j k : ℕ) → OneToThree s → from_one (list_of q.left.spans) s ≡ Some (Read j k)
    → row_at (row.TheVariants.Fact (fact.Made q)) wait s ≡ Some (key_of true (record { category = q.left.category; spans = unread_at q.left.spans s }) s j)
made_in_lem q wait s j k one h = ap (λ (o : Option Span). made_from q.left o 1) h
made_in_lem q wait s j k two h = ap (λ (o : Option Span). made_from q.left o 2) h
made_in_lem q wait s j k three h = ap (λ (o : Option Span). made_from q.left o 3) h

-- a phrase with a constituent read, and then unread again
set_back : {X : Type 0} (xs : List X) (i : ℕ) (a b : X) → slice_get xs i ≡ Some a → set (set xs i b) i a ≡ xs
set_back [] i a b e = absurd (let z : ◌≡◌ {A = ℕ} 0 1 = cc in omega arith)
set_back (x ∷ xs) zero a b e = let h : a ≡ x = cc in ap (λ v. v ∷ xs) h
set_back (x ∷ xs) (suc i) a b e = ap (λ v. x ∷ v) (set_back xs i a b e)

put_back : {X : Type 0} (xs : List X) (s : ℕ) (a b : X) → from_one xs s ≡ Some a → put (put xs s b) s a ≡ xs
put_back xs zero a b e = refl
put_back xs (suc i) a b e = set_back xs i a b e

-- Y is X with s read from k to m: then Y with s unread is X
pub unread_again : (X Y : Phrase) (sp : Short Span) (s k m : ℕ) → from_one (list_of X.spans) s ≡ Some Unread → phrase_of Y ≡ read_as (phrase_of X) s k m → list_of sp ≡ put (list_of Y.spans) s Unread
    → X ≡ record { category = Y.category; spans = sp }
unread_again X Y sp s k m u e l =
    let cat : X.category ≡ Y.category = ap (λ (v : chart.Phrase). v.category) (sym e) in
    let there : from_one (map reading_of (list_of X.spans)) s ≡ Some unread = Rattle.steps.proofs.Reading.from_mapped reading_of (list_of X.spans) s ∙ ap (option_map reading_of) u in
    let back : map reading_of (list_of sp) ≡ map reading_of (list_of X.spans) =
    ap (map reading_of) l
    ∙ (map_put reading_of (list_of Y.spans) s Unread
    ∙ (ap (λ (rs : List Reading). put rs s unread) (ap (λ (v : chart.Phrase). v.readings) e) ∙ put_back (map reading_of (list_of X.spans)) s unread (read k m) there)) in
    same_phrase_lem X (record { category = Y.category; spans = sp }) cat (short_apart reading_of reading_apart X.spans sp (sym back))

pub made_part : (cs : List Cell) (p : ℕ) (q : Rule) (s k m : ℕ) (X : Phrase) → FactAt cs p (fact.Made q) → from_one (list_of X.spans) s ≡ Some Unread → phrase_of q.left ≡ read_as (phrase_of X) s k m
    → things cs s p ≡ Some (key_of true X s k)
made_part cs p q s k m X e u is =
    let there = span_there X q.left s k m u is in
    let same = unread_again X q.left (unread_at q.left.spans s) s k m u is (unread_put q.left.spans s (Read k m) there).1 in
    thing_of_lem cs p s (fact.Made q) (cell_of cs p).wait e refl ∙ (made_in_lem q (cell_of cs p).wait s k m (in_three X.spans s Unread u) there ∙ ap (λ (v : Phrase). Some (key_of true v s k)) (sym same))

-- the key under which the items are looked up that wait for a made rule
pub waiting_key : (q : Rule) (s k m : ℕ) (X : Phrase) → from_one (list_of X.spans) s ≡ Some Unread → phrase_of q.left ≡ read_as (phrase_of X) s k m → WaitingKey q.left s (Some (key_of false X s k))
waiting_key q s k m X u is =
    let there = span_there X q.left s k m u is in
    let put_is = (unread_put q.left.spans s (Read k m) there).1 in
    let same = unread_again X q.left (unread_at q.left.spans s) s k m u is put_is in
    (k, m, unread_at q.left.spans s, there, put_is, ap (λ (v : Phrase). key_of false v s k) same)

-- the index of a key
slot_in : (made : Bool) (X : Phrase) (s j : ℕ) → OneToThree s → slot_of (key_of made X s j) ≡ s
slot_in made X s j one = refl
slot_in made X s j two = refl
slot_in made X s j three = refl

pub slot_part : (made : Bool) (X : Phrase) (s j : ℕ) (u : Span) → from_one (list_of X.spans) s ≡ Some u → slot_of (key_of made X s j) ≡ s
slot_part made X s j u h = slot_in made X s j (in_three X.spans s u h)

-- so that it is one of three
pub three_cases : (X : Phrase) (s : ℕ) (u : Span) (P : ℕ → Type 0) → from_one (list_of X.spans) s ≡ Some u → P 1 → P 2 → P 3 → P s
three_cases X s u P h a b c = elim (in_three X.spans s u h) as (λ n _. P n) [ one ↦ a | two ↦ b | three ↦ c ]

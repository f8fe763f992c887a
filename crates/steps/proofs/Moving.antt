-- Which steps lead from an item: `kinds`. So at most one does, unless it waits.
use Rattle.std.proofs.Common.{◌≡◌, ℕ, suc, ◌+◌, ◌≤◌, List, map, length, Some, None, Option, MatchOption, sym, refl, ap, ◌∙◌, subst, add-one, arith}
use Rattle.std.specs.List.{slice_get}
use Rattle.std.specs.Option.{option_map}
use Rattle.grammar.specs.declared.Symbol.TheVariants.{Token, Argument}
use Rattle.grammar.specs.Grammar.{Grammar, from_one, production_at, and_then}
use Rattle.chart.specs.Chart as chart
use Rattle.chart.specs.Chart.{Reading, unread, read, Reads, reading_at, left_read, after_dot, symbols_of, made, item, Step, scan, predict_bare, finish, copy}
use Rattle.cells.specs.declared.Span.TheVariants.{Unread, Read}
use Rattle.cells.specs.declared.Phrase.{Phrase}
use Rattle.cells.specs.declared.Rule.{Rule}
use Rattle.cells.specs.declared.Item.{Item}
use Rattle.cells.specs.declared.Fact.TheVariants as fact
use Rattle.cells.specs.Facts.{list_of, reading_of, phrase_of, rule_of, meant}
use Rattle.faults.specs.Sound.{Sound}
use Rattle.faults.proofs.Made.{below_there}
use Rattle.steps.specs.declared.next.Next.{Next}
use Rattle.steps.specs.declared.next.Next.TheVariants.{Moves, Stuck}
use Rattle.steps.specs.Nexts.{BeforeToken, BeforeArgument, UnreadPart, WaitsForNone, NextOf}
use Rattle.steps.specs.Steps.{Passed, Scanned, Copied, span_at}
use Rattle.steps.proofs.Bridge.{few_at}
use Rattle.steps.proofs.Reading.{from_mapped}

-- how a step leads from the item R, L, J, I, K to z
pub data Kind (g : Grammar) (w : List ℕ) (R : chart.Rule) (L J I K : ℕ) (z : chart.Fact) : Type 0 where
  scans : (t : ℕ) → after_dot g R L I ≡ Some (Token t) → slice_get w K ≡ Some t → z ≡ item R L J (suc I) (suc K) → Kind g w R L J I K z
  predicts : (d s : ℕ) (X : chart.Phrase) → after_dot g R L I ≡ Some (Argument d s) → from_one R.arguments d ≡ Some X → reading_at X s ≡ Some unread → Kind g w R L J I K z
  ends : after_dot g R L I ≡ None → z ≡ made (left_read R L J K) → Kind g w R L J I K z
  copies : (d s a b m : ℕ) (X : chart.Phrase) (u : List ℕ) → after_dot g R L I ≡ Some (Argument d s) → from_one R.arguments d ≡ Some X → reading_at X s ≡ Some (read a b) → Reads w a b u → Reads w K m u
      → z ≡ item R L J (suc I) m → Kind g w R L J I K z

kind_at : (g : Grammar) (w : List ℕ) {y z : chart.Fact} → Step g w y z → (R : chart.Rule) (L J I K : ℕ) → y ≡ item R L J I K → Kind g w R L J I K z
kind_at g w (scan {r = r} {l = l} {j = j} {i = i} {k = k} {t = t} a n) R L J I K e =
    let er : r ≡ R = cc in
    let el : l ≡ L = cc in
    let ej : j ≡ J = cc in
    let ei : i ≡ I = cc in
    let ek : k ≡ K = cc in
    let x : after_dot g R L I ≡ Some (Token t) = subst (λ (v : chart.Rule). after_dot g v L I ≡ Some (Token t)) er (subst (λ (v : ℕ). after_dot g r v I ≡ Some (Token t)) el (subst (λ (v : ℕ). after_dot g r l v ≡ Some (Token t)) ei a)) in
    scans t x (ap (slice_get w) (sym ek) ∙ n) (cc)
kind_at g w (predict_bare {r = r} {q = q} {l = l} {j = j} {i = i} {k = k} {d = d} {s = s} a x u b) R L J I K e =
    let er : r ≡ R = cc in
    let el : l ≡ L = cc in
    let ei : i ≡ I = cc in
    let y : after_dot g R L I ≡ Some (Argument d s) = subst (λ (v : chart.Rule). after_dot g v L I ≡ Some (Argument d s)) er (subst (λ (v : ℕ). after_dot g r v I ≡ Some (Argument d s)) el (subst (λ (v : ℕ). after_dot g r l v ≡ Some (Argument d s)) ei a)) in
    predicts d s q.left y (ap (λ (v : chart.Rule). from_one v.arguments d) (sym er) ∙ x) u
kind_at g w (finish {r = r} {l = l} {j = j} {i = i} {k = k} a) R L J I K e =
    let er : r ≡ R = cc in
    let el : l ≡ L = cc in
    let ej : j ≡ J = cc in
    let ei : i ≡ I = cc in
    let ek : k ≡ K = cc in
    let x : after_dot g R L I ≡ None = subst (λ (v : chart.Rule). after_dot g v L I ≡ None) er (subst (λ (v : ℕ). after_dot g r v I ≡ None) el (subst (λ (v : ℕ). after_dot g r l v ≡ None) ei a)) in
    ends x (ap (λ (v : chart.Rule). made (left_read v l j k)) er ∙ (ap (λ (v : ℕ). made (left_read R v j k)) el ∙ (ap (λ (v : ℕ). made (left_read R L v k)) ej ∙ ap (λ (v : ℕ). made (left_read R L J v)) ek)))
kind_at g w (copy {r = r} {l = l} {j = j} {i = i} {k = k} {d = d} {s = s} {a = a} {b = b} {m = m} {X = X} {u = u} h x y ab km) R L J I K e =
    let er : r ≡ R = cc in
    let el : l ≡ L = cc in
    let ej : j ≡ J = cc in
    let ei : i ≡ I = cc in
    let ek : k ≡ K = cc in
    let v : after_dot g R L I ≡ Some (Argument d s) = subst (λ (v : chart.Rule). after_dot g v L I ≡ Some (Argument d s)) er (subst (λ (v : ℕ). after_dot g r v I ≡ Some (Argument d s)) el (subst (λ (v : ℕ). after_dot g r l v ≡ Some (Argument d s)) ei h)) in
    copies d s a b m X u v (ap (λ (v : chart.Rule). from_one v.arguments d) (sym er) ∙ x) y ab (subst (λ (v : ℕ). Reads w v m u) ek km) (cc)

pub kinds : (g : Grammar) (w : List ℕ) (x : Item) (z : chart.Fact) → Step g w (meant (fact.Item x)) z → Kind g w (rule_of x.rule) x.constituent x.start x.dot x.end z
kinds g w x z s = kind_at g w s (rule_of x.rule) x.constituent x.start x.dot x.end refl

clash : {X : Type 0} {P : Type 0} (o : Option X) (x : X) → o ≡ None → o ≡ Some x → P
clash o x e f = absurd (let z : ◌≡◌ {A = ℕ} 0 1 = cc in omega arith)

pub next_finish : (g : Grammar) (w : List ℕ) (x : Item) (r : Rule) → after_dot g (rule_of x.rule) x.constituent x.dot ≡ None → rule_of r ≡ left_read (rule_of x.rule) x.constituent x.start x.end → NextOf g w x (Moves (fact.Made r))
next_finish g w x r a e = (
  subst (λ (v : chart.Rule). Step g w (meant (fact.Item x)) (made v)) (sym e) (finish a),
  λ z s. elim (kinds g w x z s) [
    | scans t f n q ↦ clash _ _ a f
    | predicts d c X f n u ↦ clash _ _ a f
    | ends f q ↦ q ∙ ap made (sym e)
    | copies d c h b m X u f n y ab km q ↦ clash _ _ a f
  ],
  λ d s f u. clash _ _ a f,
)

-- before a token no part is waited for
token_alone : (g : Grammar) (x : Item) (t : ℕ) → BeforeToken g x t → WaitsForNone g x
token_alone g x t a d s f u = let z : ◌≡◌ {A = ℕ} 0 1 = cc in omega arith

next_scan : (g : Grammar) (w : List ℕ) (x z : Item) (t : ℕ) → BeforeToken g x t → slice_get w x.end ≡ Some t → Passed x (suc x.end) z → NextOf g w x (Moves (fact.Item z))
next_scan g w x z t a n p = (
  subst (λ (v : chart.Fact). Step g w (meant (fact.Item x)) v) (sym p) (scan a n),
  λ y s. elim (kinds g w x y s) [
    | scans t f n q ↦ q ∙ sym p
    | predicts d c X f n u ↦ absurd (let z : ◌≡◌ {A = ℕ} 0 1 = cc in omega arith)
    | ends f q ↦ clash _ _ f a
    | copies d c h b m X u f n y ab km q ↦ absurd (let z : ◌≡◌ {A = ℕ} 0 1 = cc in omega arith)
  ],
  token_alone g x t a,
)

next_no_scan : (g : Grammar) (w : List ℕ) (x : Item) (t : ℕ) → BeforeToken g x t → (slice_get w x.end ≡ Some t → ⊥) → NextOf g w x Stuck
next_no_scan g w x t a other = (
  λ y s. elim (kinds g w x y s) [
    | scans v f n q ↦ let e : v ≡ t = cc in other (n ∙ ap Some e)
    | predicts d c X f n u ↦ let z : ◌≡◌ {A = ℕ} 0 1 = cc in omega arith
    | ends f q ↦ clash _ _ f a
    | copies d c h b m X u f n y ab km q ↦ let z : ◌≡◌ {A = ℕ} 0 1 = cc in omega arith
  ],
  token_alone g x t a,
)

-- before ⟨d;s⟩, what the step says of its argument is what the item has there
next_no_argument : (g : Grammar) (w : List ℕ) (x : Item) (d s : ℕ) → BeforeArgument g x d s → None ≡ from_one (list_of x.rule.arguments) d → NextOf g w x Stuck
next_no_argument g w x d s a none =
    let gone : from_one (map phrase_of (list_of x.rule.arguments)) d ≡ None = from_mapped phrase_of (list_of x.rule.arguments) d ∙ ap (option_map phrase_of) (sym none) in (
      λ y t. elim (kinds g w x y t) [
        | scans v f n q ↦ let z : ◌≡◌ {A = ℕ} 0 1 = cc in omega arith
        | predicts e c X f n u ↦ let same : e ≡ d = cc in clash (from_one (map phrase_of (list_of x.rule.arguments)) d) X gone (ap (from_one (map phrase_of (list_of x.rule.arguments))) (sym same) ∙ n)
        | ends f q ↦ clash _ _ f a
        | copies e c h b m X u f n y ab km q ↦ let same : e ≡ d = cc in clash (from_one (map phrase_of (list_of x.rule.arguments)) d) X gone (ap (from_one (map phrase_of (list_of x.rule.arguments))) (sym same) ∙ n)
      ],
      λ e c f u. let same : e ≡ d = cc in clash (from_one (list_of x.rule.arguments) d) u.0 (sym none) (ap (from_one (list_of x.rule.arguments)) (sym same) ∙ u.1),
    )

-- the part that the item stands before, in the argument that is known, is unread
unread_there : (g : Grammar) (x : Item) (d s e c : ℕ) (Y : Phrase) → BeforeArgument g x d s → Some Y ≡ from_one (list_of x.rule.arguments) d → BeforeArgument g x e c → UnreadPart x e c → from_one (list_of Y.spans) s ≡ Some Unread
unread_there g x d s e c Y a there f u =
    let ed : e ≡ d = cc in
    let cs : c ≡ s = cc in
    let at : Some Y ≡ Some u.0 = there ∙ (ap (from_one (list_of x.rule.arguments)) (sym ed) ∙ u.1) in
    let is : u.0 ≡ Y = cc in
    subst (λ (i : ℕ). from_one (list_of Y.spans) i ≡ Some Unread) cs (subst (λ (X : Phrase). from_one (list_of X.spans) c ≡ Some Unread) is u.2)

-- the reading of the constituent that the item stands before
pub reading_of_lem : (x : Item) (d s e c : ℕ) (Y : Phrase) (X : chart.Phrase) (o : Option Reading) → e ≡ d → c ≡ s → Some Y ≡ from_one (list_of x.rule.arguments) d → from_one (map phrase_of (list_of x.rule.arguments)) e ≡ Some X → reading_at X c ≡ o
    → option_map reading_of (from_one (list_of Y.spans) s) ≡ o
reading_of_lem x d s e c Y X o ed cs there n r =
    let here : from_one (map phrase_of (list_of x.rule.arguments)) d ≡ Some (phrase_of Y) = from_mapped phrase_of (list_of x.rule.arguments) d ∙ ap (option_map phrase_of) (sym there) in
    let same : Some X ≡ Some (phrase_of Y) = sym n ∙ (ap (from_one (map phrase_of (list_of x.rule.arguments))) ed ∙ here) in
    let is : X ≡ phrase_of Y = cc in
    let at : reading_at (phrase_of Y) s ≡ o = subst (λ (v : ℕ). reading_at (phrase_of Y) v ≡ o) cs (subst (λ (V : chart.Phrase). reading_at V c ≡ o) is r) in
    sym (from_mapped reading_of (list_of Y.spans) s) ∙ at

no_span_of : (g : Grammar) (w : List ℕ) (x : Item) (d s : ℕ) (Y : Phrase) → BeforeArgument g x d s → Some Y ≡ from_one (list_of x.rule.arguments) d → None ≡ from_one (list_of Y.spans) s → NextOf g w x Stuck
no_span_of g w x d s Y a there none =
    let gone : option_map reading_of (from_one (list_of Y.spans) s) ≡ None = ap (option_map reading_of) (sym none) in (
      λ y t. elim (kinds g w x y t) [
        | scans v f n q ↦ let z : ◌≡◌ {A = ℕ} 0 1 = cc in omega arith
        | predicts e c X f n u ↦ let ed : e ≡ d = cc in let cs : c ≡ s = cc in clash _ unread gone (reading_of_lem x d s e c Y X (Some unread) ed cs there n u)
        | ends f q ↦ clash _ _ f a
        | copies e c h b m X u f n i ab km q ↦ let ed : e ≡ d = cc in let cs : c ≡ s = cc in clash _ (read h b) gone (reading_of_lem x d s e c Y X (Some (read h b)) ed cs there n i)
      ],
      λ e c f u. clash (from_one (list_of Y.spans) s) Unread (sym none) (unread_there g x d s e c Y a there f u),
    )

no_span_in : (g : Grammar) (w : List ℕ) (x : Item) (d s : ℕ) (o : Option Phrase) → BeforeArgument g x d s → o ≡ from_one (list_of x.rule.arguments) d → None ≡ and_then o (λ X. from_one (list_of X.spans) s) → NextOf g w x Stuck
no_span_in g w x d s None a e none = next_no_argument g w x d s a e
no_span_in g w x d s (Some Y) a e none = no_span_of g w x d s Y a e none

pub next_no_span : (g : Grammar) (w : List ℕ) (x : Item) (d s : ℕ) → BeforeArgument g x d s → None ≡ span_at x d s → NextOf g w x Stuck
next_no_span g w x d s a none = no_span_in g w x d s (from_one (list_of x.rule.arguments) d) a refl none

-- before a part that is read none is waited for
read_alone : (g : Grammar) (x : Item) (d s a b : ℕ) (Y : Phrase) → BeforeArgument g x d s → Some Y ≡ from_one (list_of x.rule.arguments) d → Some (Read a b) ≡ from_one (list_of Y.spans) s → WaitsForNone g x
read_alone g x d s a b Y h there sp e c f u =
    let not : Some (Read a b) ≡ Some Unread = sp ∙ unread_there g x d s e c Y h there f u in
    let z : ◌≡◌ {A = ℕ} 0 1 = cc in
    omega arith

next_copy : (g : Grammar) (w : List ℕ) (x z : Item) (d s a b m : ℕ) (Y : Phrase) → BeforeArgument g x d s → Some Y ≡ from_one (list_of x.rule.arguments) d → Some (Read a b) ≡ from_one (list_of Y.spans) s
    → ((u : List ℕ) × Reads w a b u × Reads w x.end m u) → Passed x m z → NextOf g w x (Moves (fact.Item z))
next_copy g w x z d s a b m Y h there sp r p =
    let here : from_one (map phrase_of (list_of x.rule.arguments)) d ≡ Some (phrase_of Y) = from_mapped phrase_of (list_of x.rule.arguments) d ∙ ap (option_map phrase_of) (sym there) in
    let is : reading_at (phrase_of Y) s ≡ Some (read a b) = from_mapped reading_of (list_of Y.spans) s ∙ ap (option_map reading_of) (sym sp) in
    let was : option_map reading_of (from_one (list_of Y.spans) s) ≡ Some (read a b) = ap (option_map reading_of) (sym sp) in (
      subst (λ (v : chart.Fact). Step g w (meant (fact.Item x)) v) (sym p) (copy h here is r.1 r.2),
      λ y t. elim (kinds g w x y t) [
        | scans v f n q ↦ absurd (let z : ◌≡◌ {A = ℕ} 0 1 = cc in omega arith)
        | predicts e c X f n u ↦
            let ed : e ≡ d = cc in
            let cs : c ≡ s = cc in
            let not : Some (read a b) ≡ Some unread = sym was ∙ reading_of_lem x d s e c Y X (Some unread) ed cs there n u in
            absurd (let z : ◌≡◌ {A = ℕ} 0 1 = cc in omega arith)
        | ends f q ↦ clash _ _ f h
        | copies e c a' b' m' X u f n i ab km q ↦
            let ed : e ≡ d = cc in
            let cs : c ≡ s = cc in
            let same : Some (read a b) ≡ Some (read a' b') = sym was ∙ reading_of_lem x d s e c Y X (Some (read a' b')) ed cs there n i in
            let ea : a ≡ a' = cc in
            let eb : b ≡ b' = cc in
            let em : m' ≡ m = omega (arith, ea, eb, ab.ends, km.ends, r.1.ends, r.2.ends) in
            q ∙ (ap (item (rule_of x.rule) x.constituent x.start (suc x.dot)) em ∙ sym p)
      ],
      read_alone g x d s a b Y h there sp,
    )

next_no_copy : (g : Grammar) (w : List ℕ) (x : Item) (d s a b : ℕ) (Y : Phrase) → BeforeArgument g x d s → Some Y ≡ from_one (list_of x.rule.arguments) d → Some (Read a b) ≡ from_one (list_of Y.spans) s
    → ((m : ℕ) (u : List ℕ) → Reads w a b u → Reads w x.end m u → ⊥) → NextOf g w x Stuck
next_no_copy g w x d s a b Y h there sp none =
    let was : option_map reading_of (from_one (list_of Y.spans) s) ≡ Some (read a b) = ap (option_map reading_of) (sym sp) in (
      λ y t. elim (kinds g w x y t) [
        | scans v f n q ↦ let z : ◌≡◌ {A = ℕ} 0 1 = cc in omega arith
        | predicts e c X f n u ↦
            let ed : e ≡ d = cc in
            let cs : c ≡ s = cc in
            let not : Some (read a b) ≡ Some unread = sym was ∙ reading_of_lem x d s e c Y X (Some unread) ed cs there n u in
            let z : ◌≡◌ {A = ℕ} 0 1 = cc in
            omega arith
        | ends f q ↦ clash _ _ f h
        | copies e c a' b' m' X u f n i ab km q ↦
            let ed : e ≡ d = cc in
            let cs : c ≡ s = cc in
            let same : Some (read a b) ≡ Some (read a' b') = sym was ∙ reading_of_lem x d s e c Y X (Some (read a' b')) ed cs there n i in
            let ea : a' ≡ a = cc in
            let eb : b' ≡ b = cc in
            none m' u (subst (λ (v : ℕ). Reads w a v u) eb (subst (λ (v : ℕ). Reads w v b' u) ea ab)) km
      ],
      read_alone g x d s a b Y h there sp,
    )

-- a symbol follows only a dot before the 16th
pub dot_few : (g : Grammar) → Sound g → (p l i : ℕ) {S : Rattle.grammar.specs.declared.Symbol.Symbol} → slice_get (symbols_of g p l) i ≡ Some S → suc i ≤ 16
dot_few g sd p l i {S} e = let few : length (symbols_of g p l) ≤ 16 = few_at g sd l (production_at g p) in let b = below_there (symbols_of g p l) i S e in omega (arith, few, b)

-- what the scan says of the token that the item stands before
pub next_scanned : (g : Grammar) (w : List ℕ) (x : Item) (t : ℕ) (o : Option Item) (n : Next) → BeforeToken g x t → Scanned w x t o → MatchOption o (n ≡ Stuck) (λ z. n ≡ Moves (fact.Item z)) → NextOf g w x n
next_scanned g w x t None n a sc e = subst (NextOf g w x) (sym e) (next_no_scan g w x t a sc)
next_scanned g w x t (Some z) n a sc e = subst (NextOf g w x) (sym e) (next_scan g w x z t a sc.0 sc.1)

-- and the copy, of the part that it stands before
copied_in : (g : Grammar) (w : List ℕ) (x : Item) (d s a b : ℕ) (p : Option Phrase) (o : Option ℕ) (n : Next) → BeforeArgument g x d s → p ≡ from_one (list_of x.rule.arguments) d → Some (Read a b) ≡ and_then p (λ X. from_one (list_of X.spans) s) → Copied w a b x.end o
    → MatchOption o (n ≡ Stuck) (λ m. n ≡ Moves (fact.Item (record { rule = x.rule; constituent = x.constituent; start = x.start; dot = x.dot + 1; end = m }))) → NextOf g w x n
copied_in g w x d s a b None o n h there sp c e = absurd (let z : ◌≡◌ {A = ℕ} 0 1 = cc in omega arith)
copied_in g w x d s a b (Some Y) None n h there sp c e = subst (NextOf g w x) (sym e) (next_no_copy g w x d s a b Y h there sp c)
copied_in g w x d s a b (Some Y) (Some m) n h there sp c e =
    subst (NextOf g w x) (sym e) (next_copy g w x _ d s a b m Y h there sp c (ap (λ (i : ℕ). item (rule_of x.rule) x.constituent x.start i m) (add-one x.dot)))

pub next_copied : (g : Grammar) (w : List ℕ) (x : Item) (d s a b : ℕ) (o : Option ℕ) (n : Next) → BeforeArgument g x d s → Some (Read a b) ≡ span_at x d s → Copied w a b x.end o
    → MatchOption o (n ≡ Stuck) (λ m. n ≡ Moves (fact.Item (record { rule = x.rule; constituent = x.constituent; start = x.start; dot = x.dot + 1; end = m }))) → NextOf g w x n
next_copied g w x d s a b o n h sp c e = copied_in g w x d s a b (from_one (list_of x.rule.arguments) d) o n h refl sp c e

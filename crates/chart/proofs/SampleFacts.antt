-- The chart of the grammar that doubles the empty string, at no tokens, has the six facts of `chart_e` and no other. Assumes
-- nothing.
use Rattle.std.proofs.Common.{◌≡◌, ℕ, zero, suc, ◌+◌, ◌*◌, Bool, true, false, not, ◌&&◌, eqb, ◌⊎◌, ◌↔◌, List, [], ◌∷◌, ◌++◌, map, length, Some, None, sym, refl, ap, ◌∙◌, subst, inl, inr, arith}
use Rattle.std.proofs.lemmas.Bool.Decides.{Decides-eqb}
use Rattle.grammar.specs.declared.Symbol.TheVariants.{Token, Argument}
use Rattle.grammar.specs.Grammar.{Production, from_one, production_at}
use Rattle.grammar.specs.Trees.{Tree, node, none}
use Rattle.chart.specs.Chart.{Reading, unread, read, Phrase, Rule, Fact, made, item, reading_at, read_as, with_argument, bare_rule, Live, BareRule, Begin, begin, Step, scan, predict_bare, finish, copy, Join, predict, combine, Chart, first, one, two, RuleOf, start_read, Member, Apart, Enumerates, CellsInUse, Made, Bound}
use Rattle.chart.specs.Sound.{Sound}
use Rattle.chart.specs.Sums.{TreeUpTo, LivePlace, bare_rules, made_rules}
use Rattle.chart.specs.Samples.{grammar_e}
use Rattle.chart.proofs.Spans.{reads_nil}
use Rattle.chart.proofs.Counting.{same_length}
use Rattle.chart.proofs.Listing.{in_map}
use Rattle.chart.proofs.Smallest.{least}
use Rattle.chart.proofs.Sums.{trees, start_listed, rules_from_facts}
use Rattle.chart.specs.SampleChart.{bare_s, read_s, doubled, empty, chart_e}

abbrev doubling : Production
doubling = record { result = 0; function = 0; arguments = 0 ∷ [] }

abbrev ending : Production
ending = record { result = 0; function = 1; arguments = [] }

no_token : {A : Type 0} (d s t : ℕ) → Some (Argument d s) ≡ Some (Token t) → A
no_token d s t e = absurd (let z : ◌≡◌ {A = ℕ} 0 1 = cc in omega arith)

produced : (p : ℕ) (q : Production) → production_at grammar_e p ≡ Some q → ((p ≡ 0) × (q ≡ doubling)) ⊎ ((p ≡ 1) × (q ≡ ending))
produced zero q e = inl (refl, (cc))
produced (suc zero) q e = inr (refl, (cc))
produced (suc (suc p)) q e = absurd (let z : ◌≡◌ {A = ℕ} 0 1 = cc in omega arith)

bare_one : (r : Rule) → BareRule grammar_e r → (r ≡ doubled bare_s bare_s) ⊎ (r ≡ empty bare_s)
bare_one r b = elim (produced b.place b.production b.live.filled) [
  | inl x ↦ inl (b.is ∙ ap (λ p. bare_rule grammar_e p b.production) x.0 ∙ ap (bare_rule grammar_e 0) x.1)
  | inr x ↦ inr (b.is ∙ ap (λ p. bare_rule grammar_e p b.production) x.0 ∙ ap (bare_rule grammar_e 1) x.1)
]

-- Both bare rules start the first two facts.
bare_starts : (r : Rule) → BareRule grammar_e r → Member (item r 1 0 0 0) chart_e
bare_starts r b = elim (bare_one r b) [
  | inl e ↦ inl (ap (λ x. item x 1 0 0 0) e)
  | inr e ↦ inr (inl (ap (λ x. item x 1 0 0 0) e))
]

begins : (z : Fact) → Begin grammar_e z → Member z chart_e
begins z (begin {r = r} b c) = bare_starts r b

-- What stands for ⟨1;1⟩ where Y is the only argument.
argument_is : (Y X : Phrase) (d s : ℕ) (m : Reading) → Some (Argument 1 1) ≡ Some (Argument d s) → from_one (Y ∷ []) d ≡ Some X → reading_at X s ≡ Some m
    → (X ≡ Y) × (reading_at Y 1 ≡ Some m) × (s ≡ 1)
argument_is Y X d s m e x y =
    let first' : d ≡ 1 = cc in
    let second : s ≡ 1 = cc in
    let is : Some Y ≡ Some X = ap (from_one (Y ∷ [])) (sym first') ∙ x in
    let same : X ≡ Y = cc in
    (same, ap (reading_at Y) (sym second) ∙ ap (λ Z. reading_at Z s) (sym same) ∙ y, second)

unread_read : {A : Type 0} (a b : ℕ) → Some unread ≡ Some (read a b) → A
unread_read a b e = absurd (let z : ◌≡◌ {A = ℕ} 0 1 = cc in omega arith)

some_none : {A X : Type 0} (x : X) → Some x ≡ None → A
some_none x e = absurd (let z : ◌≡◌ {A = ℕ} 0 1 = cc in omega arith)

-- The steps from each fact.
step_1 : {z : Fact} → Step grammar_e [] (item (doubled bare_s bare_s) 1 0 0 0) z → Member z chart_e
step_1 (scan e n) = no_token 1 1 _ e
step_1 (predict_bare {q = q} {d = d} {s = s} e a u b) =
    let is : 1 ≡ s = cc in
    subst (λ x. Member (item q x 0 0 0) chart_e) is (bare_starts q b)
step_1 (finish e) = some_none (Argument 1 1) e
step_1 (copy {d = d} {s = s} {a = a} {b = b} {X = X} e x y ab kn) = unread_read a b (argument_is bare_s X d s (read a b) e x y).1

step_2 : {z : Fact} → Step grammar_e [] (item (empty bare_s) 1 0 0 0) z → Member z chart_e
step_2 (scan {t = t} e n) = some_none (Token t) (sym e)
step_2 (predict_bare {d = d} {s = s} e a u b) = some_none (Argument d s) (sym e)
step_2 (finish e) = inr (inr (inl refl))
step_2 (copy {d = d} {s = s} e x y ab kn) = some_none (Argument d s) (sym e)

step_4 : {z : Fact} → Step grammar_e [] (item (doubled bare_s read_s) 1 0 1 0) z → Member z chart_e
step_4 (scan e n) = no_token 1 1 _ e
step_4 (predict_bare {q = q} {d = d} {s = s} e a u b) = unread_read 0 0 (sym (argument_is read_s q.left d s unread e a u).1)
step_4 (finish e) = some_none (Argument 1 1) e
step_4 (copy {m = m} e x y ab kn) =
    let is : 0 ≡ m = omega (arith, kn.inside) in
    subst (λ k. Member (item (doubled bare_s read_s) 1 0 2 k) chart_e) is (inr (inr (inr (inr (inl refl)))))

step_5 : {z : Fact} → Step grammar_e [] (item (doubled bare_s read_s) 1 0 2 0) z → Member z chart_e
step_5 (scan {t = t} e n) = some_none (Token t) (sym e)
step_5 (predict_bare {d = d} {s = s} e a u b) = some_none (Argument d s) (sym e)
step_5 (finish e) = inr (inr (inr (inr (inr (inl refl)))))
step_5 (copy {d = d} {s = s} e x y ab kn) = some_none (Argument d s) (sym e)

-- A made rule has no step of its own, and an item is no made rule.
abbrev IsItem : Fact → Type 0
IsItem (made r) = ⊥
IsItem (item r l j i k) = Unit {0}

step_item : {x z : Fact} → Step grammar_e [] x z → IsItem x
step_item (scan e n) = tt
step_item (predict_bare e a u b) = tt
step_item (finish e) = tt
step_item (copy e x y ab kn) = tt

steps : (x z : Fact) → Member x chart_e → Step grammar_e [] x z → Member z chart_e
steps x z (inl e) s = step_1 (subst (λ y. Step grammar_e [] y z) e s)
steps x z (inr (inl e)) s = step_2 (subst (λ y. Step grammar_e [] y z) e s)
steps x z (inr (inr (inl e))) s = absurd (subst IsItem e (step_item s))
steps x z (inr (inr (inr (inl e)))) s = step_4 (subst (λ y. Step grammar_e [] y z) e s)
steps x z (inr (inr (inr (inr (inl e))))) s = step_5 (subst (λ y. Step grammar_e [] y z) e s)
steps x z (inr (inr (inr (inr (inr (inl e)))))) s = absurd (subst IsItem e (step_item s))
steps x z (inr (inr (inr (inr (inr (inr m)))))) s = absurd m

-- The left side of a made rule of the list is read.
left_read_lem : (q : Rule) → Member (made q) chart_e → q.left ≡ read_s
left_read_lem q (inl e) = absurd (let z : ◌≡◌ {A = ℕ} 0 1 = cc in omega arith)
left_read_lem q (inr (inl e)) = absurd (let z : ◌≡◌ {A = ℕ} 0 1 = cc in omega arith)
left_read_lem q (inr (inr (inl e))) = let is : q ≡ empty read_s = cc in ap (λ r. r.left) is
left_read_lem q (inr (inr (inr (inl e)))) = absurd (let z : ◌≡◌ {A = ℕ} 0 1 = cc in omega arith)
left_read_lem q (inr (inr (inr (inr (inl e))))) = absurd (let z : ◌≡◌ {A = ℕ} 0 1 = cc in omega arith)
left_read_lem q (inr (inr (inr (inr (inr (inl e)))))) = let is : q ≡ doubled read_s read_s = cc in ap (λ r. r.left) is
left_read_lem q (inr (inr (inr (inr (inr (inr m)))))) = absurd m

join_1 : {y z : Fact} → Member y chart_e → Join grammar_e (item (doubled bare_s bare_s) 1 0 0 0) y z → Member z chart_e
join_1 n (predict {q = q} {d = d} {s = s} e a u) =
    let is = argument_is bare_s q.left d s unread e a u in
    unread_read 0 0 (ap (λ X. reading_at X 1) (sym is.0 ∙ left_read_lem q n))
join_1 n (combine {q = q} {d = d} {s = s} {m = m} {X = X} e x u is) =
    let arg = argument_is bare_s X d s unread e x u in
    let whole : read_s ≡ read_as bare_s 1 0 m = sym (left_read_lem q n) ∙ is ∙ ap (λ Y. read_as Y s 0 m) arg.0 ∙ ap (λ k. read_as bare_s k 0 m) arg.2 in
    let ends : Some (read 0 0) ≡ Some (read 0 m) = ap (λ Y. reading_at Y 1) whole in
    let end : 0 ≡ m = cc in
    let place : 1 ≡ d = cc in
    let next : Member (item (with_argument (doubled bare_s bare_s) 1 read_s) 1 0 1 0) chart_e = inr (inr (inr (inl refl))) in
    subst (λ Y. Member (item (with_argument (doubled bare_s bare_s) d Y) 1 0 1 m) chart_e) (sym (left_read_lem q n))
    (subst (λ k. Member (item (with_argument (doubled bare_s bare_s) d read_s) 1 0 1 k) chart_e) end (subst (λ k. Member (item (with_argument (doubled bare_s bare_s) k read_s) 1 0 1 0) chart_e) place next))

join_2 : {y z : Fact} → Join grammar_e (item (empty bare_s) 1 0 0 0) y z → Member z chart_e
join_2 (predict {d = d} {s = s} e a u) = some_none (Argument d s) (sym e)
join_2 (combine {d = d} {s = s} e x u is) = some_none (Argument d s) (sym e)

join_4 : {y z : Fact} → Join grammar_e (item (doubled bare_s read_s) 1 0 1 0) y z → Member z chart_e
join_4 (predict {q = q} {d = d} {s = s} e a u) = unread_read 0 0 (sym (argument_is read_s q.left d s unread e a u).1)
join_4 (combine {d = d} {s = s} {X = X} e x u is) = unread_read 0 0 (sym (argument_is read_s X d s unread e x u).1)

join_5 : {y z : Fact} → Join grammar_e (item (doubled bare_s read_s) 1 0 2 0) y z → Member z chart_e
join_5 (predict {d = d} {s = s} e a u) = some_none (Argument d s) (sym e)
join_5 (combine {d = d} {s = s} e x u is) = some_none (Argument d s) (sym e)

join_item : {x y z : Fact} → Join grammar_e x y z → IsItem x
join_item (predict e a u) = tt
join_item (combine e x u is) = tt

joins : (x y z : Fact) → Member x chart_e → Member y chart_e → Join grammar_e x y z → Member z chart_e
joins x y z (inl e) n s = join_1 n (subst (λ v. Join grammar_e v y z) e s)
joins x y z (inr (inl e)) n s = join_2 (subst (λ v. Join grammar_e v y z) e s)
joins x y z (inr (inr (inl e))) n s = absurd (subst IsItem e (join_item s))
joins x y z (inr (inr (inr (inl e)))) n s = join_4 (subst (λ v. Join grammar_e v y z) e s)
joins x y z (inr (inr (inr (inr (inl e))))) n s = join_5 (subst (λ v. Join grammar_e v y z) e s)
joins x y z (inr (inr (inr (inr (inr (inl e)))))) n s = absurd (subst IsItem e (join_item s))
joins x y z (inr (inr (inr (inr (inr (inr m)))))) n s = absurd m

-- Each fact of the list is in the chart.
live_doubling : Live grammar_e 0 doubling
live_doubling = record { filled = refl; trees = ((node 1 none, (ending, refl, refl, tt)), tt) }

live_ending : Live grammar_e 1 ending
live_ending = record { filled = refl; trees = tt }

fact_1 : Chart grammar_e [] (item (doubled bare_s bare_s) 1 0 0 0)
fact_1 = first (begin (record { place = 0; production = doubling; live = live_doubling; is = refl }) refl)

fact_2 : Chart grammar_e [] (item (empty bare_s) 1 0 0 0)
fact_2 = first (begin (record { place = 1; production = ending; live = live_ending; is = refl }) refl)

fact_3 : Chart grammar_e [] (made (empty read_s))
fact_3 = one fact_2 (finish refl)

fact_4 : Chart grammar_e [] (item (doubled bare_s read_s) 1 0 1 0)
fact_4 = two fact_1 fact_3 (combine {d = 1} {s = 1} {X = bare_s} refl refl refl refl)

fact_5 : Chart grammar_e [] (item (doubled bare_s read_s) 1 0 2 0)
fact_5 = one fact_4 (copy {d = 1} {s = 1} {a = 0} {b = 0} {X = read_s} {u = []} refl refl refl (reads_nil [] 0 (omega arith)) (reads_nil [] 0 (omega arith)))

fact_6 : Chart grammar_e [] (made (doubled read_s read_s))
fact_6 = one fact_5 (finish refl)

in_chart : (x : Fact) → Member x chart_e → Chart grammar_e [] x
in_chart x (inl e) = subst (Chart grammar_e []) (sym e) fact_1
in_chart x (inr (inl e)) = subst (Chart grammar_e []) (sym e) fact_2
in_chart x (inr (inr (inl e))) = subst (Chart grammar_e []) (sym e) fact_3
in_chart x (inr (inr (inr (inl e)))) = subst (Chart grammar_e []) (sym e) fact_4
in_chart x (inr (inr (inr (inr (inl e))))) = subst (Chart grammar_e []) (sym e) fact_5
in_chart x (inr (inr (inr (inr (inr (inl e)))))) = subst (Chart grammar_e []) (sym e) fact_6
in_chart x (inr (inr (inr (inr (inr (inr m)))))) = absurd m

-- No fact stands twice: these numbers tell them apart.
abbrev told : Fact → ℕ
told (made r) = r.place
told (item r l j i k) = 10 + i * 10 + r.place

and_left : (a b : Bool) → (a && b) ≡ true → a ≡ true
and_left true b e = refl
and_left false b e = e

and_right : (a b : Bool) → (a && b) ≡ true → b ≡ true
and_right true b e = e
and_right false b e = cc

abbrev fresh : ℕ → List ℕ → Bool
fresh n [] = true
fresh n (m ∷ ms) = not (eqb n m) && fresh n ms

abbrev distinct : List ℕ → Bool
distinct [] = true
distinct (n ∷ ns) = fresh n ns && distinct ns

fresh_not : (n : ℕ) (ns : List ℕ) → fresh n ns ≡ true → Member n ns → ⊥
fresh_not n [] e m = m
fresh_not n (x ∷ ns) e (inl f) = let t : eqb n x ≡ true = (Decides-eqb n x).1 f in let z : ◌≡◌ {A = ℕ} 0 1 = cc in omega arith
fresh_not n (x ∷ ns) e (inr m) = fresh_not n ns (and_right (not (eqb n x)) (fresh n ns) e) m

distinct_apart : (ns : List ℕ) → distinct ns ≡ true → Apart ns
distinct_apart [] e = tt
distinct_apart (n ∷ ns) e = (fresh_not n ns (and_left (fresh n ns) (distinct ns) e), distinct_apart ns (and_right (fresh n ns) (distinct ns) e))

apart_told : (xs : List Fact) → Apart (map told xs) → Apart xs
apart_told [] a = tt
apart_told (x ∷ xs) a = ((λ m. a.0 (in_map told x xs m)), apart_told xs a.1)

pub facts_listed : Enumerates (Chart grammar_e []) chart_e
facts_listed = record {
  apart = apart_told chart_e (distinct_apart (map told chart_e) refl);
  exactly = λ x. (in_chart x, λ c. least grammar_e [] (λ y. Member y chart_e) (record { begins = begins; steps = steps; joins = joins }) c);
}

-- The left sides of made rules.
made_left : (X : Phrase) → Member X (read_s ∷ []) ↔ Made grammar_e [] X
made_left X = (
  (λ m. elim m [ inl e ↦ (empty read_s, fact_3, sym e) | inr n ↦ absurd n ]),
  (λ h. inl (sym h.2 ∙ left_read_lem h.0 ((facts_listed.exactly (made h.0)).1 h.1))),
)

pub cells_16 : CellsInUse grammar_e [] 16
cells_16 = record { facts = chart_e; listed = facts_listed; total = refl }

pub bound_2 : Bound grammar_e [] 2
bound_2 = record { phrases = read_s ∷ []; listed = record { apart = ((λ m. m), tt); exactly = made_left }; total = refl }

-- Both places are live.
places_live : (p : ℕ) → Member p (0 ∷ 1 ∷ []) ↔ LivePlace grammar_e p
places_live p = (
  (λ m. elim m [ inl e ↦ subst (LivePlace grammar_e) (sym e) (doubling, live_doubling) | inr n ↦ elim n [ inl e ↦ subst (LivePlace grammar_e) (sym e) (ending, live_ending) | inr k ↦ absurd k ] ]),
  (λ h. elim (produced p h.0 h.1.filled) [ inl x ↦ inl x.0 | inr x ↦ inr (inl x.0) ]),
)

-- The trees of height at most 5.
pub trees_5 : Sound grammar_e → (ts : List Tree) → Enumerates (TreeUpTo grammar_e [] 5) ts → length ts ≡ 5
trees_5 s ts e =
    let live : Enumerates (LivePlace grammar_e) (0 ∷ 1 ∷ []) = record { apart = distinct_apart (0 ∷ 1 ∷ []) refl; exactly = places_live } in
    let rules = bare_rules grammar_e (0 ∷ 1 ∷ []) ++ made_rules chart_e in
    let all : Enumerates (RuleOf grammar_e []) rules = rules_from_facts grammar_e s [] (0 ∷ 1 ∷ []) chart_e live facts_listed in
    same_length (TreeUpTo grammar_e [] 5) ts (trees rules 5 (start_read grammar_e [])) e (start_listed grammar_e [] rules all s 5)

-- The value of a phrase after h rounds is the sum over the trees that rules derive from it, of height at most h: each tree
-- stands once in `trees`, and the sum over that list is the value, by distributivity. The grammar is sound.
use Rattle.std.proofs.Common.{◌≡◌, ℕ, zero, suc, ◌≤◌, ◌⊎◌, List, [], ◌∷◌, ◌++◌, map, Some, None, Option, sym, refl, ap, ◌∙◌, subst, inl, inr, arith}
use mathlib.Core.List.{map-map}
use Rattle.std.specs.List.{flat_map, AllByRecursion}
use Rattle.algebra.specs.Combinations.{combinations}
use Rattle.algebra.specs.Laws.{Laws}
use Rattle.algebra.specs.Sums.{sum_of, product_of}
use Rattle.algebra.proofs.Sums.{sum_joined, sum_of_equals}
use Rattle.algebra.proofs.Combinations.{product_of_sums}
use Rattle.grammar.specs.Grammar.{Grammar, Production, production_at}
use Rattle.grammar.specs.Trees.{Tree, node, Trees, none, more, height, heights}
use Rattle.chart.specs.Sound.{Sound}
use Rattle.chart.specs.Chart.{unread, read, Phrase, Rule, Fact, made, item, reading_at, bare_rule, Live, BareRule, Chart, RuleOf, is_bare, is_made, start_read, Member, Apart, Enumerates}
use Rattle.chart.specs.Sums.{same_phrase, rules_for, rule_value, value_after, tree_product, tree_products, TreeUpTo, LivePlace, with_bare, bare_rules, made_rules}
use Rattle.chart.specs.Theorems.{Sum, Round, RulesListed}
use Rattle.chart.proofs.Matching.{MatchAll}
use Rattle.chart.proofs.Completeness.{rule_of, Deriv, Derivs, derivs_match}
use Rattle.chart.proofs.Counting.{one_sum}
use Rattle.chart.proofs.Starts.{some_read, bare_unread}
use Rattle.chart.proofs.Existence.{start_derived, derived_start}
use Rattle.chart.proofs.Listing.{in_left, in_right, of_append, apart_append, in_map, of_map, in_joined, of_joined, in_kept, of_kept, apart_map, apart_joined, apart_kept, apart_combinations}
use Rattle.chart.proofs.Phrases.{phrase_test}
use Rattle.chart.proofs.Uniqueness.{rule_unique}

-- The trees of a list, and a list of trees.
abbrev pub from_list : List Tree → Trees
from_list [] = none
from_list (t ∷ ts) = more t (from_list ts)

abbrev pub to_list : Trees → List Tree
to_list none = []
to_list (more t ts) = t ∷ to_list ts

to_from : (ts : List Tree) → to_list (from_list ts) ≡ ts
to_from [] = refl
to_from (t ∷ ts) = ap (λ x. t ∷ x) (to_from ts)

from_to : (ts : Trees) → from_list (to_list ts) ≡ ts
from_to none = refl
from_to (more t ts) = ap (more t) (from_to ts)

-- What a rule makes of the trees for its arguments.
abbrev pub branches : (Phrase → List Tree) → Rule → List Tree
branches F r = map (λ chosen. node r.place (from_list chosen)) (combinations (map F r.arguments))

-- The trees that the rules derive from X, of height at most h.
abbrev pub trees : List Rule → ℕ → Phrase → List Tree
trees rules zero X = []
trees rules (suc h) X = flat_map (branches (trees rules h)) (rules_for X rules)

-- The rules for X.
rules_in : (X : Phrase) (rules : List Rule) (r : Rule) → Member r rules → r.left ≡ X → Member r (rules_for X rules)
rules_in X rules r m e = in_kept (λ q. same_phrase q.left X) r rules m ((phrase_test r.left X).1 e)

rules_of_lem : (X : Phrase) (rules : List Rule) (r : Rule) → Member r (rules_for X rules) → Member r rules × (r.left ≡ X)
rules_of_lem X rules r m = let k = of_kept (λ q. same_phrase q.left X) r rules m in (k.0, (phrase_test r.left X).0 k.1)

pub rules_listed : (g : Grammar) (w : List ℕ) (rules : List Rule) → Enumerates (RuleOf g w) rules → (X : Phrase) → Enumerates (λ r. RuleOf g w r × (r.left ≡ X)) (rules_for X rules)
rules_listed g w rules all X = record {
  apart = apart_kept (λ q. same_phrase q.left X) rules all.apart;
  exactly = λ r. (
    (λ m. let k = rules_of_lem X rules r m in ((all.exactly r).0 k.0, k.1)),
    (λ k. rules_in X rules r ((all.exactly r).1 k.0) k.1),
  );
}

same_rule_lem : (r q : Rule) → r.left ≡ q.left → r.place ≡ q.place → r.arguments ≡ q.arguments → r ≡ q
same_rule_lem r q a b c = λ i. record { left = a i; place = b i; arguments = c i }

module _ (g : Grammar) (w : List ℕ) (h : ℕ) (F : Phrase → List Tree) where
  chosen_derived : ((t : Tree) (X : Phrase) → Member t (F X) → Deriv g w t X × (height t ≤ h)) → (Xs : List Phrase) (ts : List Tree) → Member ts (combinations (map F Xs))
      → Derivs g w (from_list ts) Xs × (heights (from_list ts) ≤ h)
  chosen_derived ih [] ts (inl e) = subst (λ x. Derivs g w (from_list x) [] × (heights (from_list x) ≤ h)) (sym e) (tt, omega arith)
  chosen_derived ih [] ts (inr m) = absurd m
  chosen_derived ih (X ∷ Xs) ts m =
      let r = of_joined (λ t. map (λ c. t ∷ c) (combinations (map F Xs))) ts (F X) m in
      let k = of_map (λ c. r.0 ∷ c) ts (combinations (map F Xs)) r.2 in
      let head = ih r.0 X r.1 in
      let tail = chosen_derived ih Xs k.0 k.1 in
      subst (λ x. Derivs g w (from_list x) (X ∷ Xs) × (heights (from_list x) ≤ h)) (sym k.2) ((head.0, tail.0), omega (arith, head.1, tail.1))

  derived_chosen : ((t : Tree) (X : Phrase) → Deriv g w t X → height t ≤ h → Member t (F X)) → (Xs : List Phrase) (ts : Trees) → Derivs g w ts Xs → heights ts ≤ h
      → Member (to_list ts) (combinations (map F Xs))
  derived_chosen ih [] none d l = inl refl
  derived_chosen ih [] (more t ts) d l = absurd d
  derived_chosen ih (X ∷ Xs) none d l = absurd d
  derived_chosen ih (X ∷ Xs) (more t ts) d l =
      in_joined (λ x. map (λ c. x ∷ c) (combinations (map F Xs))) t (t ∷ to_list ts) (F X) (ih t X d.0 (omega arith))
      (in_map (λ c. t ∷ c) (to_list ts) (combinations (map F Xs)) (derived_chosen ih Xs ts d.1 (omega arith)))

module _ (g : Grammar) (w : List ℕ) (rules : List Rule) (all : Enumerates (RuleOf g w) rules) where
  -- A member of `trees` is derived.
  pub trees_derived : (h : ℕ) (t : Tree) (X : Phrase) → Member t (trees rules h X) → Deriv g w t X × (height t ≤ h)
  trees_derived zero t X m = absurd m
  trees_derived (suc h) t X m =
      let r = of_joined (branches (trees rules h)) t (rules_for X rules) m in
      let rule = r.0 in
      let own = rules_of_lem X rules rule r.1 in
      let k = of_map (λ c. node rule.place (from_list c)) t (combinations (map (trees rules h) rule.arguments)) r.2 in
      let ds = chosen_derived g w h (trees rules h) (trees_derived h) rule.arguments k.0 k.1 in
      let known : RuleOf g w (rule_of X rule.place rule.arguments) = subst (λ Y. RuleOf g w (rule_of Y rule.place rule.arguments)) own.1 ((all.exactly rule).0 own.0) in
      subst (λ x. Deriv g w x X × (height x ≤ suc h)) (sym k.2) ((rule.arguments, known, ds.0), omega (arith, ds.1))

  -- What is derived is a member.
  pub derived_trees : (h : ℕ) (t : Tree) (X : Phrase) → Deriv g w t X → height t ≤ h → Member t (trees rules h X)
  derived_trees zero (node p ts) X d l = absurd (omega arith)
  derived_trees (suc h) (node p ts) X d l =
      let Xs = d.0 in
      let c = derived_chosen g w h (trees rules h) (derived_trees h) Xs ts d.2 (omega arith) in
      let m = in_map (λ x. node p (from_list x)) (to_list ts) (combinations (map (trees rules h) Xs)) c in
      in_joined (branches (trees rules h)) (rule_of X p Xs) (node p ts) (rules_for X rules) (rules_in X rules (rule_of X p Xs) ((all.exactly (rule_of X p Xs)).1 d.1) refl)
      (subst (λ x. Member (node p x) (branches (trees rules h) (rule_of X p Xs))) (from_to ts) m)

  all_apart : (F : Phrase → List Tree) → ((X : Phrase) → Apart (F X)) → (Xs : List Phrase) → AllByRecursion Apart (map F Xs)
  all_apart F a [] = tt
  all_apart F a (X ∷ Xs) = (a X, all_apart F a Xs)

  -- No tree stands twice.
  pub trees_apart : Sound g → (h : ℕ) (X : Phrase) → Apart (trees rules h X)
  trees_apart s zero X = tt
  trees_apart s (suc h) X =
      apart_joined (branches (trees rules h)) (rules_for X rules) (apart_kept (λ q. same_phrase q.left X) rules all.apart)
      (λ r m. apart_map (λ c. node r.place (from_list c)) (λ a b e. sym (to_from a) ∙ (let same : from_list a ≡ from_list b = cc in ap to_list same) ∙ to_from b)
      (combinations (map (trees rules h) r.arguments)) (apart_combinations (map (trees rules h) r.arguments) (all_apart (trees rules h) (trees_apart s h) r.arguments)))
      (λ r q t m n a b.
      let k = of_map (λ c. node r.place (from_list c)) t (combinations (map (trees rules h) r.arguments)) a in
      let l = of_map (λ c. node q.place (from_list c)) t (combinations (map (trees rules h) q.arguments)) b in
      let ds = (chosen_derived g w h (trees rules h) (trees_derived h) r.arguments k.0 k.1).0 in
      let es = (chosen_derived g w h (trees rules h) (trees_derived h) q.arguments l.0 l.1).0 in
      let both : node r.place (from_list k.0) ≡ node q.place (from_list l.0) = sym k.2 ∙ l.2 in
      let place : r.place ≡ q.place = cc in
      let children : from_list k.0 ≡ from_list l.0 = cc in
      let mine = rules_of_lem X rules r m in
      let other = rules_of_lem X rules q n in
      let left : q.left ≡ r.left = other.1 ∙ sym mine.1 in
      let first : RuleOf g w (rule_of r.left r.place r.arguments) = (all.exactly r).0 mine.0 in
      let second : RuleOf g w (rule_of r.left r.place q.arguments) =
      subst (λ p. RuleOf g w (rule_of r.left p q.arguments)) (sym place) (subst (λ Y. RuleOf g w (rule_of Y q.place q.arguments)) left ((all.exactly q).0 other.0)) in
      let args = rule_unique g w s r.left r.place r.arguments q.arguments first second (from_list k.0) (derivs_match g w s (from_list k.0) r.arguments ds)
      (subst (λ x. MatchAll g w q.arguments x) (sym children) (derivs_match g w s (from_list l.0) q.arguments es)) in
      same_rule_lem r q (sym left) place args)

  -- The trees of height at most h with the string w.
  pub start_listed : Sound g → (h : ℕ) → Enumerates (TreeUpTo g w h) (trees rules h (start_read g w))
  start_listed s h = record {
    apart = trees_apart s h (start_read g w);
    exactly = λ t. (
      (λ m.
          let d = trees_derived h t (start_read g w) m in
          let k = derived_start g w s t d.0 in
          (k.0, k.1, omega (arith, d.1))),
      (λ k. derived_trees h t (start_read g w) (start_derived g w s t k.0 k.1) k.2),
    );
  }

-- The rules from a list of the live places and one of the facts.
with_bare_lem : (g : Grammar) (p : ℕ) (r : Rule) (o : Option Production) (rules : List Rule) → Member r (with_bare g p o rules) → ((q : Production) × (o ≡ Some q) × (r ≡ bare_rule g p q)) ⊎ Member r rules
with_bare_lem g p r None rules m = inr m
with_bare_lem g p r (Some q) rules (inl e) = inl (q, refl, e)
with_bare_lem g p r (Some q) rules (inr m) = inr m

bare_with : (g : Grammar) (p : ℕ) (r : Rule) (o : Option Production) (rules : List Rule) (q : Production) → o ≡ Some q → r ≡ bare_rule g p q → Member r (with_bare g p o rules)
bare_with g p r None rules q e f = absurd (let z : ◌≡◌ {A = ℕ} 0 1 = cc in omega arith)
bare_with g p r (Some x) rules q e f = let same : q ≡ x = cc in inl (f ∙ ap (bare_rule g p) same)

with_more : (g : Grammar) (p : ℕ) (r : Rule) (o : Option Production) (rules : List Rule) → Member r rules → Member r (with_bare g p o rules)
with_more g p r None rules m = m
with_more g p r (Some q) rules m = inr m

with_apart : (g : Grammar) (p : ℕ) (o : Option Production) (rules : List Rule) → ((q : Production) → Member (bare_rule g p q) rules → ⊥) → Apart rules → Apart (with_bare g p o rules)
with_apart g p None rules n a = a
with_apart g p (Some q) rules n a = (n q, a)

of_bares : (g : Grammar) (r : Rule) (ps : List ℕ) → Member r (bare_rules g ps) → (p : ℕ) × (q : Production) × Member p ps × (production_at g p ≡ Some q) × (r ≡ bare_rule g p q)
of_bares g r [] m = absurd m
of_bares g r (p ∷ ps) m = elim (with_bare_lem g p r (production_at g p) (bare_rules g ps) m) [
  | inl x ↦ (p, x.0, inl refl, x.1, x.2)
  | inr n ↦ let k = of_bares g r ps n in (k.0, k.1, inr k.2, k.3, k.4)
]

in_bares : (g : Grammar) (p : ℕ) (q : Production) (ps : List ℕ) → Member p ps → production_at g p ≡ Some q → Member (bare_rule g p q) (bare_rules g ps)
in_bares g p q [] m e = absurd m
in_bares g p q (x ∷ ps) (inl f) e = bare_with g x (bare_rule g p q) (production_at g x) (bare_rules g ps) q (ap (production_at g) (sym f) ∙ e) (ap (λ y. bare_rule g y q) f)
in_bares g p q (x ∷ ps) (inr m) e = with_more g x (bare_rule g p q) (production_at g x) (bare_rules g ps) (in_bares g p q ps m e)

bares_apart : (g : Grammar) (ps : List ℕ) → Apart ps → Apart (bare_rules g ps)
bares_apart g [] a = tt
bares_apart g (p ∷ ps) a =
    with_apart g p (production_at g p) (bare_rules g ps) (λ q m. let k = of_bares g (bare_rule g p q) ps m in a.0 (subst (λ x. Member x ps) (sym (ap (λ x. x.place) k.4)) k.2)) (bares_apart g ps a.1)

of_mades : (r : Rule) (facts : List Fact) → Member r (made_rules facts) → Member (made r) facts
of_mades r [] m = absurd m
of_mades r (made q ∷ facts) (inl e) = inl (ap made e)
of_mades r (made q ∷ facts) (inr m) = inr (of_mades r facts m)
of_mades r (item q l j i k ∷ facts) m = inr (of_mades r facts m)

in_mades : (r : Rule) (facts : List Fact) → Member (made r) facts → Member r (made_rules facts)
in_mades r [] m = absurd m
in_mades r (made q ∷ facts) (inl e) = inl (cc)
in_mades r (made q ∷ facts) (inr m) = inr (in_mades r facts m)
in_mades r (item q l j i k ∷ facts) (inl e) = absurd (let z : ◌≡◌ {A = ℕ} 0 1 = cc in omega arith)
in_mades r (item q l j i k ∷ facts) (inr m) = in_mades r facts m

mades_apart : (facts : List Fact) → Apart facts → Apart (made_rules facts)
mades_apart [] a = tt
mades_apart (made q ∷ facts) a = ((λ m. a.0 (of_mades q facts m)), mades_apart facts a.1)
mades_apart (item q l j i k ∷ facts) a = mades_apart facts a.1

bare_not_made : (g : Grammar) (w : List ℕ) → Sound g → (r : Rule) → BareRule g r → Chart g w (made r) → ⊥
bare_not_made g w s r b c =
    let m = some_read g w s c in
    let e : read m.1 m.2 ≡ unread = bare_unread g b.production.result m.0 (read m.1 m.2) (ap (λ x. reading_at x.left m.0) (sym b.is) ∙ m.3) in
    let z : ◌≡◌ {A = ℕ} 0 1 = cc in
    omega arith

module _ (g : Grammar) (s : Sound g) (w : List ℕ) (places : List ℕ) (facts : List Fact) (live : Enumerates (LivePlace g) places) (chart : Enumerates (Chart g w) facts) where
  listed_bare : (r : Rule) → Member r (bare_rules g places) → BareRule g r
  listed_bare r m =
      let k = of_bares g r places m in
      let l = (live.exactly k.0).0 k.2 in
      let same : l.0 ≡ k.1 = (let e : Some l.0 ≡ Some k.1 = sym l.1.filled ∙ k.3 in cc) in
      record { place = k.0; production = k.1; live = subst (λ q. Live g k.0 q) same l.1; is = k.4 }

  bare_listed : (r : Rule) → BareRule g r → Member r (bare_rules g places)
  bare_listed r b = subst (λ x. Member x (bare_rules g places)) (sym b.is) (in_bares g b.place b.production places ((live.exactly b.place).1 (b.production, b.live)) b.live.filled)

  to_rule : (r : Rule) → Member r (bare_rules g places) ⊎ Member r (made_rules facts) → RuleOf g w r
  to_rule r (inl m) = is_bare (listed_bare r m)
  to_rule r (inr m) = is_made ((chart.exactly (made r)).0 (of_mades r facts m))

  of_rule : (r : Rule) → RuleOf g w r → Member r (bare_rules g places ++ made_rules facts)
  of_rule r (is_bare b) = in_left r (bare_rules g places) (made_rules facts) (bare_listed r b)
  of_rule r (is_made c) = in_right r (bare_rules g places) (made_rules facts) (in_mades r facts ((chart.exactly (made r)).1 c))

  listed : Enumerates (RuleOf g w) (bare_rules g places ++ made_rules facts)
  listed = record {
    apart = apart_append (bare_rules g places) (made_rules facts) (bares_apart g places live.apart) (mades_apart facts chart.apart)
        (λ r m n. bare_not_made g w s r (listed_bare r m) ((chart.exactly (made r)).0 (of_mades r facts n)));
    exactly = λ r. ((λ m. to_rule r (of_append r (bare_rules g places) (made_rules facts) m)), of_rule r);
  }

pub rules_from_facts : RulesListed
rules_from_facts g s w places facts live chart = listed g s w places facts live chart

-- The sum over `trees` is the value.
module _ {A : Type 0} {nought unit : A} {plus times : A → A → A} {reads : ℕ → A} {writes : A → ℕ} (laws : Laws nought unit plus times reads writes) (weight : ℕ → A) where
  products_from : (ts : List Tree) → tree_products times weight (from_list ts) ≡ map (tree_product times weight) ts
  products_from [] = refl
  products_from (t ∷ ts) = ap (λ x. tree_product times weight t ∷ x) (products_from ts)

  map_equals : {X Y : Type 0} (f k : X → Y) → ((x : X) → f x ≡ k x) → (xs : List X) → map f xs ≡ map k xs
  map_equals f k e [] = refl
  map_equals f k e (x ∷ xs) = ap (λ y. y ∷ map f xs) (e x) ∙ ap (λ ys. k x ∷ ys) (map_equals f k e xs)

  -- One rule.
  rule_sum : (value : Phrase → A) (F : Phrase → List Tree) → ((X : Phrase) → value X ≡ sum_of nought plus (map (tree_product times weight) (F X))) → (r : Rule)
      → rule_value times weight value r ≡ sum_of nought plus (map (tree_product times weight) (branches F r))
  rule_sum value F ih r =
      let product : Tree → A = tree_product times weight in
      let total : List Tree → A = λ ts. sum_of nought plus (map product ts) in
      let first : A = weight r.place in
      let made : List Tree → Tree = λ chosen. node r.place (from_list chosen) in
      ap (product_of times first) (map_equals value (λ X. total (F X)) ih r.arguments ∙ sym (map-map total F r.arguments))
      ∙ product_of_sums laws product first (map F r.arguments)
      ∙ sum_of_equals laws (λ chosen. product_of times first (map product chosen)) (λ chosen. product (made chosen)) (λ chosen. ap (product_of times first) (sym (products_from chosen))) (combinations (map F r.arguments))
      ∙ ap (sum_of nought plus) (sym (map-map product made (combinations (map F r.arguments))))

  pub value_sum : (rules : List Rule) (h : ℕ) (X : Phrase) → value_after nought plus times weight rules h X ≡ sum_of nought plus (map (tree_product times weight) (trees rules h X))
  value_sum rules zero X = refl
  value_sum rules (suc h) X =
      sum_of_equals laws (rule_value times weight (value_after nought plus times weight rules h)) (λ r. sum_of nought plus (map (tree_product times weight) (branches (trees rules h) r)))
      (rule_sum (value_after nought plus times weight rules h) (trees rules h) (value_sum rules h)) (rules_for X rules)
      ∙ sym (sum_joined laws (tree_product times weight) (branches (trees rules h)) (rules_for X rules))

module _ {A : Type 0} {nought unit : A} {plus times : A → A → A} {reads : ℕ → A} {writes : A → ℕ} (laws : Laws nought unit plus times reads writes) where
  pub sum_of_trees : Sum nought plus times
  sum_of_trees g s w rules all weight h = (
    (trees rules h (start_read g w), start_listed g w rules all s h),
    (λ ts e. value_sum laws weight rules h (start_read g w) ∙ one_sum laws (TreeUpTo g w h) (tree_product times weight) (trees rules h (start_read g w)) ts (start_listed g w rules all s h) e),
  )

  pub round_in_any_order : Round nought plus times
  round_in_any_order g w rules all weight h X own e =
      one_sum laws (λ r. RuleOf g w r × (r.left ≡ X)) (rule_value times weight (value_after nought plus times weight rules h)) (rules_for X rules) own (rules_listed g w rules all X) e

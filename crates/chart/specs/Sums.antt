-- The value of a phrase after a number of rounds, the product of a tree, and what is proved of them. Assumes nothing.
use Rattle.std.specs.Prelude.{◌≡◌, ℕ, zero, suc, ◌≤◌, Bool, true, false, ◌&&◌, List, [], ◌∷◌, map, Some, None, filter, Option, ◌==◌}
use Rattle.algebra.specs.Sums.{sum_of, product_of}
use Rattle.grammar.specs.Grammar.{Grammar, Production, production_at}
use Rattle.grammar.specs.Trees.{Tree, node, Trees, none, more, height, StartTree, string}
use Rattle.chart.specs.Chart.{Reading, unread, read, Phrase, Rule, Fact, made, item, bare_rule, Live}

abbrev pub same_reading : Reading → Reading → Bool
same_reading unread unread = true
same_reading unread (read c d) = false
same_reading (read a b) unread = false
same_reading (read a b) (read c d) = a == c && b == d

abbrev pub same_readings : List Reading → List Reading → Bool
same_readings [] [] = true
same_readings [] (n ∷ ns) = false
same_readings (m ∷ ms) [] = false
same_readings (m ∷ ms) (n ∷ ns) = same_reading m n && same_readings ms ns

-- Whether two phrases are equal: the test that decides `X ≡ Y`.
abbrev pub same_phrase : Phrase → Phrase → Bool
same_phrase X Y = X.category == Y.category && same_readings X.readings Y.readings

-- Those of the rules that have X on their left.
abbrev pub rules_for : Phrase → List Rule → List Rule
rules_for X rules = filter (λ r. same_phrase r.left X) rules

-- What a rule is worth, where each phrase has a value: its place's weight times its arguments' values, left to right.
abbrev pub rule_value : {A : Type 0} → (A → A → A) → (ℕ → A) → (Phrase → A) → Rule → A
rule_value times weight value r = product_of times (weight r.place) (map value r.arguments)

-- What a phrase is worth after h rounds: zero at first, and then the sum over its rules.
abbrev pub value_after : {A : Type 0} → A → (A → A → A) → (A → A → A) → (ℕ → A) → List Rule → ℕ → Phrase → A
value_after nought plus times weight rules zero X = nought
value_after nought plus times weight rules (suc h) X =
    sum_of nought plus (map (rule_value times weight (value_after nought plus times weight rules h)) (rules_for X rules))

-- A tree's product is its place's weight times its arguments' products, left to right.
abbrev mutual
  pub tree_product : {A : Type 0} → (A → A → A) → (ℕ → A) → Tree → A
  tree_product times weight (node p ts) = product_of times (weight p) (tree_products times weight ts)

  pub tree_products : {A : Type 0} → (A → A → A) → (ℕ → A) → Trees → List A
  tree_products times weight none = []
  tree_products times weight (more t ts) = tree_product times weight t ∷ tree_products times weight ts

-- t is a start tree of height at most h with the string w.
abbrev pub TreeUpTo : Grammar → List ℕ → ℕ → Tree → Type 0
TreeUpTo g w h t = StartTree g t × (string g t ≡ w) × (height t ≤ h)

-- Place p is live.
abbrev pub LivePlace : Grammar → ℕ → Type 0
LivePlace g p = (q : Production) × Live g p q

-- The bare rules of places, and the made rules among facts.
abbrev pub with_bare : Grammar → ℕ → Option Production → List Rule → List Rule
with_bare g p None rules = rules
with_bare g p (Some q) rules = bare_rule g p q ∷ rules

abbrev pub bare_rules : Grammar → List ℕ → List Rule
bare_rules g [] = []
bare_rules g (p ∷ ps) = with_bare g p (production_at g p) (bare_rules g ps)

abbrev pub made_rules : List Fact → List Rule
made_rules [] = []
made_rules (made r ∷ facts) = r ∷ made_rules facts
made_rules (item r l j i k ∷ facts) = made_rules facts

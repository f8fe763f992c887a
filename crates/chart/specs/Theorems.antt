-- What is proved of the chart: each statement is the contract of a function of this crate. Assumes nothing.
use Rattle.std.specs.Prelude.{◌≡◌, ℕ, suc, ◌≤◌, ◌⊎◌, ◌↔◌, List, [], ◌∷◌, ◌++◌, map, length, Some, ◌≢◌}
use Rattle.algebra.specs.Sums.{sum_of}
use Rattle.grammar.specs.declared.Symbol.TheVariants.{Token, Argument}
use Rattle.grammar.specs.Grammar.{Grammar, from_one}
use Rattle.grammar.specs.Trees.{Tree, TreeOf, height, StartTree, string, GoesOn, Complete}
use Rattle.faults.specs.Sound as checked
use Rattle.chart.specs.Sound.{Sound}
use Rattle.chart.specs.Chart.{Phrase, Rule, Fact, made, item, Reads, read, reading_at, after_dot, Begin, Step, Join, Chart, RuleOf, Frontier, Accepts, start_read, Member, Enumerates, CellsInUse, Bound}
use Rattle.chart.specs.Sums.{rule_value, value_after, tree_product, TreeUpTo, LivePlace, bare_rules, made_rules}
use Rattle.chart.specs.Written.{written, start_written, string_written}

-- A grammar that is sound for the check before opening, within the limits and without a fault, is sound here. So what is
-- said below of every sound grammar holds of every grammar that the check accepts.
abbrev pub Faultless : Type 0
Faultless = (g : Grammar) → checked.Sound g → Sound g

-- The frontier has the token t exactly when some start tree's string begins with w and then t.
abbrev pub Next : Type 0
Next = (g : Grammar) → Sound g → (w : List ℕ) (t : ℕ) → Frontier g w t ↔ GoesOn g w t

-- Some made rule has the start phrase, read as the whole of w, on its left exactly when w is some start tree's string.
abbrev pub Verdict : Type 0
Verdict = (g : Grammar) → Sound g → (w : List ℕ) → Accepts g w ↔ Complete g w

-- A set of facts is closed under the steps.
pub record Closed (g : Grammar) (w : List ℕ) (S : Fact → Type 0) : Type 0 where
  pub begins : (z : Fact) → Begin g z → S z
  pub steps : (x z : Fact) → S x → Step g w x z → S z
  pub joins : (x y z : Fact) → S x → S y → Join g x y z → S z

-- If the set is closed under the steps of a chart, it contains that chart.
abbrev pub Contains : (Fact → Type 0) → Type 0
Contains S = (g : Grammar) (w : List ℕ) → Closed g w S → (f : Fact) → Chart g w f → S f

-- The chart is closed under its steps, and every list of facts that is so contains it.
abbrev pub Least : Type 0
Least = ((g : Grammar) (w : List ℕ) → Closed g w (Chart g w)) × ((facts : List Fact) → Contains (λ f. Member f facts))

-- A fact ends at e: an item whose end is e, or a made rule with a constituent of its left side read up to e.
abbrev pub EndsAt : ℕ → Fact → Type 0
EndsAt e (made r) = (l : ℕ) × (j : ℕ) × (reading_at r.left l ≡ Some (read j e))
EndsAt e (item r l j i k) = k ≡ e

-- The chart of w is part of the chart of w with t, and every fact of this that is not in that ends at its last position.
abbrev pub Growth : Type 0
Growth = (g : Grammar) → Sound g → (w : List ℕ) (t : ℕ) (f : Fact)
    → (Chart g w f → Chart g (w ++ (t ∷ [])) f)
    × (Chart g (w ++ (t ∷ [])) f → Chart g w f ⊎ EndsAt (suc (length w)) f)

-- The steps that t opens after w: a scan of t at the end of w, and a copy that ends with t.
pub data Opens (g : Grammar) (w : List ℕ) (t : ℕ) : Fact → Fact → Type 0 where
  scans : {r : Rule} {l j i : ℕ} → after_dot g r l i ≡ Some (Token t)
      → Opens g w t (item r l j i (length w)) (item r l j (suc i) (suc (length w)))
  copies : {r : Rule} {l j i k d s a b : ℕ} {X : Phrase} {u : List ℕ} → after_dot g r l i ≡ Some (Argument d s)
      → from_one r.arguments d ≡ Some X → reading_at X s ≡ Some (read a b) → Reads w a b u
      → Reads (w ++ (t ∷ [])) k (suc (length w)) u → Opens g w t (item r l j i k) (item r l j (suc i) (suc (length w)))

-- These are steps of w with t, and any other step of w with t from the chart of w stays in the chart of w. (What begins,
-- and the steps from an item and a made rule, do not depend on the tokens.)
abbrev pub Opening : Type 0
Opening = (g : Grammar) → Sound g → (w : List ℕ) (t : ℕ) (x z : Fact)
    → (Opens g w t x z → Step g (w ++ (t ∷ [])) x z)
    × (Chart g w x → Step g (w ++ (t ∷ [])) x z → Chart g w z ⊎ Opens g w t x z)

-- The cells in use are one number, and so is the bound on heights.
abbrev pub OneNumber : Type 0
OneNumber = (g : Grammar) (w : List ℕ) (m n : ℕ)
    → (CellsInUse g w m → CellsInUse g w n → m ≡ n) × (Bound g w m → Bound g w n → m ≡ n)

-- Where an item for constituent l of a phrase starts at j, the phrase is the left side of a rule, and each of its rules
-- has an item for l that starts there, dot first.
abbrev pub Starts : Type 0
Starts = (g : Grammar) → Sound g → (w : List ℕ) (r : Rule) (l j i k : ℕ) → Chart g w (item r l j i k)
    → ((q : Rule) × RuleOf g w q × (q.left ≡ r.left))
    × ((q : Rule) → RuleOf g w q → q.left ≡ r.left → Chart g w (item q l j 0 j))

-- Where `rules` are the rules of the chart, each once, some list holds the start trees of height at most h with the
-- string w, each once; and over each such list, the sum of the trees' products is what the start phrase, read as the
-- whole of w, is worth after h rounds.
abbrev pub Sum : {A : Type 0} → A → (A → A → A) → (A → A → A) → Type 0
Sum {A} nought plus times = (g : Grammar) → Sound g → (w : List ℕ) (rules : List Rule) → Enumerates (RuleOf g w) rules → (weight : ℕ → A) (h : ℕ)
    → ((ts : List Tree) × Enumerates (TreeUpTo g w h) ts)
    × ((ts : List Tree) → Enumerates (TreeUpTo g w h) ts
    → value_after nought plus times weight rules h (start_read g w) ≡ sum_of nought plus (map (tree_product times weight) ts))

-- A list of the live places and one of the chart's facts give the rules of the chart, each once.
abbrev pub RulesListed : Type 0
RulesListed = (g : Grammar) → Sound g → (w : List ℕ) (places : List ℕ) (facts : List Fact) → Enumerates (LivePlace g) places → Enumerates (Chart g w) facts
    → Enumerates (RuleOf g w) (bare_rules g places ++ made_rules facts)

-- A round may take the rules of a phrase in any order: over each list that holds them, each once, the sum is one.
abbrev pub Round : {A : Type 0} → A → (A → A → A) → (A → A → A) → Type 0
Round {A} nought plus times = (g : Grammar) (w : List ℕ) (rules : List Rule) → Enumerates (RuleOf g w) rules → (weight : ℕ → A) (h : ℕ) (X : Phrase) (own : List Rule)
    → Enumerates (λ r. RuleOf g w r × (r.left ≡ X)) own
    → value_after nought plus times weight rules (suc h) X ≡ sum_of nought plus (map (rule_value times weight (value_after nought plus times weight rules h)) own)

-- Where w is some start tree's string, it is that of one no higher than the bound.
abbrev pub Height : Type 0
Height = (g : Grammar) → Sound g → (w : List ℕ) (n : ℕ) → Bound g w n → Complete g w → (t : Tree) × StartTree g t × (string g t ≡ w) × (height t ≤ n)

-- A category that has a tree has one no higher than the number of categories.
abbrev pub CategoryHeight : Type 0
CategoryHeight = (g : Grammar) → Sound g → (c : ℕ) (t : Tree) → TreeOf g t c → (s : Tree) × TreeOf g s c × (height s ≤ length g.dimensions)

-- A list of numbers writes at most one tree of the grammar.
abbrev pub WrittenOnce : Type 0
WrittenOnce = (g : Grammar) (s t : Tree) (c d : ℕ) → TreeOf g s c → TreeOf g t d → written s ≡ written t → s ≡ t

-- A list of numbers writes a start tree, or it writes none.
abbrev pub WrittenOrNot : Type 0
WrittenOrNot = (g : Grammar) (ns : List ℕ)
    → ((t : Tree) × StartTree g t × (written t ≡ ns)) ⊎ ((t : Tree) → StartTree g t → written t ≢ ns)

-- `start_written` and `string_written` tell which tree that is, and its string.
abbrev pub WrittenRead : Type 0
WrittenRead = (g : Grammar) (ns : List ℕ)
    → ((t : Tree) → (start_written g ns ≡ Some t) ↔ (StartTree g t × (written t ≡ ns)))
    × ((u : List ℕ) → (string_written g ns ≡ Some u) ↔ ((t : Tree) × StartTree g t × (written t ≡ ns) × (string g t ≡ u)))

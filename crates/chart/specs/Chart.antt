-- The chart of a grammar g and a list w of tokens: which parts of w are read, or being read, as which constituents.
-- It is Earley's chart for parallel multiple context-free grammars (Seki and others 1991, Angelov 2009), except that
-- what is known of a constituent is where it was read, so the chart is finite. Assumes nothing.
use Rattle.std.specs.Prelude.{◌≡◌, ℕ, zero, suc, ◌+◌, ◌<◌, ◌≤◌, ◌⊎◌, ◌↔◌, List, [], ◌∷◌, ◌++◌, map, length, drop, replicate, Some, None, sum_by, Option, slice_set}
use Rattle.std.specs.List.{slice_get, AllByRecursion}
use Rattle.std.specs.Option.{unwrap_or}
use Rattle.grammar.specs.declared.Symbol.{Symbol}
use Rattle.grammar.specs.declared.Symbol.TheVariants.{Token, Argument}
use Rattle.grammar.specs.Grammar.{Grammar, Production, from_one, production_at, dimension_at}
use Rattle.grammar.specs.Trees.{Tree, TreeOf, constituents_at}

-- A constituent is unread, or read as a span: from position `start` to position `end` of the tokens.
pub data Reading : Type 0 where
  unread : Reading
  read : (start end : ℕ) → Reading

-- A phrase: a category, and a reading for each of its constituents.
pub record Phrase : Type 0 where
  pub category : ℕ
  pub readings : List Reading

-- A rule X ← p[X1, X2, ..]: place p makes the phrase X from the phrases X1, X2, ..
pub record Rule : Type 0 where
  pub left : Phrase
  pub place : ℕ
  pub arguments : List Phrase

-- A fact of a chart: a made rule; or an item, which is a rule, a constituent of its left side, a start, a dot (how
-- many symbols of that constituent are passed) and an end.
pub data Fact : Type 0 where
  made : Rule → Fact
  item : (rule : Rule) (constituent start dot end : ℕ) → Fact

-- The tokens of w from position j to position k are u.
pub record Reads (w : List ℕ) (j k : ℕ) (u : List ℕ) : Type 0 where
  pub inside : k ≤ length w
  pub ends : j + length u ≡ k
  pub tokens : drop j w ≡ u ++ drop k w

-- xs with y in place i, counted from 1.
abbrev pub put : {X : Type 0} → List X → ℕ → X → List X
put xs zero y = xs
put xs (suc i) y = slice_set xs i y

-- How constituent r of X stands, counted from 1.
abbrev pub reading_at : Phrase → ℕ → Option Reading
reading_at X r = from_one X.readings r

-- X with constituent r read from j to k.
abbrev pub read_as : Phrase → ℕ → ℕ → ℕ → Phrase
read_as X r j k = record { category = X.category; readings = put X.readings r (read j k) }

-- The rule with l read from j to k on its left side.
abbrev pub left_read : Rule → ℕ → ℕ → ℕ → Rule
left_read r l j k = record { left = read_as r.left l j k; place = r.place; arguments = r.arguments }

-- The rule with Y for argument d, counted from 1.
abbrev pub with_argument : Rule → ℕ → Phrase → Rule
with_argument r d Y = record { left = r.left; place = r.place; arguments = put r.arguments d Y }

-- The bare phrase of a category: every constituent unread.
abbrev pub bare : Grammar → ℕ → Phrase
bare g c = record { category = c; readings = replicate (unwrap_or (dimension_at g c) 0) unread }

-- The rule of the production q at place p, with all phrases bare.
abbrev pub bare_rule : Grammar → ℕ → Production → Rule
bare_rule g p q = record { left = bare g q.result; place = p; arguments = map (bare g) q.arguments }

-- The place p holds q, and is live: each argument category has a tree.
pub record Live (g : Grammar) (p : ℕ) (q : Production) : Type 0 where
  pub filled : production_at g p ≡ Some q
  pub trees : AllByRecursion (λ c. (t : Tree) × TreeOf g t c) q.arguments

-- Each live place gives one bare rule.
pub record BareRule (g : Grammar) (r : Rule) : Type 0 where
  pub place : ℕ
  pub production : Production
  pub live : Live g place production
  pub is : r ≡ bare_rule g place production

-- The symbols of constituent l, counted from 1, of the function that place p uses.
abbrev pub symbols_of : Grammar → ℕ → ℕ → List Symbol
symbols_of g p l = unwrap_or (from_one (constituents_at g p) l) []

-- The symbol that follows the dot i in constituent l of the rule r: nothing where the dot is at the end.
abbrev pub after_dot : Grammar → Rule → ℕ → ℕ → Option Symbol
after_dot g r l i = slice_get (symbols_of g r.place l) i

-- Begin: each bare rule of the start category starts an item at 0 for its first constituent.
pub data Begin (g : Grammar) : Fact → Type 0 where
  begin : {r : Rule} → BareRule g r → r.left.category ≡ g.start → Begin g (item r 1 0 0 0)

-- The steps from one item.
pub data Step (g : Grammar) (w : List ℕ) : Fact → Fact → Type 0 where
  -- The dot passes a token equal to the one that follows the end k in w.
  scan : {r : Rule} {l j i k t : ℕ} → after_dot g r l i ≡ Some (Token t) → slice_get w k ≡ Some t
      → Step g w (item r l j i k) (item r l j (suc i) (suc k))
  -- Before ⟨d;s⟩ that is unread in argument d, each bare rule of that argument starts an item for s at k.
  predict_bare : {r q : Rule} {l j i k d s : ℕ} → after_dot g r l i ≡ Some (Argument d s)
      → from_one r.arguments d ≡ Some q.left → reading_at q.left s ≡ Some unread → BareRule g q
      → Step g w (item r l j i k) (item q s k 0 k)
  -- A dot at the end makes the same rule with l read from j to k.
  finish : {r : Rule} {l j i k : ℕ} → after_dot g r l i ≡ None → Step g w (item r l j i k) (made (left_read r l j k))
  -- Before ⟨d;s⟩ that is read from a to b in argument d, the dot passes the same tokens once more.
  copy : {r : Rule} {l j i k d s a b m : ℕ} {X : Phrase} {u : List ℕ} → after_dot g r l i ≡ Some (Argument d s)
      → from_one r.arguments d ≡ Some X → reading_at X s ≡ Some (read a b) → Reads w a b u → Reads w k m u
      → Step g w (item r l j i k) (item r l j (suc i) m)

-- The steps from an item and a made rule.
pub data Join (g : Grammar) : Fact → Fact → Fact → Type 0 where
  -- Before ⟨d;s⟩ that is unread in argument d, each made rule of that argument starts an item for s at k.
  predict : {r q : Rule} {l j i k d s : ℕ} → after_dot g r l i ≡ Some (Argument d s)
      → from_one r.arguments d ≡ Some q.left → reading_at q.left s ≡ Some unread
      → Join g (item r l j i k) (made q) (item q s k 0 k)
  -- Before ⟨d;s⟩ that is unread in argument d, the dot passes it if a made rule has that argument with s read from k
  -- to m on its left; this phrase takes the argument's place. (It is not bare, so no bare rule makes it.)
  combine : {r q : Rule} {l j i k d s m : ℕ} {X : Phrase} → after_dot g r l i ≡ Some (Argument d s)
      → from_one r.arguments d ≡ Some X → reading_at X s ≡ Some unread → q.left ≡ read_as X s k m
      → Join g (item r l j i k) (made q) (item (with_argument r d q.left) l j (suc i) m)

-- The chart: the least set of facts that has what begins, and what a step leads to from facts of the set.
pub data Chart (g : Grammar) (w : List ℕ) : Fact → Type 0 where
  first : {z : Fact} → Begin g z → Chart g w z
  one : {x z : Fact} → Chart g w x → Step g w x z → Chart g w z
  two : {x y z : Fact} → Chart g w x → Chart g w y → Join g x y z → Chart g w z

-- The rules of the chart: the bare ones and the made ones.
pub data RuleOf (g : Grammar) (w : List ℕ) (r : Rule) : Type 0 where
  is_bare : BareRule g r → RuleOf g w r
  is_made : Chart g w (made r) → RuleOf g w r

-- The frontier has the token t: an item at the end of w stands before t; or an item stands before a constituent read
-- from a to b, the tokens from its end k on repeat those from a to c, before b, so far as w goes, and t stands at c.
pub data Frontier (g : Grammar) (w : List ℕ) (t : ℕ) : Type 0 where
  before : {r : Rule} {l j i : ℕ} → Chart g w (item r l j i (length w)) → after_dot g r l i ≡ Some (Token t)
      → Frontier g w t
  within : {r : Rule} {l j i k d s a b c : ℕ} {X : Phrase} {u : List ℕ} → Chart g w (item r l j i k)
      → after_dot g r l i ≡ Some (Argument d s) → from_one r.arguments d ≡ Some X
      → reading_at X s ≡ Some (read a b) → Reads w a c u → Reads w k (length w) u → c < b → slice_get w c ≡ Some t
      → Frontier g w t

-- The start phrase read as the whole of w.
abbrev pub start_read : Grammar → List ℕ → Phrase
start_read g w = record { category = g.start; readings = read 0 (length w) ∷ [] }

-- The verdict: some made rule has the start phrase, read as the whole of w, on its left.
abbrev pub Accepts : Grammar → List ℕ → Type 0
Accepts g w = (r : Rule) × Chart g w (made r) × (r.left ≡ start_read g w)

-- x is in the list.
abbrev pub Member : {X : Type 0} → X → List X → Type 0
Member x [] = ⊥
Member x (y ∷ ys) = (x ≡ y) ⊎ Member x ys

-- No member stands twice in the list.
abbrev pub Apart : {X : Type 0} → List X → Type 0
Apart [] = Unit {0}
Apart (x ∷ xs) = (¬ Member x xs) × Apart xs

-- The list holds exactly those of which P is true, each once.
pub record Enumerates {X : Type 0} (P : X → Type 0) (xs : List X) : Type 0 where
  pub apart : Apart xs
  pub exactly : (x : X) → Member x xs ↔ P x

-- How many arguments a place holds: none where it is empty.
abbrev pub arguments_in : Option Production → ℕ
arguments_in None = 0
arguments_in (Some q) = length q.arguments

-- The cells that a grammar takes: categories, functions, constituents, symbols, places and arguments.
abbrev pub grammar_cells : Grammar → ℕ
grammar_cells g = length g.dimensions + length g.functions + sum_by (λ f. length f.constituents) g.functions
    + sum_by (λ f. sum_by length f.constituents) g.functions + length g.places + sum_by arguments_in g.places

-- The cells in use are n: those of the grammar, one for each token of w, and one for each fact of the chart.
pub record CellsInUse (g : Grammar) (w : List ℕ) (n : ℕ) : Type 0 where
  pub facts : List Fact
  pub listed : Enumerates (Chart g w) facts
  pub total : n ≡ grammar_cells g + length w + length facts

-- X is the left side of a made rule.
abbrev pub Made : Grammar → List ℕ → Phrase → Type 0
Made g w X = (r : Rule) × Chart g w (made r) × (r.left ≡ X)

-- The bound n on heights: the categories and the different left sides of made rules.
pub record Bound (g : Grammar) (w : List ℕ) (n : ℕ) : Type 0 where
  pub phrases : List Phrase
  pub listed : Enumerates (Made g w) phrases
  pub total : n ≡ length g.dimensions + length phrases

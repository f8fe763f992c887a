-- Questions about a grammar with their answers, what each says of its trees and strings, and the list of those that are
-- asked of the sample grammars. Assumes nothing.
use Rattle.std.specs.Prelude.{◌≡◌, ℕ, ◌<◌, ◌↔◌, List, [], ◌∷◌, map, length, Some, None, slice_index}
use Rattle.std.specs.List.{AllByRecursion}
use Rattle.algebra.specs.Sums.{sum_of}
use Rattle.models.specs.contracts.CountAlgebra.TheImpl.{ghosts as counts}
use Rattle.models.specs.contracts.CostAlgebra.TheImpl.{ghosts as costs}
use Rattle.grammar.specs.Grammar.{Grammar}
use Rattle.grammar.specs.Trees.{Tree, StartTree, string, GoesOn, Complete}
use Rattle.chart.specs.Chart.{Enumerates, CellsInUse, Bound}
use Rattle.chart.specs.Samples.{grammar_k, grammar_d, grammar_e, grammar_p}
use Rattle.chart.specs.Sums.{tree_product, TreeUpTo}
use Rattle.chart.specs.Written.{written, string_written}

pub data Line : Type 0 where
  -- After the tokens comes t, and no other token.
  only_next : (g : Grammar) (tokens : List ℕ) (t : ℕ) → Line
  -- After the tokens t does not come: it is refused.
  not_next : (g : Grammar) (tokens : List ℕ) (t : ℕ) → Line
  -- The tokens are complete.
  complete : (g : Grammar) (tokens : List ℕ) → Line
  -- To this depth, the tokens have this many trees.
  counted : (g : Grammar) (tokens : List ℕ) (depth count : ℕ) → Line
  -- To this depth, where place p weighs what the list of weights has at p, the cheapest tree of the tokens costs this.
  cheapest : (g : Grammar) (tokens weights : List ℕ) (depth cost : ℕ) → Line
  -- The list of places writes a start tree, whose string is the tokens.
  linearizes : (g : Grammar) (places tokens : List ℕ) → Line
  -- The list of places writes no start tree.
  writes_none : (g : Grammar) (places : List ℕ) → Line
  -- At the tokens, this many cells are in use.
  cells : (g : Grammar) (tokens : List ℕ) (count : ℕ) → Line
  -- At the tokens, an area of this many cells is too short.
  too_short : (g : Grammar) (tokens : List ℕ) (area : ℕ) → Line
  -- At the tokens, this is the bound on heights.
  bounded : (g : Grammar) (tokens : List ℕ) (bound : ℕ) → Line

-- There are n start trees of height at most h with the string w, and in counts the sum of their products, each place of
-- weight one, is n.
pub record Counted (g : Grammar) (w : List ℕ) (h n : ℕ) : Type 0 where
  pub some : (ts : List Tree) × Enumerates (TreeUpTo g w h) ts
  pub many : (ts : List Tree) → Enumerates (TreeUpTo g w h) ts → length ts ≡ n
  pub total : (ts : List Tree) → Enumerates (TreeUpTo g w h) ts
      → sum_of counts.nought counts.plus (map (tree_product counts.times (λ p. counts.unit)) ts) ≡ counts.reads n

-- In costs the sum over the start trees of height at most h with the string w is n.
pub record Cheapest (g : Grammar) (w weights : List ℕ) (h n : ℕ) : Type 0 where
  pub some : (ts : List Tree) × Enumerates (TreeUpTo g w h) ts
  pub total : (ts : List Tree) → Enumerates (TreeUpTo g w h) ts
      → sum_of costs.nought costs.plus (map (tree_product costs.times (λ p. costs.reads (slice_index weights p))) ts) ≡ costs.reads n

abbrev pub Holds : Line → Type 0
Holds (only_next g w t) = (x : ℕ) → GoesOn g w x ↔ (x ≡ t)
Holds (not_next g w t) = ¬ GoesOn g w t
Holds (complete g w) = Complete g w
Holds (counted g w h n) = Counted g w h n
Holds (cheapest g w weights h n) = Cheapest g w weights h n
Holds (linearizes g ns w) = (string_written g ns ≡ Some w) × ((t : Tree) × StartTree g t × (written t ≡ ns) × (string g t ≡ w))
Holds (writes_none g ns) = (string_written g ns ≡ None) × ((t : Tree) → StartTree g t → ¬ (written t ≡ ns))
Holds (cells g w n) = CellsInUse g w n
Holds (too_short g w area) = (n : ℕ) → CellsInUse g w n → area < n
Holds (bounded g w n) = Bound g w n

abbrev pub lines : List Line
lines =
    only_next grammar_k [] 0
    ∷ complete grammar_k []
    ∷ only_next grammar_k (0 ∷ 0 ∷ 1 ∷ []) 1
    ∷ not_next grammar_k (0 ∷ 0 ∷ 1 ∷ 1 ∷ []) 0
    ∷ counted grammar_k (0 ∷ 0 ∷ 1 ∷ 1 ∷ 2 ∷ 2 ∷ []) 4 1
    ∷ counted grammar_k (0 ∷ 0 ∷ 1 ∷ 1 ∷ 2 ∷ 2 ∷ []) 3 0
    ∷ linearizes grammar_k (0 ∷ 1 ∷ 1 ∷ 2 ∷ []) (0 ∷ 0 ∷ 1 ∷ 1 ∷ 2 ∷ 2 ∷ [])
    ∷ writes_none grammar_k (0 ∷ 1 ∷ [])
    ∷ only_next grammar_d (0 ∷ 2 ∷ 3 ∷ 1 ∷ []) 2
    ∷ counted grammar_d (0 ∷ 2 ∷ 2 ∷ 2 ∷ 1 ∷ 2 ∷ 2 ∷ 2 ∷ []) 4 2
    ∷ cheapest grammar_d (0 ∷ 2 ∷ 3 ∷ 1 ∷ 2 ∷ 3 ∷ []) (1 ∷ 2 ∷ 5 ∷ 1 ∷ []) 3 9
    ∷ cells grammar_e [] 16
    ∷ too_short grammar_e [] 15
    ∷ bounded grammar_e [] 2
    ∷ counted grammar_e [] 5 5
    ∷ not_next grammar_p [] 0
    ∷ []

abbrev pub SamplesAnswered : Type 0
SamplesAnswered = AllByRecursion Holds lines

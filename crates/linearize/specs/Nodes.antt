-- A table with a node for each number of a list: where the tree that begins there ends, and how long its constituents are.
-- Assumes nothing.
use Rattle.std.specs.Prelude.{◌≡◌, ℕ, zero, suc, ◌+◌, ◌-◌, ◌<◌, ◌≤◌, min, cond, List, [], ◌∷◌, length, drop, Some, ◌==◌, slice_index_or}
use Rattle.std.specs.Option.{unwrap_or}
use Rattle.grammar.specs.declared.Symbol.{Symbol}
use Rattle.grammar.specs.declared.Symbol.TheVariants.{Token, Argument}
use Rattle.grammar.specs.Grammar.{Grammar, from_one}
use Rattle.grammar.specs.Trees.{Tree, linearized}
use Rattle.chart.specs.Written.{written, trees_written}
use Rattle.linearize.specs.declared.nodes.Node.{Node}

abbrev pub blank : Node
blank = record { end = 0; first = 0; second = 0; third = 0 }

abbrev pub node_at : List Node → ℕ → Node
node_at nodes i = slice_index_or nodes i blank

-- The length of constituent l, counted from 1: 0 for one that a tree cannot have.
abbrev pub length_at : Node → ℕ → ℕ
length_at n l = cond (l == 1) n.first (cond (l == 2) n.second (cond (l == 3) n.third 0))

-- The position after k trees from a position on.
abbrev pub skipped : List Node → ℕ → ℕ → ℕ
skipped nodes from zero = from
skipped nodes from (suc k) = (node_at nodes (skipped nodes from k)).end

-- The position at which argument k, counted from 1, of the tree at i begins.
abbrev pub argument_start : List Node → ℕ → ℕ → ℕ
argument_start nodes i k = skipped nodes (suc i) (k - 1)

-- Argument k can be looked up in the table.
pub record Reached (nodes : List Node) (i k : ℕ) : Type 0 where
  pub counts : 1 ≤ k
  pub within : (j : ℕ) → j < k → skipped nodes (suc i) j < length nodes

-- What the table tells of the length of a symbol's string, in the tree at i.
abbrev pub symbol_length : List Node → ℕ → Symbol → ℕ
symbol_length nodes i (Token t) = 1
symbol_length nodes i (Argument k l) = length_at (node_at nodes (argument_start nodes i k)) l

abbrev pub SymbolReached : List Node → ℕ → Symbol → Type 0
SymbolReached nodes i (Token t) = Unit {0}
SymbolReached nodes i (Argument k l) = Reached nodes i k

-- The tree t is written from position i on, before other trees.
abbrev pub TreeAt : Grammar → List ℕ → ℕ → Tree → Type 0
TreeAt g ns i t = (rest : List Tree) × (trees_written g (drop i ns) ≡ Some (t ∷ rest))

-- Constituent l, counted from 1, of the linearization of a tree: nothing where there is none.
abbrev pub constituent_of : Grammar → Tree → ℕ → List ℕ
constituent_of g t l = unwrap_or (from_one (linearized g t) l) []

-- The greatest length that is told. Where a list of numbers in memory is shorter than this, its length compares with a
-- length as with what is told of it.
abbrev pub most_length : ℕ
most_length = 18446744073709551615

-- What is told of a length: the length, up to the greatest.
abbrev pub length_told : ℕ → ℕ
length_told n = min n most_length

-- The node tells of the tree at i where it ends, and of each of its constituents the length.
pub record NodeOf (g : Grammar) (ns : List ℕ) (i : ℕ) (n : Node) : Type 0 where
  pub tree : Tree
  pub begins : TreeAt g ns i tree
  pub ends : n.end ≡ i + length (written tree)
  pub lengths : (l : ℕ) → length_at n l ≡ length_told (length (constituent_of g tree l))

-- The table has room for the whole list, and is filled from position i on.
pub record Table (g : Grammar) (ns : List ℕ) (nodes : List Node) (i : ℕ) : Type 0 where
  pub room : length ns ≤ length nodes
  pub each : (j : ℕ) → i ≤ j → j < length ns → NodeOf g ns j (node_at nodes j)

-- What reading one more number of a list finds. Assumes nothing.
use Rattle.std.specs.Prelude.{◌≡◌, ℕ, ◌+◌, Bool, List, length, drop, Some, None, MatchBool, Option, MatchOption}
use Rattle.std.specs.List.{slice_get}
use Rattle.std.specs.Option.{option_map}
use Rattle.grammar.specs.Grammar.{Grammar, place_at, and_then}
use Rattle.grammar.specs.Trees.{Tree, Trees}
use Rattle.chart.specs.Written.{makes, all_written, taken, trees_written, start_written}
use Rattle.linearize.specs.declared.nodes.Node.{Node}
use Rattle.linearize.specs.Nodes.{TreeAt, NodeOf, Table}

-- The trees that are written from position i on.
abbrev pub TreesAt : Grammar → List ℕ → ℕ → List Tree → Type 0
TreesAt g ns i trees = trees_written g (drop i ns) ≡ Some trees

-- Whether the place at position i of the list makes the category c.
abbrev pub made_at : Grammar → List ℕ → ℕ → ℕ → Bool
made_at g ns i c = makes c (and_then (slice_get ns i) (λ p. option_map (λ h. h.result) (place_at g p)))

-- From position i on trees of the categories cs are written, up to the position r; or they are not.
pub record Taken (g : Grammar) (ns cs : List ℕ) (i : ℕ) (r : Option ℕ) : Type 0 where
  pub trees : List Tree
  pub there : TreesAt g ns i trees
  pub answer : MatchOption r (taken g cs trees ≡ None) (λ e. (x : Trees × List Tree) × (taken g cs trees ≡ Some x) × (e ≡ i + length (all_written x.0)))

-- The node of position i; or the list from there on writes no trees.
abbrev pub NodeRead : Grammar → List ℕ → ℕ → Option Node → Type 0
NodeRead g ns i r = MatchOption r (trees_written g (drop i ns) ≡ None) (NodeOf g ns i)

-- The table of the whole list, if that writes trees.
abbrev pub TableRead : Grammar → List ℕ → List Node → Bool → Type 0
TableRead g ns nodes r = MatchBool r (Table g ns nodes 0 × ((trees : List Tree) × TreesAt g ns 0 trees)) (trees_written g ns ≡ None)

-- The table of the whole list, if that writes a start tree.
abbrev pub StartRead : Grammar → List ℕ → List Node → Bool → Type 0
StartRead g ns nodes r = MatchBool r (Table g ns nodes 0 × ((t : Tree) × TreeAt g ns 0 t × (start_written g ns ≡ Some t))) (start_written g ns ≡ None)

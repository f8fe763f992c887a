-- Trees written as lists of numbers, and which tree such a list writes. Assumes nothing.
use Rattle.std.specs.Prelude.{ℕ, Bool, false, cond, List, [], ◌∷◌, ◌++◌, Some, None, Option, ◌==◌}
use Rattle.std.specs.Option.{option_map}
use Rattle.grammar.specs.Grammar.{Grammar, production_at, and_then}
use Rattle.grammar.specs.Trees.{Tree, node, Trees, none, more, string}

-- A tree is written as the numbers of its places, node before arguments, left to right.
abbrev mutual
  pub written : Tree → List ℕ
  written (node p ts) = p ∷ all_written ts

  pub all_written : Trees → List ℕ
  all_written none = []
  all_written (more t ts) = written t ++ all_written ts

-- Whether the place at a tree's head makes the category c.
abbrev pub makes : ℕ → Option ℕ → Bool
makes c None = false
makes c (Some d) = d == c

abbrev pub headed : Grammar → ℕ → Tree → Bool
headed g c (node p ts) = makes c (option_map (λ q. q.result) (production_at g p))

-- The first trees of a list, one for each category, and the trees after them.
abbrev pub taken : Grammar → List ℕ → List Tree → Option (Trees × List Tree)
taken g [] stack = Some (none, stack)
taken g (c ∷ cs) [] = None
taken g (c ∷ cs) (t ∷ stack) = cond (headed g c t) (and_then (taken g cs stack) (λ x. Some (more t x.0, x.1))) None

-- The place p takes its arguments from the list, and the tree that it makes goes before the others.
abbrev pub pushed : Grammar → ℕ → List Tree → Option (List Tree)
pushed g p stack = and_then (production_at g p) (λ q. and_then (taken g q.arguments stack) (λ x. Some (node p x.0 ∷ x.1)))

-- The trees that a list of numbers writes one after another, read from the right.
abbrev pub trees_written : Grammar → List ℕ → Option (List Tree)
trees_written g [] = Some []
trees_written g (p ∷ ns) = and_then (trees_written g ns) (pushed g p)

-- The one start tree of a list.
abbrev pub only_start : Grammar → List Tree → Option Tree
only_start g [] = None
only_start g (t ∷ []) = cond (headed g g.start t) (Some t) None
only_start g (t ∷ (u ∷ us)) = None

-- The start tree that a list of numbers writes, and its string: nothing where it writes none.
abbrev pub start_written : Grammar → List ℕ → Option Tree
start_written g ns = and_then (trees_written g ns) (only_start g)

abbrev pub string_written : Grammar → List ℕ → Option (List ℕ)
string_written g ns = option_map (string g) (start_written g ns)

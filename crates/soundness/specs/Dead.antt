-- Categories without a tree, and places that no tree can use. Assumes nothing.
use Rattle.std.specs.Prelude.{◌≡◌, ℕ, Bool, true, false, Some}
use Rattle.std.specs.List.{slice_get, AllByRecursion}
use Rattle.grammar.specs.Grammar.{Grammar, Production, production_at}
use Rattle.grammar.specs.Trees.{Tree, TreeOf}

-- The answer whether category c has a tree.
abbrev pub TreeTold : Grammar → ℕ → Bool → Type 0
TreeTold g c true = (t : Tree) × TreeOf g t c
TreeTold g c false = (t : Tree) → TreeOf g t c → ⊥

-- The answer whether place p is dead: it is filled, and some argument category has no tree.
abbrev pub DeadTold : Grammar → ℕ → Bool → Type 0
DeadTold g p true = (q : Production) × (production_at g p ≡ Some q) × ((i : ℕ) × (c : ℕ) × (slice_get q.arguments i ≡ Some c) × TreeTold g c false)
DeadTold g p false = (q : Production) → production_at g p ≡ Some q → AllByRecursion (λ c. TreeTold g c true) q.arguments

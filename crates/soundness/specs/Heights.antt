-- The least height of a tree of each category. Assumes nothing.
use Rattle.std.specs.Prelude.{◌≡◌, ℕ, ◌<◌, ◌≤◌, List, slice_index}
use Rattle.grammar.specs.Grammar.{Grammar}
use Rattle.grammar.specs.Trees.{Tree, TreeOf, height}

-- h is the least height of a tree of category c: 0 where there is no tree of it.
pub record LeastHeight (g : Grammar) (c h : ℕ) : Type 0 where
  pub none : h ≡ 0 → (t : Tree) → TreeOf g t c → ⊥
  pub some : 0 < h → (t : Tree) × TreeOf g t c × (height t ≡ h)
  pub least : 0 < h → (t : Tree) → TreeOf g t c → h ≤ height t

-- The list has the least height of a tree of each category at the category's number.
abbrev pub LeastHeights : Grammar → List ℕ → Type 0
LeastHeights g hs = (c : ℕ) → LeastHeight g c (slice_index hs c)

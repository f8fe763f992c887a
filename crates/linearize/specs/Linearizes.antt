-- What linearizing a list of place numbers answers. Assumes nothing.
use Rattle.std.specs.Prelude.{◌≡◌, ℕ, ◌<◌, ◌≤◌, ◌⊎◌, List, ◌++◌, length, drop, Ok, Err, Result, ◌≢◌}
use Rattle.grammar.specs.Grammar.{Grammar}
use Rattle.grammar.specs.Trees.{Tree, StartTree, string}
use Rattle.chart.specs.Written.{written}
use Rattle.linearize.specs.declared.refusal.Unlinearized.{Unlinearized}
use Rattle.linearize.specs.declared.refusal.Unlinearized.TheVariants.{NoTree, TooShort}

-- The most numbers that a list of places may have.
abbrev pub most_numbers : ℕ
most_numbers = 256

-- The list is short enough, and writes a start tree.
pub record Writes (g : Grammar) (ns : List ℕ) : Type 0 where
  pub few : length ns ≤ most_numbers
  pub tree : Tree
  pub start : StartTree g tree
  pub listed : written tree ≡ ns

-- The list is too long, or writes no start tree.
abbrev pub WritesNone : Grammar → List ℕ → Type 0
WritesNone g ns = (most_numbers < length ns) ⊎ ((t : Tree) → StartTree g t → written t ≢ ns)

-- Of the start tree that the list ns writes: the string stands at the front of the output, with nothing behind it altered, and
-- the answer is its length; or the string is longer than the output. Or the list writes no start tree. A refusal leaves the output
-- as it was. A list writes at most one tree, so that one answer is right (`OneAnswer`).
abbrev pub Linearizes : Grammar → List ℕ → List ℕ → List ℕ → Result ℕ Unlinearized → Type 0
Linearizes g ns before after (Ok n) =
    (w : Writes g ns) × (n ≡ length (string g w.tree)) × (n ≤ length before) × (after ≡ string g w.tree ++ drop n before)
Linearizes g ns before after (Err NoTree) = WritesNone g ns × (after ≡ before)
Linearizes g ns before after (Err TooShort) = (w : Writes g ns) × (length before < length (string g w.tree)) × (after ≡ before)

-- At most one answer is right, with one output.
abbrev pub OneAnswer : Type 0
OneAnswer = (g : Grammar) (ns before a b : List ℕ) (r s : Result ℕ Unlinearized) → Linearizes g ns before a r → Linearizes g ns before b s → (r ≡ s) × (a ≡ b)

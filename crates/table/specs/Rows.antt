-- Parts of lists of rows. Assumes nothing.
use Rattle.std.specs.Prelude.{ℕ, List, take, drop}

-- A list stops at 4,294,967,295 entries: what would come after is left out.
abbrev pub stopped : {X : Type 0} → List X → List X
stopped xs = take 4294967295 xs

-- The `count` rows from `first` on, or as many of them as there are.
abbrev pub part : {X : Type 0} → List X → ℕ → ℕ → List X
part xs first count = take count (drop first xs)

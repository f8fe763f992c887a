-- A string that is put into a list. Assumes nothing.
use Rattle.std.specs.Prelude.{◌≡◌, ℕ, ◌+◌, List, ◌++◌, length, take, drop}

-- The list has the string u from position i on, and is else as before.
abbrev pub Put : List ℕ → ℕ → List ℕ → List ℕ → Type 0
Put u i before after = after ≡ take i before ++ (u ++ drop (i + length u) before)

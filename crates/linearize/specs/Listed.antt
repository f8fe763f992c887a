-- The refusals as lists: their numbers. Assumes nothing.
use Rattle.std.specs.Prelude.{ℕ, List, [], ◌∷◌}
use Rattle.linearize.specs.declared.refusal.Unlinearized.{Unlinearized}
use Rattle.linearize.specs.declared.refusal.Unlinearized.TheVariants.{NoTree, TooShort}

abbrev pub refusal_listed : Unlinearized → List ℕ
refusal_listed NoTree = 14 ∷ []
refusal_listed TooShort = 12 ∷ []

-- What is proved of the calls: each statement is a clause of the contract of a function of this crate. Assumes nothing.
use Rattle.std.specs.Prelude.{◌≡◌, ℕ, List, length, Option, Result}
use Rattle.grammar.specs.Grammar.{Grammar}
use Rattle.cells.specs.declared.Cell.{Cell}
use Rattle.area.specs.declared.numbers.Numbers.{Numbers}
use Rattle.calls.specs.Fed.{Fed, NextListed}
use Rattle.calls.specs.Closed.{Weighed}
use Rattle.calls.specs.declared.refusal.FeedingRefusal.{FeedingRefusal}
use Rattle.calls.specs.declared.weighing_refusal.WeighingRefusal.{WeighingRefusal}

-- Feeding a token to an area has one answer, in whichever order the facts then lie.
abbrev pub OneFeeding : Type 0
OneFeeding = (g : Grammar) (w : List ℕ) (t : ℕ) (cs a b : List Cell) (r s : Result Numbers FeedingRefusal) → length a ≡ length cs → length b ≡ length cs → Fed g w t cs a r → Fed g w t cs b s → r ≡ s

-- Of a list of so many entries there is one next list, and one answer.
abbrev pub OneNextList : Type 0
OneNextList = (g : Grammar) (w : List ℕ) (old a b : List ℕ) (r s : Option ℕ) → NextListed g w old a r → NextListed g w old b s → (r ≡ s) × (a ≡ b)

-- Weighing has one answer, and leaves one list of working values.
abbrev pub OneWeighing : {A : Type 0} → A → (A → A → A) → (A → A → A) → (ℕ → A) → (A → ℕ) → Type 0
OneWeighing {A} nought plus times reads writes = (g : Grammar) (w : List ℕ) (q h : ℕ) (weights old a b : List ℕ) (r s : Result A WeighingRefusal)
    → Weighed nought plus times reads writes g w q h weights old a r → Weighed nought plus times reads writes g w q h weights old b s → (r ≡ s) × (a ≡ b)

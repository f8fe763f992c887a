-- The marked numbers as a list. Assumes nothing.
use Rattle.std.specs.Prelude.{◌≡◌, ℕ, suc, ◌<◌, ◌≤◌, Bool, true, false, ◌↔◌, List, [], ◌∷◌, ◌++◌, length, drop, Option, MatchOption, slice_index_or}
use Rattle.std.specs.List.{AllByRecursion}
use Rattle.chart.specs.Chart.{Member}

-- The numbers that are marked, where the marks count from i on.
abbrev pub marked_from : ℕ → List Bool → List ℕ
marked_from i [] = []
marked_from i (true ∷ marks) = i ∷ marked_from (suc i) marks
marked_from i (false ∷ marks) = marked_from (suc i) marks

abbrev pub marked_of : List Bool → List ℕ
marked_of marks = marked_from 0 marks

-- The numbers were written over the front of `old`, and are that many; or they are more than `old` holds, and nothing was written.
abbrev pub Listed : List ℕ → List ℕ → List ℕ → Option ℕ → Type 0
Listed numbers old new r = MatchOption r ((length old < length numbers) × (new ≡ old)) (λ n. (n ≡ length numbers) × (n ≤ length old) × (new ≡ numbers ++ drop n old))

-- Each number is below all that come after it.
abbrev pub Ascending : List ℕ → Type 0
Ascending [] = Unit {0}
Ascending (n ∷ numbers) = AllByRecursion (λ m. n < m) numbers × Ascending numbers

abbrev pub MarkedAreTheMarks : Type 0
MarkedAreTheMarks = (marks : List Bool) → ((t : ℕ) → Member t (marked_of marks) ↔ (slice_index_or marks t false ≡ true)) × Ascending (marked_of marks)

-- What is promised of a note that is opened, fed a list of tokens, closed and weighed by single calls. Assumes nothing.
use Rattle.std.specs.Prelude.{◌≡◌, ℕ, ◌<◌, ◌≤◌, List, [], ◌∷◌, ◌++◌, length, take, slice_index, Ok, Err, Result}
use Rattle.grammar.specs.Grammar.{Grammar}
use Rattle.chart.specs.Chart.{CellsInUse, Bound}
use Rattle.calls.specs.Fed.{Feedable}
use Rattle.calls.specs.Closed.{Low, Weighed}
use Rattle.calls.specs.declared.refusal.FeedingRefusal.{FeedingRefusal}
use Rattle.calls.specs.declared.weighing_refusal.WeighingRefusal.{WeighingRefusal}
use Rattle.note.specs.Promises.{OpeningRefused, Openable, NotFed}
use Rattle.misuse.specs.declared.unweighed.Unweighed.{Unweighed}
use Rattle.misuse.specs.declared.unweighed.Unweighed.TheVariants as unweighed

-- The token t is accepted after w, in an area of so many cells: it may be fed, and the cells in use are then no more.
abbrev pub AcceptedAfter : Grammar → ℕ → List ℕ → ℕ → Type 0
AcceptedAfter g len w t = Feedable g w t × (used : ℕ) × CellsInUse g (w ++ (t ∷ [])) used × (used ≤ len)

-- The first n of the tokens are accepted, each after the ones before it.
abbrev pub AcceptedTo : Grammar → ℕ → List ℕ → ℕ → Type 0
AcceptedTo g len tokens n = (i : ℕ) → i < n → AcceptedAfter g len (take i tokens) (slice_index tokens i)

-- The first n of the tokens are accepted, and the next one is refused after them, for the first reason that there is.
pub record RefusedAt (g : Grammar) (len : ℕ) (tokens : List ℕ) (n : ℕ) (r : FeedingRefusal) : Type 0 where
  pub below : n < length tokens
  pub accepted : AcceptedTo g len tokens n
  pub refused : NotFed g (take n tokens) (slice_index tokens n) len r

-- The grammar g is opened, all the tokens are accepted, and the closed note has the bound q, which some start tree keeps to where they
-- are complete; the weighing answers r.
abbrev pub ClosedNoteWeighed : {A : Type 0} → A → (A → A → A) → (A → A → A) → (ℕ → A) → (A → ℕ) → Grammar → ℕ → List ℕ → ℕ → List ℕ → List ℕ → List ℕ → Result A WeighingRefusal → Type 0
ClosedNoteWeighed nought plus times reads writes g len tokens h weights old new r =
    Openable g len
    × AcceptedTo g len tokens (length tokens)
    × (q : ℕ)
    × Bound g tokens q
    × Low g tokens q
    × Weighed nought plus times reads writes g tokens q h weights old new r

-- In an area of so many cells: the sum over the start trees of g of height at most h whose string is the tokens, with 2q working values
-- set to the algebra's zero; or the first reason why there is none, and the working values are as they were. The grammar is not opened;
-- or it is, and one of the tokens is refused after the ones before it; or all are accepted, and the weighing is refused.
abbrev pub NoteWeighed : {A : Type 0} → A → (A → A → A) → (A → A → A) → (ℕ → A) → (A → ℕ) → Grammar → ℕ → List ℕ → ℕ → List ℕ → List ℕ → List ℕ → Result A Unweighed → Type 0
NoteWeighed nought plus times reads writes g len tokens h weights old new (Ok v) = ClosedNoteWeighed nought plus times reads writes g len tokens h weights old new (Ok v)
NoteWeighed nought plus times reads writes g len tokens h weights old new (Err (unweighed.Opening f)) = OpeningRefused g len f × (new ≡ old)
NoteWeighed nought plus times reads writes g len tokens h weights old new (Err (unweighed.Feeding r)) = Openable g len × ((n : ℕ) × RefusedAt g len tokens n r) × (new ≡ old)
NoteWeighed nought plus times reads writes g len tokens h weights old new (Err (unweighed.Weighing r)) = ClosedNoteWeighed nought plus times reads writes g len tokens h weights old new (Err r)

-- What a note promises, from opening to weighing, in the words of trees and their strings, with the definitions that it names: first each
-- single call, and at the end the whole of a note in one. The verdict decides `Complete`, linearizing is `Linearizes`, weighing `Weighed`,
-- and the calls that end a note hand back its area with zero cells alone. Assumes nothing.
use Rattle.std.specs.Prelude.{◌≡◌, ℕ, ◌<◌, ◌≤◌, ◌↔◌, List, [], ◌∷◌, ◌++◌, length, slice_index, drop, Ok, Err, Result, Decides}
use Rattle.std.specs.Borrow.{MutBor}
use Rattle.std.specs.Result.{result_map_both}
use Rattle.grammar.specs.Grammar.{Grammar}
use Rattle.grammar.specs.Trees.{Tree, StartTree, Complete, GoesOn, string}
use Rattle.faults.specs.Sound.{Sound}
use Rattle.soundness.specs.Opening.{Refused}
use Rattle.chart.specs.Chart.{Member, CellsInUse, Bound}
use Rattle.records.specs.Kinds.{fault_listed}
use Rattle.records.specs.Records.{entries_from, reading}
use Rattle.records.specs.Meaning.{grammar_of}
use Rattle.cells.specs.declared.Cell.{Cell}
use Rattle.frontier.specs.Listing.{Ascending}
use Rattle.linearize.specs.Linearizes.{Writes, WritesNone}
use Rattle.linearize.specs.declared.refusal.Unlinearized.{Unlinearized}
use Rattle.linearize.specs.declared.refusal.Unlinearized.TheVariants as unlinearized
use Rattle.area.specs.declared.numbers.Numbers.{Numbers}
use Rattle.area.specs.declared.fault.OpeningFault.{OpeningFault}
use Rattle.area.specs.declared.fault.OpeningFault.TheVariants as opening
use Rattle.area.specs.FaultNumbers.{opening_number}
use Rattle.area.specs.Held.{Held, TooFew, AllZero, most_tokens, Unmoved}
use Rattle.calls.specs.Fed.{Feedable}
use Rattle.calls.specs.Closed.{Closes, Low, Weighed}
use Rattle.calls.specs.declared.closed.Closing.{Closing}
use Rattle.calls.specs.declared.refusal.FeedingRefusal.{FeedingRefusal}
use Rattle.calls.specs.declared.refusal.FeedingRefusal.TheVariants as feeding
use Rattle.note.specs.declared.accepted.Accepted.{Accepted}
use Rattle.note.specs.declared.loading.LoadingFault.{LoadingFault}
use Rattle.note.specs.declared.loading.LoadingFault.TheVariants as loading
use Rattle.note.specs.declared.question.Question.{Question}
use Rattle.note.specs.declared.question.Question.TheVariants as question
use Rattle.note.specs.declared.question.Answer.{Answer}
use Rattle.note.specs.declared.question.Answer.TheVariants as answer
use Rattle.note.specs.declared.short_list.ListTooShort.{ListTooShort}
use Rattle.note.specs.declared.whole.Told.{Told}
use Rattle.note.specs.declared.whole.RunFault.{RunFault}
use Rattle.note.specs.declared.whole.RunFault.TheVariants as run

-- Opening: a check, and then a making.

-- Why an area of so many cells is not opened with the grammar g: its first fault, or that it has no start tree; or the cells in use
-- would be more.
abbrev pub OpeningRefused : Grammar → ℕ → OpeningFault → Type 0
OpeningRefused g len (opening.Unsound f) = Refused g f
OpeningRefused g len opening.TooShort = Sound g × ((t : Tree) × StartTree g t) × TooFew g [] len

-- The check was accepted for what these cells hold: the grammar g and no token, in so many cells.
pub record AcceptedAs (g : Grammar) (cs : List Cell) (a : Accepted) : Type 0 where
  pub held : Held g [] cs a.numbers
  pub tree : (t : Tree) × StartTree g t
  pub used : CellsInUse g [] a.used
  pub fits : a.used ≤ length cs

-- The same of some grammar: what the making of a note asks.
abbrev pub AcceptedFor : List Cell → Accepted → Type 0
AcceptedFor cs a = (g : Grammar) × AcceptedAs g cs a

-- The check: accepted for what the cells then hold; or refused, and every cell is zero.
abbrev pub Checked : Grammar → List Cell → Result Accepted OpeningFault → Type 0
Checked g cs (Ok a) = AcceptedAs g cs a
Checked g cs (Err f) = OpeningRefused g (length cs) f × AllZero cs

-- Loading: the bytes are records one after another, and the grammar that they spell is accepted; or it is refused. A file that is no
-- row of records is refused with the first fault of reading it, whole. Refused, every cell is zero.
abbrev pub Loads : List ℕ → List Cell → Result Accepted LoadingFault → Type 0
Loads bs cs (Ok a) = (reading bs ≡ Ok (entries_from bs 0)) × AcceptedAs (grammar_of (entries_from bs 0)) cs a
Loads bs cs (Err (loading.Reading f)) = (reading bs ≡ Err (fault_listed f)) × AllZero cs
Loads bs cs (Err (loading.Opening f)) = (reading bs ≡ Ok (entries_from bs 0)) × OpeningRefused (grammar_of (entries_from bs 0)) (length cs) f × AllZero cs

-- A fault of reading has its own number, 1 to 3, and an opening's its own, 4 to 8.
abbrev pub loading_number : LoadingFault → ℕ
loading_number (loading.Reading f) = slice_index (fault_listed f) 0
loading_number (loading.Opening f) = opening_number f

-- The open note.

-- An open note: the area that was lent to it, and its numbers.
pub record OpenState : Type 0 where
  pub area : MutBor (List Cell)
  pub numbers : Numbers

-- The note reads by the grammar g, and w are the tokens that it accepted.
abbrev pub Holds : Grammar → List ℕ → OpenState → Type 0
Holds g w note = Held g w note.area.now note.numbers

-- A note that was made of an area for which a check was accepted.
pub record Made (lent : MutBor (List Cell)) (a : Accepted) (note : OpenState) : Type 0 where
  pub area : note.area.ghost_name ≡ lent.ghost_name
  pub cells : note.area.now ≡ lent.now
  pub numbers : note.numbers ≡ a.numbers

-- Why the token t is not fed after w, in an area of so many cells: the first reason that there is.
abbrev pub NotFed : Grammar → List ℕ → ℕ → ℕ → FeedingRefusal → Type 0
NotFed g w t len feeding.UnknownToken = g.tokens ≤ t
NotFed g w t len feeding.FullNote = (t < g.tokens) × (most_tokens ≤ length w)
NotFed g w t len feeding.NoTree = (t < g.tokens) × (length w < most_tokens) × (GoesOn g w t → ⊥)
NotFed g w t len feeding.TooShort = Feedable g w t × TooFew g (w ++ (t ∷ [])) len

-- The note is as it was.
abbrev pub Same : OpenState → OpenState → Type 0
Same old new = (new.area.now ≡ old.area.now) × (new.numbers ≡ old.numbers)

-- Feeding t after w: the note then holds w with t, in so many cells, and nothing that stood in its area moved; or it is refused, and the
-- note is as it was.
abbrev pub FedTo : Grammar → List ℕ → ℕ → OpenState → OpenState → Result ℕ FeedingRefusal → Type 0
FedTo g w t old new (Ok used) = Feedable g w t × Holds g (w ++ (t ∷ [])) new × CellsInUse g (w ++ (t ∷ [])) used × (used ≤ length new.area.now) × Unmoved old.area.now new.area.now
FedTo g w t old new (Err r) = NotFed g w t (length old.area.now) r × Same old new

-- The tokens with which some start tree's string goes on from w, ascending, each once.
pub record NextAre (g : Grammar) (w : List ℕ) (tokens : List ℕ) : Type 0 where
  pub ascending : Ascending tokens
  pub exactly : (t : ℕ) → Member t tokens ↔ GoesOn g w t

-- The next list after w: these tokens over the front of the list, and how many they are; or they are more than it has entries, and it
-- is as it was.
abbrev pub NextTold : Grammar → List ℕ → List ℕ → List ℕ → Result ℕ ListTooShort → Type 0
NextTold g w old new (Ok n) = (tokens : List ℕ) × NextAre g w tokens × (n ≡ length tokens) × (n ≤ length old) × (new ≡ tokens ++ drop n old)
NextTold g w old new (Err r) = (tokens : List ℕ) × NextAre g w tokens × (length old < length tokens) × (new ≡ old)

-- The closed note.

-- A closed note: its area, its numbers, and what closing answered.
pub record ClosedState : Type 0 where
  pub area : MutBor (List Cell)
  pub numbers : Numbers
  pub closing : Closing

-- The closed note reads by g, and w are its tokens; it has the bound q, which some start tree of a complete note keeps to.
abbrev pub HoldsClosed : Grammar → List ℕ → ClosedState → Type 0
HoldsClosed g w note = Closes g w note.area.now note.numbers note.closing

-- What a closed note's area and numbers always are.
abbrev pub InClosed : List Cell → Numbers → Closing → Type 0
InClosed cs n c = (g : Grammar) × (w : List ℕ) × Closes g w cs n c

-- The whole.

-- Feeding t after w in an area of so many cells: t joins w, and the cells in use then are told; or it is refused, and w stays. The
-- tokens then are v.
abbrev pub FeedAnswered : Grammar → ℕ → List ℕ → ℕ → Result ℕ FeedingRefusal → List ℕ → Type 0
FeedAnswered g len w t (Ok used) v = Feedable g w t × (v ≡ w ++ (t ∷ [])) × CellsInUse g v used × (used ≤ len)
FeedAnswered g len w t (Err r) v = NotFed g w t len r × (v ≡ w)

-- They are told; or they are more than there is room for.
abbrev pub NextAnswered : Grammar → List ℕ → ℕ → Result (List ℕ) ListTooShort → Type 0
NextAnswered g w room (Ok tokens) = NextAre g w tokens × (length tokens ≤ room)
NextAnswered g w room (Err r) = (tokens : List ℕ) × NextAre g w tokens × (room < length tokens)

-- The string of the start tree that the list of places writes; or it writes none, or there is too little room for its string.
abbrev pub LinearizedAnswered : Grammar → List ℕ → ℕ → Result (List ℕ) Unlinearized → Type 0
LinearizedAnswered g ns room (Ok u) = (x : Writes g ns) × (u ≡ string g x.tree) × (length u ≤ room)
LinearizedAnswered g ns room (Err unlinearized.NoTree) = WritesNone g ns
LinearizedAnswered g ns room (Err unlinearized.TooShort) = (x : Writes g ns) × (room < length (string g x.tree))

-- One question to an open note in an area of so many cells, with the tokens before it (w) and after it (v).
abbrev pub Answered : Grammar → ℕ → List ℕ → Question → Answer → List ℕ → Type 0
Answered g len w (question.Feed t) (answer.Fed r) v = FeedAnswered g len w t r v
Answered g len w (question.Next room) (answer.Next r) v = NextAnswered g w room (result_map_both (λ l. l.items) (λ e. e) r) × (v ≡ w)
Answered g len w question.Verdict (answer.Verdict b) v = Decides b (Complete g w) × (v ≡ w)
Answered g len w (question.Linearize ns room) (answer.Linearized r) v = LinearizedAnswered g ns.now room (result_map_both (λ l. l.items) (λ e. e) r) × (v ≡ w)
Answered g len w _ _ v = ⊥

-- Questions one after another: each is answered, by the tokens that the ones before it left.
abbrev pub AllAnswered : Grammar → ℕ → List ℕ → List Question → List Answer → List ℕ → Type 0
AllAnswered g len w [] [] v = v ≡ w
AllAnswered g len w [] (a ∷ more) v = ⊥
AllAnswered g len w (q ∷ qs) [] v = ⊥
AllAnswered g len w (q ∷ qs) (a ∷ more) v = (u : List ℕ) × Answered g len w q a u × AllAnswered g len u qs more v

-- The area was opened with g: it holds g and no token, and g has a start tree.
abbrev pub OpenedFor : Grammar → List Cell → Numbers → Type 0
OpenedFor g cs n = Held g [] cs n × ((t : Tree) × StartTree g t)

-- What a run tells, of the grammar g, which is sound and has a start tree, in an area of so many cells: the cells in use for no tokens; the answers, which leave the
-- tokens w; the bound q, which some start tree keeps to where w is complete; and the sum to the depth h over the start trees whose
-- string is w, or why w is not weighed.
abbrev pub ToldOf : {A : Type 0} → A → (A → A → A) → (A → A → A) → (ℕ → A) → (A → ℕ) → Grammar → ℕ → List Question → ℕ → List ℕ → List ℕ → List ℕ → Told A → Type 0
ToldOf nought plus times reads writes g len questions h weights old new told =
    Sound g
    × ((t : Tree) × StartTree g t)
    × CellsInUse g [] told.opened
    × (told.opened ≤ len)
    × (w : List ℕ)
    × AllAnswered g len [] questions told.answers.items w
    × Bound g w told.bound
    × Low g w told.bound
    × Weighed nought plus times reads writes g w told.bound h weights old new told.sum

-- An area of so many cells is opened with g: g is sound and has a start tree, and the cells in use for no tokens are no more.
abbrev pub Openable : Grammar → ℕ → Type 0
Openable g len = Sound g × ((t : Tree) × StartTree g t) × (used : ℕ) × CellsInUse g [] used × (used ≤ len)

-- A run tells this; or the grammar is not opened; or it can be, but there is no memory for the answers. Refused, the working values are
-- as they were.
abbrev pub Runs : {A : Type 0} → A → (A → A → A) → (A → A → A) → (ℕ → A) → (A → ℕ) → Grammar → ℕ → List Question → ℕ → List ℕ → List ℕ → List ℕ → Result (Told A) RunFault → Type 0
Runs nought plus times reads writes g len questions h weights old new (Ok told) = ToldOf nought plus times reads writes g len questions h weights old new told
Runs nought plus times reads writes g len questions h weights old new (Err (run.Opening f)) = OpeningRefused g len f × (new ≡ old)
Runs nought plus times reads writes g len questions h weights old new (Err run.NoMemory) = Openable g len × (new ≡ old)

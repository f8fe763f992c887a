-- What a note holds after the making, that it accepted a token more, and what is told of its weighing.
use Rattle.std.proofs.Common.{◌≡◌, ℕ, ◌+◌, List, [], length, take, slice_index, Ok, Err, Result, below_more}
use Rattle.std.specs.Borrow.{MutBor}
use Rattle.std.specs.Result.{MatchResult, IsErrAnd}
use Rattle.grammar.specs.Grammar.{Grammar}
use Rattle.cells.specs.declared.Cell.{Cell}
use Rattle.calls.specs.declared.weighing_refusal.WeighingRefusal.{WeighingRefusal}
use Rattle.note.specs.declared.accepted.Accepted.{Accepted}
use Rattle.note.specs.Promises.{AcceptedAs, Openable, Made, OpenState, Holds}
use Rattle.misuse.specs.declared.unweighed.Unweighed.{Unweighed}
use Rattle.misuse.specs.declared.unweighed.Unweighed.TheVariants.{Weighing}
use Rattle.misuse.specs.WeighedNote.{AcceptedAfter, AcceptedTo, ClosedNoteWeighed, NoteWeighed}

pub made_holds : (g : Grammar) (lent : MutBor (List Cell)) (a : Accepted) (note : OpenState) → AcceptedAs g lent.now a → Made lent a note → Holds g [] note
made_holds g lent a note k m = rw (m.cells, m.numbers) k.held

-- an area for which a check was accepted
pub accepted_openable : (g : Grammar) (cs : List Cell) (a : Accepted) → AcceptedAs g cs a → Openable g (length cs)
accepted_openable g cs a k = (k.held.sound, k.tree, a.used, k.used, k.fits)

-- a token more
pub accepted_more : (g : Grammar) (len : ℕ) (tokens : List ℕ) (n : ℕ) → AcceptedTo g len tokens n → AcceptedAfter g len (take n tokens) (slice_index tokens n) → AcceptedTo g len tokens (n + 1)
accepted_more g len tokens n before here = below_more (λ (i : ℕ). AcceptedAfter g len (take i tokens) (slice_index tokens i)) n before here

-- a weighing's answer, as the answer of the whole
pub weighed_told : {A : Type 0} (nought : A) (plus times : A → A → A) (reads : ℕ → A) (writes : A → ℕ) (g : Grammar) (len : ℕ) (tokens : List ℕ) (h : ℕ) (weights old new : List ℕ) (r : Result A WeighingRefusal) (told : Result A Unweighed)
    → ClosedNoteWeighed nought plus times reads writes g len tokens h weights old new r
    → MatchResult r (λ v. told ≡ Ok v) (λ e. IsErrAnd told (λ d. d ≡ Weighing e))
    → NoteWeighed nought plus times reads writes g len tokens h weights old new told
weighed_told nought plus times reads writes g len tokens h weights old new (Ok v) told k is = rw is k
weighed_told nought plus times reads writes g len tokens h weights old new (Err e) (Ok v) k is = absurd is
weighed_told nought plus times reads writes g len tokens h weights old new (Err e) (Err d) k is = rw is k

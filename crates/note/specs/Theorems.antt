-- What is proved of the calls of a note: that each has one answer, and a run one outcome, but for the want of memory. Assumes nothing.
use Rattle.std.specs.Prelude.{◌≡◌, ℕ, List, [], ◌∷◌, length, Ok, Err, Result}
use Rattle.std.specs.Result.{result_map_both}
use Rattle.grammar.specs.Grammar.{Grammar}
use Rattle.cells.specs.declared.Cell.{Cell}
use Rattle.area.specs.declared.fault.OpeningFault.{OpeningFault}
use Rattle.calls.specs.declared.refusal.FeedingRefusal.{FeedingRefusal}
use Rattle.note.specs.declared.accepted.Accepted.{Accepted}
use Rattle.note.specs.declared.short_list.ListTooShort.{ListTooShort}
use Rattle.note.specs.declared.question.Question.{Question}
use Rattle.note.specs.declared.question.Answer.{Answer}
use Rattle.note.specs.declared.question.Answer.TheVariants as answer
use Rattle.note.specs.declared.whole.Told.{Told}
use Rattle.note.specs.declared.whole.RunFault.{RunFault}
use Rattle.note.specs.declared.whole.RunFault.TheVariants as run
use Rattle.note.specs.Promises.{Checked, OpenState, FedTo, NextTold, Runs}

-- Areas of one length that are checked for one grammar get one answer.
abbrev pub OneCheck : Type 0
OneCheck = (g : Grammar) (cs ds : List Cell) (r s : Result Accepted OpeningFault) → length cs ≡ length ds → Checked g cs r → Checked g ds s → r ≡ s

-- Feeding has one answer, in whichever order the facts then lie in the area, which is as long as it was.
abbrev pub OneFeeding : Type 0
OneFeeding = (g : Grammar) (w : List ℕ) (t : ℕ) (old a b : OpenState) (r s : Result ℕ FeedingRefusal) → length a.area.now ≡ length old.area.now → length b.area.now ≡ length old.area.now
    → FedTo g w t old a r → FedTo g w t old b s → r ≡ s

-- There is one next list, and one answer.
abbrev pub OneNextList : Type 0
OneNextList = (g : Grammar) (w : List ℕ) (old a b : List ℕ) (r s : Result ℕ ListTooShort) → NextTold g w old a r → NextTold g w old b s → (r ≡ s) × (a ≡ b)

-- The same is answered: lists in memory are the same where they hold the same numbers.
abbrev pub SameAnswer : Answer → Answer → Type 0
SameAnswer (answer.Fed r) (answer.Fed s) = r ≡ s
SameAnswer (answer.Next r) (answer.Next s) = result_map_both (λ l. l.items) (λ e. e) r ≡ result_map_both (λ l. l.items) (λ e. e) s
SameAnswer (answer.Verdict b) (answer.Verdict c) = b ≡ c
SameAnswer (answer.Linearized r) (answer.Linearized s) = result_map_both (λ l. l.items) (λ e. e) r ≡ result_map_both (λ l. l.items) (λ e. e) s
SameAnswer _ _ = ⊥

-- One after another.
abbrev pub SameAnswers : List Answer → List Answer → Type 0
SameAnswers [] [] = Unit {0}
SameAnswers [] (b ∷ more) = ⊥
SameAnswers (a ∷ more) [] = ⊥
SameAnswers (a ∷ more) (b ∷ others) = SameAnswer a b × SameAnswers more others

-- The same is told.
pub record SameTold {A : Type 0} (x y : Told A) : Type 0 where
  pub opened : x.opened ≡ y.opened
  pub answers : SameAnswers x.answers.items y.answers.items
  pub bound : x.bound ≡ y.bound
  pub sum : x.sum ≡ y.sum

-- Two outcomes, with the working values that each leaves: the same is told, or the grammar is not opened for the same reason; and the
-- working values are the same. Where one is that there was no memory, the other may tell, but not refuse the grammar.
abbrev pub SameRun : {A : Type 0} → List ℕ → List ℕ → Result (Told A) RunFault → Result (Told A) RunFault → Type 0
SameRun a b (Ok x) (Ok y) = SameTold x y × (a ≡ b)
SameRun a b (Ok x) (Err (run.Opening f)) = ⊥
SameRun a b (Ok x) (Err run.NoMemory) = Unit {0}
SameRun a b (Err (run.Opening f)) (Ok y) = ⊥
SameRun a b (Err (run.Opening f)) (Err (run.Opening h)) = (f ≡ h) × (a ≡ b)
SameRun a b (Err (run.Opening f)) (Err run.NoMemory) = ⊥
SameRun a b (Err run.NoMemory) (Ok y) = Unit {0}
SameRun a b (Err run.NoMemory) (Err (run.Opening f)) = ⊥
SameRun a b (Err run.NoMemory) (Err run.NoMemory) = a ≡ b

abbrev pub OneRun : {A : Type 0} → A → (A → A → A) → (A → A → A) → (ℕ → A) → (A → ℕ) → Type 0
OneRun {A} nought plus times reads writes = (g : Grammar) (len : ℕ) (questions : List Question) (h : ℕ) (weights old a b : List ℕ) (r s : Result (Told A) RunFault)
    → Runs nought plus times reads writes g len questions h weights old a r → Runs nought plus times reads writes g len questions h weights old b s → SameRun a b r s

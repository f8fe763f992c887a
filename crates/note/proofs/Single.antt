-- Each call of a note has one answer (`one_check`, `one_feeding`, `one_next_list`), and a run one outcome, but for the want of memory
-- (`one_run`).
use Rattle.std.proofs.Common.{◌≡◌, ℕ, ◌+◌, ◌<◌, ◌≤◌, Bool, true, false, List, [], ◌∷◌, ◌++◌, length, drop, Ok, Err, Result, Decides, sym, refl, ap, ◌∙◌, subst, arith}
use Rattle.std.specs.Result.{result_map_both}
use Rattle.grammar.specs.Grammar.{Grammar}
use Rattle.grammar.specs.Trees.{Tree, StartTree, Complete, string}
use Rattle.faults.specs.Sound.{Sound}
use Rattle.faults.specs.declared.refusal.Fault.{Fault}
use Rattle.chart.specs.Chart.{CellsInUse, Bound}
use Rattle.chart.proofs.Counting.{cells_one, bound_one}
use Rattle.cells.specs.declared.Cell.{Cell}
use Rattle.linearize.specs.declared.refusal.Unlinearized.{Unlinearized}
use Rattle.linearize.specs.declared.refusal.Unlinearized.TheVariants.{NoTree, TooShort}
use Rattle.linearize.proofs.Once.{one_string, not_both}
use Rattle.area.specs.declared.fault.OpeningFault.{OpeningFault}
use Rattle.area.specs.declared.fault.OpeningFault.TheVariants as opening
use Rattle.area.specs.declared.numbers.Numbers.{Numbers}
use Rattle.area.proofs.Single.{one_numbers, one_refusal, not_refused, not_short}
use Rattle.calls.specs.Closed.{Weighed}
use Rattle.calls.specs.declared.refusal.FeedingRefusal.{FeedingRefusal}
use Rattle.calls.proofs.Single.{one_reason, fed_or_not, one_next, one_weighing}
use Rattle.note.specs.declared.accepted.Accepted.{Accepted}
use Rattle.note.specs.declared.short_list.ListTooShort.{ListTooShort}
use Rattle.note.specs.declared.question.Question.{Question}
use Rattle.note.specs.declared.question.Question.TheVariants as question
use Rattle.note.specs.declared.question.Answer.{Answer}
use Rattle.note.specs.declared.question.Answer.TheVariants as answer
use Rattle.note.specs.declared.whole.Told.{Told}
use Rattle.note.specs.declared.whole.RunFault.{RunFault}
use Rattle.note.specs.declared.whole.RunFault.TheVariants as run
use Rattle.note.specs.Promises.{OpeningRefused, AcceptedAs, Checked, OpenState, FedTo, NextTold, FeedAnswered, NextAnswered, LinearizedAnswered, Answered, AllAnswered, ToldOf, Runs}
use Rattle.note.specs.Theorems.{OneCheck, OneFeeding, OneNextList, SameAnswer, SameAnswers, SameTold, SameRun, OneRun}

one_fed : (g : Grammar) (len : ℕ) (w : List ℕ) (t : ℕ) (r s : Result ℕ FeedingRefusal) (u v : List ℕ) → FeedAnswered g len w t r u → FeedAnswered g len w t s v → (r ≡ s) × (u ≡ v)
one_fed g len w t (Ok m) (Ok n) u v p q =
    let e : u ≡ v = p.1 ∙ sym q.1 in
    (ap Ok (cells_one g v m n (subst (λ (x : List ℕ). CellsInUse g x m) e p.2) q.2), e)
one_fed g len w t (Ok m) (Err s) u v p q = absurd (fed_or_not g w t len m p.0 (subst (λ (x : List ℕ). CellsInUse g x m) p.1 p.2) p.3 s q.0)
one_fed g len w t (Err r) (Ok n) u v p q = absurd (fed_or_not g w t len n q.0 (subst (λ (x : List ℕ). CellsInUse g x n) q.1 q.2) q.3 r p.0)
one_fed g len w t (Err r) (Err s) u v p q = (ap Err (one_reason g w t len r s p.0 q.0), p.1 ∙ sym q.1)

one_list : (g : Grammar) (w : List ℕ) (room : ℕ) (r s : Result (List ℕ) ListTooShort) → NextAnswered g w room r → NextAnswered g w room s → r ≡ s
one_list g w room (Ok a) (Ok b) p q = ap Ok (one_next g w a b p.0.ascending q.0.ascending p.0.exactly q.0.exactly)
one_list g w room (Ok a) (Err s) p q = absurd (omega (arith, p.1, q.2, ap length (one_next g w a q.0 p.0.ascending q.1.ascending p.0.exactly q.1.exactly)))
one_list g w room (Err r) (Ok b) p q = absurd (omega (arith, q.1, p.2, ap length (one_next g w b p.0 q.0.ascending p.1.ascending q.0.exactly p.1.exactly)))
one_list g w room (Err r) (Err s) p q = refl

one_linearized : (g : Grammar) (ns : List ℕ) (room : ℕ) (r s : Result (List ℕ) Unlinearized) → LinearizedAnswered g ns room r → LinearizedAnswered g ns room s → r ≡ s
one_linearized g ns room (Ok a) (Ok b) p q = ap Ok (p.1 ∙ (one_string g ns p.0 q.0 ∙ sym q.1))
one_linearized g ns room (Ok a) (Err NoTree) p q = absurd (not_both g ns p.0 q)
one_linearized g ns room (Ok a) (Err TooShort) p q = absurd (omega (arith, p.2, q.1, ap length p.1, ap length (one_string g ns p.0 q.0)))
one_linearized g ns room (Err NoTree) (Ok b) p q = absurd (not_both g ns q.0 p)
one_linearized g ns room (Err NoTree) (Err NoTree) p q = refl
one_linearized g ns room (Err NoTree) (Err TooShort) p q = absurd (not_both g ns q.0 p)
one_linearized g ns room (Err TooShort) (Ok b) p q = absurd (omega (arith, q.2, p.1, ap length q.1, ap length (one_string g ns p.0 q.0)))
one_linearized g ns room (Err TooShort) (Err NoTree) p q = absurd (not_both g ns p.0 q)
one_linearized g ns room (Err TooShort) (Err TooShort) p q = refl

one_verdict : (P : Type 0) (b c : Bool) → Decides b P → Decides c P → b ≡ c
one_verdict P true true p q = refl
one_verdict P true false p q = sym (q.1 (p.0 refl))
one_verdict P false true p q = p.1 (q.0 refl)
one_verdict P false false p q = refl

one_answer : (g : Grammar) (len : ℕ) (w : List ℕ) (x : Question) (a b : Answer) (u v : List ℕ) → Answered g len w x a u → Answered g len w x b v → SameAnswer a b × (u ≡ v)
one_answer g len w (question.Feed t) (answer.Fed r) (answer.Fed s) u v p q = one_fed g len w t r s u v p q
one_answer g len w (question.Next room) (answer.Next r) (answer.Next s) u v p q = (one_list g w room (result_map_both (λ l. l.items) (λ e. e) r) (result_map_both (λ l. l.items) (λ e. e) s) p.0 q.0, p.1 ∙ sym q.1)
one_answer g len w question.Verdict (answer.Verdict b) (answer.Verdict c) u v p q = (one_verdict (Complete g w) b c p.0 q.0, p.1 ∙ sym q.1)
one_answer g len w (question.Linearize ns room) (answer.Linearized r) (answer.Linearized s) u v p q =
    (one_linearized g ns.now room (result_map_both (λ l. l.items) (λ e. e) r) (result_map_both (λ l. l.items) (λ e. e) s) p.0 q.0, p.1 ∙ sym q.1)
one_answer g len w (question.Feed t) (answer.Fed r) b u v p q = absurd q
one_answer g len w (question.Next room) (answer.Next r) b u v p q = absurd q
one_answer g len w question.Verdict (answer.Verdict c) b u v p q = absurd q
one_answer g len w (question.Linearize ns room) (answer.Linearized r) b u v p q = absurd q
one_answer g len w (question.Feed t) a b u v p q = absurd p
one_answer g len w (question.Next room) a b u v p q = absurd p
one_answer g len w question.Verdict a b u v p q = absurd p
one_answer g len w (question.Linearize ns room) a b u v p q = absurd p

one_answers : (g : Grammar) (len : ℕ) (w : List ℕ) (xs : List Question) (told bs : List Answer) (u v : List ℕ) → AllAnswered g len w xs told u → AllAnswered g len w xs bs v → SameAnswers told bs × (u ≡ v)
one_answers g len w [] [] [] u v p q = (tt, p ∙ sym q)
one_answers g len w [] [] (b ∷ others) u v p q = absurd q
one_answers g len w [] (a ∷ more) bs u v p q = absurd p
one_answers g len w (x ∷ xs) [] bs u v p q = absurd p
one_answers g len w (x ∷ xs) (a ∷ more) [] u v p q = absurd q
one_answers g len w (x ∷ xs) (a ∷ more) (b ∷ others) u v p q =
    let here = one_answer g len w x a b p.0 q.0 p.1 q.1 in
    let rest = one_answers g len q.0 xs more others u v (subst (λ (z : List ℕ). AllAnswered g len z xs more u) here.1 p.2) q.2 in
    ((here.0, rest.0), rest.1)

-- one reason not to open
one_fault : (g : Grammar) (len : ℕ) (e f : OpeningFault) → OpeningRefused g len e → OpeningRefused g len f → e ≡ f
one_fault g len (opening.Unsound e) (opening.Unsound f) p q = ap opening.Unsound (one_refusal g e f p q)
one_fault g len (opening.Unsound e) opening.TooShort p q = absurd (not_refused g q.0 q.1 e p)
one_fault g len opening.TooShort (opening.Unsound f) p q = absurd (not_refused g p.0 p.1 f q)
one_fault g len opening.TooShort opening.TooShort p q = refl

-- what can be opened is not refused
opened_or_not : (g : Grammar) (len n : ℕ) → Sound g → (t : Tree) × StartTree g t → CellsInUse g [] n → n ≤ len → (f : OpeningFault) → OpeningRefused g len f → ⊥
opened_or_not g len n s t k le (opening.Unsound f) r = not_refused g s t f r
opened_or_not g len n s t k le opening.TooShort r = not_short g [] len n k le r.2

one_accepted : (g : Grammar) (cs ds : List Cell) (a b : Accepted) → AcceptedAs g cs a → AcceptedAs g ds b → a ≡ b
one_accepted g cs ds a b p q =
    let numbers : a.numbers ≡ b.numbers = one_numbers g [] cs ds a.numbers b.numbers p.held q.held in
    let used : a.used ≡ b.used = cells_one g [] a.used b.used p.used q.used in
    λ i. record { numbers = numbers i; used = used i }

pub one_check : OneCheck
one_check g cs ds (Ok a) (Ok b) e p q = ap Ok (one_accepted g cs ds a b p q)
one_check g cs ds (Ok a) (Err f) e p q = absurd (opened_or_not g (length ds) a.used p.held.sound p.tree p.used (omega (arith, e, p.fits)) f q.0)
one_check g cs ds (Err f) (Ok b) e p q = absurd (opened_or_not g (length cs) b.used q.held.sound q.tree q.used (omega (arith, e, q.fits)) f p.0)
one_check g cs ds (Err f) (Err h) e p q = ap Err (one_fault g (length ds) f h (subst (λ (n : ℕ). OpeningRefused g n f) e p.0) q.0)

pub one_feeding : OneFeeding
one_feeding g w t old a b (Ok m) (Ok n) e d p q = ap Ok (cells_one g (w ++ (t ∷ [])) m n p.2 q.2)
one_feeding g w t old a b (Ok m) (Err s) e d p q = absurd (fed_or_not g w t (length old.area.now) m p.0 p.2 (omega (arith, e, p.3)) s q.0)
one_feeding g w t old a b (Err r) (Ok n) e d p q = absurd (fed_or_not g w t (length old.area.now) n q.0 q.2 (omega (arith, d, q.3)) r p.0)
one_feeding g w t old a b (Err r) (Err s) e d p q = ap Err (one_reason g w t (length old.area.now) r s p.0 q.0)

pub one_next_list : OneNextList
one_next_list g w old a b (Ok m) (Ok n) p q =
    let same : p.0 ≡ q.0 = one_next g w p.0 q.0 p.1.ascending q.1.ascending p.1.exactly q.1.exactly in
    let e : m ≡ n = p.2 ∙ (ap length same ∙ sym q.2) in
    (ap Ok e, p.4 ∙ (ap (λ (xs : List ℕ). xs ++ drop m old) same ∙ (ap (λ (k : ℕ). q.0 ++ drop k old) e ∙ sym q.4)))
one_next_list g w old a b (Ok m) (Err s) p q = absurd (omega (arith, p.2, p.3, q.2, ap length (one_next g w p.0 q.0 p.1.ascending q.1.ascending p.1.exactly q.1.exactly)))
one_next_list g w old a b (Err r) (Ok n) p q = absurd (omega (arith, q.2, q.3, p.2, ap length (one_next g w p.0 q.0 p.1.ascending q.1.ascending p.1.exactly q.1.exactly)))
one_next_list g w old a b (Err r) (Err s) p q = (refl, p.3 ∙ sym q.3)

module _ {A : Type 0} (nought : A) (plus times : A → A → A) (reads : ℕ → A) (writes : A → ℕ) where
  one_told : (g : Grammar) (len : ℕ) (questions : List Question) (h : ℕ) (weights old a b : List ℕ) (x y : Told A)
      → ToldOf nought plus times reads writes g len questions h weights old a x → ToldOf nought plus times reads writes g len questions h weights old b y → SameTold x y × (a ≡ b)
  one_told g len questions h weights old a b x y p q =
      let all = one_answers g len [] questions x.answers.items y.answers.items p.4 q.4 p.5 q.5 in
      let bound : x.bound ≡ y.bound = bound_one g q.4 x.bound y.bound (subst (λ (w : List ℕ). Bound g w x.bound) all.1 p.6) q.6 in
      let same_words = subst (λ (w : List ℕ). Weighed nought plus times reads writes g w x.bound h weights old a x.sum) all.1 p.8 in
      let same_bound = subst (λ (k : ℕ). Weighed nought plus times reads writes g q.4 k h weights old a x.sum) bound same_words in
      let weighed = one_weighing nought plus times reads writes g q.4 y.bound h weights old a b x.sum y.sum same_bound q.8 in
      (record { opened = cells_one g [] x.opened y.opened p.2 q.2; answers = all.0; bound = bound; sum = weighed.0 }, weighed.1)

  pub one_run : OneRun nought plus times reads writes
  one_run g len questions h weights old a b (Ok x) (Ok y) p q = one_told g len questions h weights old a b x y p q
  one_run g len questions h weights old a b (Ok x) (Err (run.Opening f)) p q = opened_or_not g len x.opened p.0 p.1 p.2 p.3 f q.0
  one_run g len questions h weights old a b (Ok x) (Err run.NoMemory) p q = tt
  one_run g len questions h weights old a b (Err (run.Opening f)) (Ok y) p q = opened_or_not g len y.opened q.0 q.1 q.2 q.3 f p.0
  one_run g len questions h weights old a b (Err (run.Opening e)) (Err (run.Opening f)) p q = (one_fault g len e f p.0 q.0, p.1 ∙ sym q.1)
  one_run g len questions h weights old a b (Err (run.Opening f)) (Err run.NoMemory) p q = opened_or_not g len q.0.2 q.0.0 q.0.1 q.0.3 q.0.4 f p.0
  one_run g len questions h weights old a b (Err run.NoMemory) (Ok y) p q = tt
  one_run g len questions h weights old a b (Err run.NoMemory) (Err (run.Opening f)) p q = opened_or_not g len p.0.2 p.0.0 p.0.1 p.0.3 p.0.4 f q.0
  one_run g len questions h weights old a b (Err run.NoMemory) (Err run.NoMemory) p q = p.1 ∙ sym q.1

use Rattle.std.proofs.Common.{◌≡◌, ◌+◌, ℕ, List, ◌∷◌, [], ◌++◌, length, take, slice_index_or, sym, ◌∙◌, subst, take_all}
use Rattle.std.proofs.lemmas.List.{take_more}
use Rattle.note.specs.declared.question.Question.{Question}
use Rattle.note.specs.declared.question.Question.TheVariants.{Feed}
use Rattle.note.specs.declared.question.Answer.{Answer}
use Rattle.note.specs.Promises.{Answered, AllAnswered}
use Rattle.note.proofs.Asked.{asked_more}
use Rattle.note.proofs.asking.ask_all.Goals as goal

pub ask-requires : goal.ask-requires
ask-requires c =
    let i = c.requires in
    let l = c.loop-question.invariant.1 i.0 i.1 i.2 in
    (i.0, l.0, l.1)

pub loop-question-preserved : goal.loop-question-preserved
loop-question-preserved c =
    let same = c.loop-question.invariant.0 in (
      c.in_ok-answer.ensures.length ∙ same,
      λ g w h.
          let l = c.loop-question.invariant.1 g w h in
          let a = c.in_ok-answer.ensures.answered g l.0 l.1 in
          let i = c.loop-question.question-index in
          let qs = c.args.questions.now in
          let asked = subst (λ (n : ℕ). Answered g n l.0 (slice_index_or qs i (Feed 0)) c.in_ok-answer.answer a.0) same a.2 in
          let all = asked_more g (length c.args.cells.now) w (take i qs) c.loop-question.answers.items l.0 (slice_index_or qs i (Feed 0)) c.in_ok-answer.answer a.0 l.2 asked in
          let more : take i qs ++ (slice_index_or qs i (Feed 0) ∷ []) ≡ take (i + 1) qs = sym (take_more qs i (Feed 0) c.loop-question-test.true) in
          let told = subst (λ (v : List Question). AllAnswered g (length c.args.cells.now) w v (c.loop-question.answers.items ++ (c.in_ok-answer.answer ∷ [])) a.0) more all in
          (a.0, a.1, subst (λ (v : List Answer). AllAnswered g (length c.args.cells.now) w (take (i + 1) qs) v a.0) (sym c.in_ok-push.ensures.items) told),
    )

pub returns : goal.returns
returns c =
    λ g w h.
    let l = c.loop-question.invariant.1 g w h in
    (l.0, l.1, subst (λ (qs : List Question). AllAnswered g (length c.args.cells.now) w qs c.loop-question.answers.items l.0) (take_all c.loop-question.question-index c.args.questions.now c.loop-question-test.false) l.2)

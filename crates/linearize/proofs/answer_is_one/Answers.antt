use Rattle.linearize.proofs.Once.{one_answer}
use Rattle.linearize.proofs.answer_is_one.Goals as goal

pub returns : goal.returns
returns c = one_answer

use Rattle.calls.proofs.Single.{one_feeding, one_next_list, one_weighing}
use Rattle.calls.proofs.theorems.answers_are_one.Goals as goal

pub returns-clause-feeding : goal.returns-clause-feeding
returns-clause-feeding g c = one_feeding

pub returns-clause-next : goal.returns-clause-next
returns-clause-next g c = one_next_list

pub returns-clause-weighing : goal.returns-clause-weighing
returns-clause-weighing g c = one_weighing g.V.Algebra.nought g.V.Algebra.plus g.V.Algebra.times g.V.Algebra.reads g.V.Algebra.writes

use Rattle.note.proofs.Single.{one_check, one_feeding, one_next_list, one_run}
use Rattle.note.proofs.theorems.answers_are_one.Goals as goal

pub returns-clause-check : goal.returns-clause-check
returns-clause-check g c = one_check

pub returns-clause-feeding : goal.returns-clause-feeding
returns-clause-feeding g c = one_feeding

pub returns-clause-next : goal.returns-clause-next
returns-clause-next g c = one_next_list

pub returns-clause-run : goal.returns-clause-run
returns-clause-run g c = one_run g.V.Algebra.nought g.V.Algebra.plus g.V.Algebra.times g.V.Algebra.reads g.V.Algebra.writes

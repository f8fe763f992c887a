use Rattle.area.proofs.Single.{one_held, one_rest, one_opening}
use Rattle.area.proofs.theorems.contents_are_one.Goals as goal

pub returns-clause-held : goal.returns-clause-held
returns-clause-held c = one_held

pub returns-clause-rest : goal.returns-clause-rest
returns-clause-rest c = one_rest

pub returns-clause-opening : goal.returns-clause-opening
returns-clause-opening c = one_opening

-- The theorem that `combinations_are_distinct` states. Assumes nothing.
use Rattle.algebra.proofs.Chosen.{combinations_are_distinct}
use Rattle.algebra.proofs.combinations_are_distinct.Goals as goal

pub returns : goal.returns
returns g c = combinations_are_distinct

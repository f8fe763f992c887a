-- The theorem that `sum_of_concatenation` states, from the laws of the algebra. Assumes nothing.
use Rattle.algebra.proofs.Sums.{sum_of_concatenation}
use Rattle.algebra.proofs.sum_of_concatenation.Goals as goal

pub returns : goal.returns
returns g c = sum_of_concatenation g.met.A.Algebra.lawful

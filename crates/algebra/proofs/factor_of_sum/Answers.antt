-- The theorem that `factor_of_sum` states, from the laws of the algebra. Assumes nothing.
use Rattle.algebra.proofs.Sums.{factor_of_sum}
use Rattle.algebra.proofs.factor_of_sum.Goals as goal

pub returns : goal.returns
returns g c = factor_of_sum g.met.A.Algebra.lawful

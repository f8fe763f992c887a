-- The theorem that `sum_in_any_order` states, from the laws of the algebra. Assumes nothing.
use Rattle.algebra.proofs.Sums.{sum_in_any_order}
use Rattle.algebra.proofs.sum_in_any_order.Goals as goal

pub returns : goal.returns
returns g c = sum_in_any_order g.met.A.Algebra.lawful

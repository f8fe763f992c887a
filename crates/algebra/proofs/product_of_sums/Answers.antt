-- The theorem that `product_of_sums` states, from the laws of the algebra. Assumes nothing.
use Rattle.algebra.proofs.Combinations.{product_of_sums}
use Rattle.algebra.proofs.product_of_sums.Goals as goal

pub returns : goal.returns
returns g c = product_of_sums g.met.A.Algebra.lawful

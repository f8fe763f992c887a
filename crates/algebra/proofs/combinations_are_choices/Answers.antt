-- The theorem that `combinations_are_choices` states. Assumes nothing.
use Rattle.algebra.proofs.Chosen.{combinations_are_choices}
use Rattle.algebra.proofs.combinations_are_choices.Goals as goal

pub returns : goal.returns
returns g c = combinations_are_choices

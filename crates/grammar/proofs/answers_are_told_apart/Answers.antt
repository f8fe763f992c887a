use Rattle.grammar.proofs.Apart.{symbols_apart, places_apart}
use Rattle.grammar.proofs.answers_are_told_apart.Goals as goal

pub returns : goal.returns
returns c = (symbols_apart, places_apart)

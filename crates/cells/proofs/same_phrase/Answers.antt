use Rattle.cells.proofs.Equal.{phrase_told}
use Rattle.cells.proofs.same_phrase.Goals as goal

pub returns : goal.returns
returns c = phrase_told c.args.x c.args.y c.eq.result c.eq.ensures

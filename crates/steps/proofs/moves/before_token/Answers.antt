use Rattle.std.proofs.Common.{rules}
use Rattle.steps.proofs.Moving.{next_scanned}
use Rattle.steps.proofs.moves.before_token.Goals as goal

pub returns : goal.returns
returns c = λ g a. next_scanned g c.args.tokens.now c.args.x c.args.t c.scanned.result c.map_or.result a c.scanned.ensures (search rules)

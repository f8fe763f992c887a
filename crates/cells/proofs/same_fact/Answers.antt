use Rattle.std.proofs.lemmas.Bool.Decides.{Decides-at}
use Rattle.cells.specs.contracts.FactPartialEq.TheImpl as fact
use Rattle.cells.proofs.Equal.{fact_decides}
use Rattle.cells.proofs.same_fact.Goals as goal

pub returns : goal.returns
returns c = Decides-at c.eq.result (fact.ghosts.eq c.args.a c.args.b) c.eq.ensures (fact_decides c.args.a c.args.b)

use Rattle.fact_log.proofs.Unread.{made_via}
use Rattle.fact_log.proofs.things.made_from.Goals as goal

pub returns : goal.returns
returns c = made_via c.args.left c.args.slot c.part.result c.map.result c.if-slot-eq4.false c.part.ensures c.map.ensures.cases

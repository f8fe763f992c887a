use Rattle.std.proofs.Common.{subst}
use Rattle.fact_log.specs.declared.things.Key.{Key}
use Rattle.fact_log.specs.declared.things.Thing as thing
use Rattle.fact_log.specs.Index.{things, LastOf}
use Rattle.fact_log.specs.Things.{slot_of}
use Rattle.frontier.proofs.Verdicts.{verdict}
use Rattle.frontier.proofs.verdict.accepted.Goals as goal

pub returns : goal.returns
returns g c =
    let r = c.args.chart.now in
    let last = subst (λ (t : Key). LastOf (things r.cells.now (slot_of (thing.TheVariants.Key t))) r.room.base (thing.TheVariants.Key t) r.end c.latest.result) c.alone.ensures c.latest.ensures in
    rw c.is_some.ensures (verdict (g.S.Source.meaning r.source.now) r.tokens.now r.cells.now r.room.base r.end r.room.limit c.latest.result c.start_phrase.result c.requires.state c.requires.whole c.start_phrase.ensures last)

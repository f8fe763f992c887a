use Rattle.fact_log.specs.Index.{Down}
use Rattle.fact_log.proofs.view.Index.down.Given as goal

abbrev pub invariant-loop-at : goal.invariant-loop-at
invariant-loop-at l = Down l.self l.thing l.before l.at

abbrev pub decreases-loop-at : goal.decreases-loop-at
decreases-loop-at l = l.at

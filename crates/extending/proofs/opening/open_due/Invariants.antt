use Rattle.std.proofs.Common.{length, unwrap_or}
use Rattle.fact_log.specs.declared.things.Thing.TheVariants.{Due}
use Rattle.closing.specs.Runs.{grammar_of}
use Rattle.extending.proofs.Opened.{Taking}
use Rattle.extending.proofs.opening.open_due.Given as goal

abbrev pub invariant-loop-item : goal.invariant-loop-item
invariant-loop-item l =
    Taking (grammar_of l.run l.initial.cells) l.run.tokens.now l.initial.cells l.cells l.run.room.base l.end l.to l.run.room.limit (Due (length l.run.tokens.now)) l.item

abbrev pub decreases-loop-item : goal.decreases-loop-item
decreases-loop-item l = unwrap_or l.item 0

use Rattle.std.proofs.Common.{unwrap_or}
use Rattle.frontier.proofs.Chains.{Marking}
use Rattle.frontier.proofs.marking.mark_due.Given as goal

abbrev pub invariant-loop-cell : goal.invariant-loop-cell
invariant-loop-cell g l = Marking (g.S.Source.meaning l.source) l.tokens l.cells l.room.base l.end l.due l.cell l.initial.marks l.marks

abbrev pub decreases-loop-cell : goal.decreases-loop-cell
decreases-loop-cell g l = unwrap_or l.cell 0

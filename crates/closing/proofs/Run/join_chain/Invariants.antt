use Rattle.std.proofs.Common.{unwrap_or}
use Rattle.closing.specs.Runs.{grammar_of}
use Rattle.closing.proofs.Chains.{Joining}
use Rattle.closing.proofs.Run.join_chain.Given as goal

abbrev pub invariant-loop-other : goal.invariant-loop-other
invariant-loop-other l = Joining (grammar_of l.self l.initial.cells) l.self.tokens.now l.initial.cells l.cells l.self.room.base l.end l.to l.self.room.limit l.at l.thing l.other

abbrev pub decreases-loop-other : goal.decreases-loop-other
decreases-loop-other l = unwrap_or l.other 0

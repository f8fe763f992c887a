use Rattle.closing.specs.Runs.{grammar_of}
use Rattle.closing.proofs.Turns.{Parted}
use Rattle.closing.proofs.Run.take_made.Given as goal

abbrev pub invariant-loop-s : goal.invariant-loop-s
invariant-loop-s l = Parted (grammar_of l.self l.fn.cells) l.self.tokens.now l.fn.cells l.cells l.self.room.base l.end l.self.room.limit l.at l.made.left l.s l.to

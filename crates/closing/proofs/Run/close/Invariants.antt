use Rattle.closing.specs.Runs.{grammar_of}
use Rattle.std.proofs.Common.{◌-◌, ◌≤◌}
use Rattle.closing.specs.State.{Grown, ClosedTo}
use Rattle.closing.proofs.Run.close.Given as goal

abbrev pub invariant-loop-at : goal.invariant-loop-at
invariant-loop-at l =
    Grown (grammar_of l.self l.initial.cells) l.self.tokens.now l.initial.cells l.cells l.self.room.base l.end l.to l.self.room.limit
    × (l.self.room.base ≤ l.at) × (l.at ≤ l.to) × ClosedTo (grammar_of l.self l.initial.cells) l.self.tokens.now l.cells l.self.room.base l.at l.to

abbrev pub decreases-loop-at : goal.decreases-loop-at
decreases-loop-at l = l.self.room.limit - l.at

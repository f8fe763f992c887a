use Rattle.closing.specs.Runs.{grammar_of}
use Rattle.cells.specs.Facts.{phrase_of}
use Rattle.closing.proofs.Lives.{Going, left}
use Rattle.closing.proofs.Run.predict_live.Given as goal

abbrev pub invariant-loop-place : goal.invariant-loop-place
invariant-loop-place l =
    Going (grammar_of l.self l.initial.cells) l.self.tokens.now l.initial.cells l.cells l.self.room.base l.end l.to l.self.room.limit (phrase_of l.awaited) l.s l.k l.place

abbrev pub decreases-loop-place : goal.decreases-loop-place
decreases-loop-place l = left l.place

use Rattle.weigh.proofs.Numbering.{Numbering}
use Rattle.weigh.proofs.numbers.number_left_sides.Given as goal

abbrev pub invariant-loop-p : goal.invariant-loop-p
invariant-loop-p l = Numbering l.initial.cells l.cells l.room.base l.end l.room.limit l.p l.count

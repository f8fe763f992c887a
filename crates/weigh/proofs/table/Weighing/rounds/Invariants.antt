use Rattle.weigh.specs.Weighed.{RoundedTo}
use Rattle.weigh.proofs.table.Weighing.rounds.Given as goal

abbrev pub invariant-loop : goal.invariant-loop
invariant-loop g l =
    RoundedTo g.V.Algebra.nought g.V.Algebra.plus g.V.Algebra.times g.V.Algebra.reads (g.S.Source.meaning l.self.chart.now.source.now) l.self.chart.now.cells.now l.self.table l.self.weights.now l.initial.work l.work l.counter

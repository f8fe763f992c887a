use Rattle.weigh.proofs.Adding.{BareTo}
use Rattle.weigh.proofs.table.Weighing.add_bare.Given as goal

abbrev pub invariant-loop-c : goal.invariant-loop-c
invariant-loop-c g l =
    BareTo g.V.Algebra.nought g.V.Algebra.plus g.V.Algebra.times g.V.Algebra.reads (g.S.Source.meaning l.self.chart.now.source.now) l.self.chart.now.cells.now l.self.table l.self.weights.now l.initial.work l.work l.c

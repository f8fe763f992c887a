use Rattle.weigh.proofs.Multiplying.{ProductTo}
use Rattle.weigh.proofs.table.Weighing.product.Given as goal

abbrev pub invariant-loop-d : goal.invariant-loop-d
invariant-loop-d g l = ProductTo g.V.Algebra.times g.V.Algebra.reads l.self.chart.now.cells.now l.self.table l.self.weights.now l.work l.rule l.d l.value

use Rattle.chart.specs.Sums.{made_rules}
use Rattle.weigh.specs.Listed.{facts_in}
use Rattle.weigh.specs.Weighed.{RulesAdded}
use Rattle.weigh.proofs.table.Weighing.add_made.Given as goal

abbrev pub invariant-loop-cell : goal.invariant-loop-cell
invariant-loop-cell g l =
    RulesAdded g.V.Algebra.nought g.V.Algebra.plus g.V.Algebra.times g.V.Algebra.reads l.self.chart.now.cells.now l.self.table l.self.weights.now l.initial.work l.work (made_rules (facts_in l.self.chart.now.cells.now l.self.table.base l.cell-index))

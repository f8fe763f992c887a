use Rattle.std.proofs.Common.{ℕ}
use Rattle.steps.specs.Live.{FirstLive}
use Rattle.closing.proofs.Lives.{left}
use Rattle.weigh.proofs.Adding.{LiveTo}
use Rattle.weigh.proofs.table.Weighing.add_live.Given as goal

abbrev pub invariant-loop-place : goal.invariant-loop-place
invariant-loop-place g l =
    (m : ℕ) × FirstLive (g.S.Source.meaning l.self.chart.now.source.now) l.category m l.place
    × LiveTo g.V.Algebra.nought g.V.Algebra.plus g.V.Algebra.times g.V.Algebra.reads (g.S.Source.meaning l.self.chart.now.source.now) l.self.chart.now.cells.now l.self.table l.self.weights.now l.initial.work l.work l.category m

abbrev pub decreases-loop-place : goal.decreases-loop-place
decreases-loop-place g l = left l.place

use Rattle.std.proofs.Common.{◌≡◌, ℕ, subst, arith}
use Rattle.weigh.specs.Weighed.{RoundedTo}
use Rattle.weigh.proofs.Rounding.{rounds_first, rounds_again}
use Rattle.weigh.proofs.table.Weighing.rounds.Goals as goal

pub loop-init : goal.loop-init
loop-init g c = rounds_first g.met.V.Algebra.lawful (g.S.Source.meaning c.args.self.now.chart.now.source.now) c.args.self.now.chart.now.cells.now c.args.self.now.table c.args.self.now.weights.now c.args.work.now

pub loop-preserved : goal.loop-preserved
loop-preserved g c =
    rounds_again g.met.V.Algebra.lawful (g.S.Source.meaning c.args.self.now.chart.now.source.now) c.args.self.now.chart.now.cells.now c.args.self.now.table c.args.self.now.weights.now c.args.work.now c.loop.work c.round.new.work c.loop.counter c.loop.invariant
    c.round.ensures

pub returns : goal.returns
returns g c =
    let end : c.loop.counter ≡ c.args.depth = omega arith in
    subst
    (λ (n : ℕ). RoundedTo g.V.Algebra.nought g.V.Algebra.plus g.V.Algebra.times g.V.Algebra.reads (g.S.Source.meaning c.args.self.now.chart.now.source.now) c.args.self.now.chart.now.cells.now c.args.self.now.table c.args.self.now.weights.now c.args.work.now c.loop.work n) end
    c.loop.invariant

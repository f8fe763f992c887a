use Rattle.weigh.proofs.Rounding.{rounded}
use Rattle.weigh.proofs.table.Weighing.round.Goals as goal

pub returns : goal.returns
returns g c =
    rounded g.met.V.Algebra.lawful (g.S.Source.meaning c.args.self.now.chart.now.source.now) c.args.self.now.chart.now.cells.now c.args.self.now.table c.args.self.now.weights.now c.args.work.now c.clear.new.work c.add_bare.new.work c.add_made.new.work
    c.copy_down.new.work c.clear.ensures c.add_bare.ensures c.add_made.ensures c.copy_down.ensures

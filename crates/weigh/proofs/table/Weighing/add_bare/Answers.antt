use Rattle.std.proofs.Common.{arith}
use Rattle.weigh.proofs.Adding.{bare_first, bare_again, bare_all}
use Rattle.weigh.proofs.table.Weighing.add_bare.Goals as goal

pub loop-c-init : goal.loop-c-init
loop-c-init g c =
    bare_first g.V.Algebra.nought g.V.Algebra.plus g.V.Algebra.times g.V.Algebra.reads (g.S.Source.meaning c.args.self.now.chart.now.source.now) c.args.self.now.chart.now.cells.now c.args.self.now.table c.args.self.now.weights.now c.args.work.now

pub add_live-requires : goal.add_live-requires
add_live-requires g c = record {
  ready = c.requires.ready;
  linked = c.requires.linked;
  rows = omega (arith, c.requires.rows);
  category = omega (arith, c.requires.ready.0.2.categories, c.categories-c-end.ensures);
}

pub loop-c-preserved : goal.loop-c-preserved
loop-c-preserved g c =
    bare_again g.V.Algebra.nought g.V.Algebra.plus g.V.Algebra.times g.V.Algebra.reads (g.S.Source.meaning c.args.self.now.chart.now.source.now) c.args.self.now.chart.now.cells.now c.args.self.now.table c.args.self.now.weights.now c.args.work.now
    c.loop-c.work c.add_live.new.work c.loop-c.c c.loop-c.invariant c.add_live.ensures

pub returns : goal.returns
returns g c =
    bare_all g.V.Algebra.nought g.V.Algebra.plus g.V.Algebra.times g.V.Algebra.reads (g.S.Source.meaning c.args.self.now.chart.now.source.now) c.args.self.now.chart.now.cells.now c.args.self.now.table c.args.self.now.weights.now c.args.work.now
    c.loop-c.work c.loop-c.c (omega (arith, c.categories-c-end.ensures)) c.loop-c.invariant

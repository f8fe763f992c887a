use Rattle.std.proofs.Common.{◌+◌, sym, subst, arith}
use Rattle.cells.specs.Facts.{rule_of}
use Rattle.weigh.proofs.Multiplying.{ProductTo, place_known, ready_argument, product_first, product_more, product_same, product_all}
use Rattle.weigh.proofs.table.Weighing.product.Goals as goal
use Rattle.weigh.proofs.table.Weighing.product.Goals.{in-Some, in_default}

pub bounds-self-rule : goal.bounds-self-rule
bounds-self-rule g c = let r = c.requires.ready in omega (arith, place_known r.0 r.1 r.3.sound (rule_of c.args.rule) r.4, r.5)

pub loop-d-init : goal.loop-d-init
loop-d-init g c = product_first g.V.Algebra.times g.V.Algebra.reads c.args.self.now.chart.now.cells.now c.args.self.now.table c.args.self.now.weights.now c.args.work.now c.args.rule c.read-value.result c.read-value.ensures

pub argument-requires-clause-ready : goal.argument-requires-clause-ready
argument-requires-clause-ready g c =
    ready_argument c.args.self.now.chart.now.cells.now c.args.self.now.table c.args.self.now.weights.now c.args.rule c.loop-d.d c.in-Some.phrase c.requires.ready (omega (arith, c.loop-d.auto.d)) (sym c.in-Some.ensures)

pub loop-d-preserved : goal.loop-d-preserved
loop-d-preserved g c = elim c.match-at.branch [
  | in-Some w ↦
      subst (ProductTo g.V.Algebra.times g.V.Algebra.reads c.args.self.now.chart.now.cells.now c.args.self.now.table c.args.self.now.weights.now c.args.work.now c.args.rule (c.loop-d.d + 1)) (sym w.value-is)
      (product_more g.V.Algebra.times g.V.Algebra.reads c.args.self.now.chart.now.cells.now c.args.self.now.table c.args.self.now.weights.now c.args.work.now c.args.rule c.loop-d.d w.in-Some.phrase c.loop-d.value w.argument.result w.product-value.result (omega (arith, c.loop-d.auto.d)) (sym w.in-Some.ensures) c.loop-d.invariant w.argument.ensures w.product-value.ensures)
  | in_default w ↦
      subst (ProductTo g.V.Algebra.times g.V.Algebra.reads c.args.self.now.chart.now.cells.now c.args.self.now.table c.args.self.now.weights.now c.args.work.now c.args.rule (c.loop-d.d + 1)) (sym w.value-is)
      (product_same g.V.Algebra.times g.V.Algebra.reads c.args.self.now.chart.now.cells.now c.args.self.now.table c.args.self.now.weights.now c.args.work.now c.args.rule c.loop-d.d c.loop-d.value (omega (arith, c.loop-d.auto.d)) (sym w.in_default.ensures) c.loop-d.invariant)
]

pub returns : goal.returns
returns g c = product_all g.V.Algebra.times g.V.Algebra.reads c.args.self.now.chart.now.cells.now c.args.self.now.table c.args.self.now.weights.now c.args.work.now c.args.rule c.loop-d.d c.loop-d.value (omega (arith, c.loop-d.auto.d, c.loop-d.auto.d-end, c.loop-d-test.false)) c.loop-d.invariant

use Rattle.std.proofs.Common.{◌≡◌, ℕ, ◌+◌, ◌-◌, ◌<◌, sym, subst, arith}
use Rattle.chart.specs.Sums.{made_rules}
use Rattle.cells.specs.declared.Cell.{Cell}
use Rattle.cells.specs.Facts.{fact_of}
use Rattle.weigh.specs.Listed.{one_fact, facts_in}
use Rattle.weigh.specs.Weighed.{RulesAdded}
use Rattle.weigh.proofs.Adding.{table_cell, made_first, made_again}
use Rattle.weigh.proofs.table.Weighing.add_made.Goals as goal

pub loop-cell-init : goal.loop-cell-init
loop-cell-init g c = let r = c.args.self.now in made_first g.met.V.Algebra.lawful r.chart.now.cells.now r.table r.weights.now c.args.work.now r.table.base

pub add_made_in-requires-clause-there : goal.add_made_in-requires-clause-there
add_made_in-requires-clause-there g c =
    let t = c.args.self.now.table in
    let i = c.loop-cell.cell-index in
    let lt : i < t.end - t.base = omega (arith, c.loop-cell-test.true) in
    (t.base + i, omega arith, omega (arith, lt), sym (table_cell c.args.self.now.chart.now.cells.now t.base t.end i lt))

pub loop-cell-preserved : goal.loop-cell-preserved
loop-cell-preserved g c =
    let r = c.args.self.now in
    let i = c.loop-cell.cell-index in
    let lt : i < r.table.end - r.table.base = omega (arith, c.loop-cell-test.true) in
    made_again g.met.V.Algebra.lawful r.chart.now.cells.now r.table r.weights.now c.args.work.now c.loop-cell.work c.add_made_in.new.work r.table.base i c.loop-cell.invariant
    (subst (λ (x : Cell). RulesAdded g.V.Algebra.nought g.V.Algebra.plus g.V.Algebra.times g.V.Algebra.reads r.chart.now.cells.now r.table r.weights.now c.loop-cell.work c.add_made_in.new.work (made_rules (one_fact (fact_of x.row)))) (table_cell r.chart.now.cells.now r.table.base r.table.end i lt) c.add_made_in.ensures)

pub returns : goal.returns
returns g c =
    let r = c.args.self.now in
    let end : c.loop-cell.cell-index ≡ r.table.end - r.table.base = omega (arith, c.loop-cell-test.false, c.loop-cell.auto.cell-index-end) in
    subst (λ (n : ℕ). RulesAdded g.V.Algebra.nought g.V.Algebra.plus g.V.Algebra.times g.V.Algebra.reads r.chart.now.cells.now r.table r.weights.now c.args.work.now c.loop-cell.work (made_rules (facts_in r.chart.now.cells.now r.table.base n))) end c.loop-cell.invariant

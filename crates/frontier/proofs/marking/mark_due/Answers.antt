use Rattle.std.proofs.Common.{ℕ, Option, subst, arith}
use Rattle.frontier.proofs.Chains.{Marking, marking_first, marking_again}
use Rattle.frontier.proofs.marking.mark_due.Goals as goal

pub loop-cell-init : goal.loop-cell-init
loop-cell-init g c =
    let r = c.args.chart.now in
    marking_first (g.S.Source.meaning r.source.now) r.tokens.now r.cells.now r.room.base r.end c.args.due c.latest-cell.result c.args.marks.now c.latest-cell.ensures

pub bounds-cells-p : goal.bounds-cells-p
bounds-cells-p g c = let h = c.loop-cell.invariant.0 c.in-Some.p c.in-Some.is in let log = c.requires.stands.state.log in omega (arith, h.2, log.within, log.inside)

pub offset_bounds-cells-p : goal.offset_bounds-cells-p
offset_bounds-cells-p g c = let h = c.loop-cell.invariant.0 c.in-Some.p c.in-Some.is in let log = c.requires.stands.state.log in omega (arith, h.2, log.within, log.inside)

pub latest-cell-requires-in-Some-clause-range : goal.latest-cell-requires-in-Some-clause-range
latest-cell-requires-in-Some-clause-range g c = let h = c.loop-cell.invariant.0 c.in-Some.p c.in-Some.is in omega (arith, h.2)

pub loop-cell-preserved : goal.loop-cell-preserved
loop-cell-preserved g c =
    let r = c.args.chart.now in
    let gr = (g.S.Source.meaning r.source.now) in
    marking_again gr r.tokens.now r.cells.now r.room.base r.end c.args.due c.in-Some.p c.latest-cell-in-Some.result c.args.marks.now c.loop-cell.marks c.mark_row.new.marks c.loop-cell.auto.marks
    (subst (λ (o : Option ℕ). Marking gr r.tokens.now r.cells.now r.room.base r.end c.args.due o c.args.marks.now c.loop-cell.marks) c.in-Some.is c.loop-cell.invariant)
    c.latest-cell-in-Some.ensures c.mark_row.ensures

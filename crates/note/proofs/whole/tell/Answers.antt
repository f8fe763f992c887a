use Rattle.std.proofs.Common.{ℕ, [], sym, subst, arith}
use Rattle.chart.specs.Chart.{CellsInUse}
use Rattle.calls.specs.Closed.{Weighed}
use Rattle.calls.proofs.Feedings.{used}
use Rattle.note.proofs.Noted.{in_area}
use Rattle.note.proofs.whole.tell.Goals as goal

pub close_in-closing-requires : goal.close_in-closing-requires
close_in-closing-requires g c =
    let q = c.requires in
    let a = c.in_ok-answers.ensures q.0 [] q.1.0 in
    (q.0, a.0, a.1)

pub weigh_in-sum-requires : goal.weigh_in-sum-requires
weigh_in-sum-requires g c =
    let q = c.requires in
    let a = c.in_ok-answers.ensures q.0 [] q.1.0 in
    let k = c.close_in-closing.ensures.closes q.0 a.0 a.1 in
    (q.0, a.0, k.closed)

pub returns-clause-told : goal.returns-clause-told
returns-clause-told g c =
    λ v o.
    let a = c.in_ok-answers.ensures v [] o.0 in
    let k = c.close_in-closing.ensures.closes v a.0 a.1 in
    let begun = c.cells_in_use-used.ensures in (
      o.0.sound,
      o.1,
      subst (λ (n : ℕ). CellsInUse v [] n) (sym begun) (used v [] c.args.cells.now c.args.opened o.0),
      omega (arith, begun, in_area v [] c.args.cells.now c.args.opened o.0),
      a.0,
      a.2,
      k.bound,
      k.low,
      subst (λ (q : ℕ). Weighed g.V.Algebra.nought g.V.Algebra.plus g.V.Algebra.times g.V.Algebra.reads g.V.Algebra.writes v a.0 q c.args.depth c.args.weights.now c.args.work.now c.weigh_in-sum.new.work c.weigh_in-sum.result) (sym k.is_bound)
          (c.weigh_in-sum.ensures.weighed v a.0 k.closed),
    )

use Rattle.std.proofs.Common.{◌≤◌, arith, rules}
use Rattle.area.proofs.Told.{asked, stands}
use Rattle.calls.proofs.Weighings.{weighable, summed, cleared_at, sum_is}
use Rattle.calls.proofs.weighing.sum_in.Goals as goal

pub chart-chart-requires : goal.chart-chart-requires
chart-chart-requires g c =
    let h = c.requires.2.held in
    (c.requires.0, c.requires.1, c.args.cells.now, c.args.numbers, h, c.contents-contents.ensures c.requires.0 c.requires.1 h)

pub weigh-requires : goal.weigh-requires
weigh-requires g c =
    let v = c.requires.0 in
    let w = c.requires.1 in
    let h = c.requires.2.held in
    let k = c.chart-chart.ensures v w c.args.cells.now c.args.numbers h (c.contents-contents.ensures v w h) in
    let r = weighable v w c.args.cells.now c.args.numbers c.args.request.now.phrases c.requires.2 c.chart-chart.result k c.args.request.now.weights.now c.args.work.now (omega (arith, c.if-request-numbers.false)) (omega (arith, c.if-work-q.false, sum_is _ c.checked_add.result _ c.in_ok-q.q c.checked_add.ensures c.in_ok-q.ensures.ok_part)) in
    record {
      sound = (asked v w c.args.cells.now c.args.numbers c.chart-chart.result h k).sound;
      linked = k.source.1;
      stands = stands v w c.args.cells.now c.args.numbers c.chart-chart.result h k;
      numbered = (r.phrases, r.numbered, r.size);
      weights = r.weights_fit;
      work = r.work_fits;
    }

pub returns : goal.returns
returns g c =
    λ v w k.
    let h = k.held in
    let o = c.chart-chart.ensures v w c.args.cells.now c.args.numbers h (c.contents-contents.ensures v w h) in
    let depth : (1 ≤ c.args.request.now.depth) × (c.args.request.now.depth ≤ 32) = search rules in
    let places = h.counted.places in
    let categories = h.counted.categories in
    let q = sum_is _ c.checked_add.result _ c.in_ok-q.q c.checked_add.ensures c.in_ok-q.ensures.ok_part in (
      depth,
      (omega (arith, places, c.if-request-numbers.false), omega (arith, categories, q, c.if-work-q.false)),
      summed g.V.Algebra.nought g.V.Algebra.plus g.V.Algebra.times g.V.Algebra.reads c.weigh.result _ v _ w c.args.request.now.depth c.args.request.now.weights.now o.source.0 o.tokens c.weigh.ensures.sum,
      cleared_at _ v c.args.request.now.phrases _ c.args.work.now c.weigh.new.work o.source.0 c.weigh.ensures.cleared,
    )

use Rattle.std.proofs.Common.{◌<◌, length, ◌∙◌, arith}
use Rattle.cells.specs.Facts.{phrase_of}
use Rattle.weigh.proofs.Indexing.{index_inside}
use Rattle.weigh.proofs.table.Weighing.argument.Goals as goal

pub bounds-work-index_of : goal.bounds-work-index_of
bounds-work-index_of g c =
    let r = c.requires.ready in
    let i = c.index_of.ensures r.0 r.1 r.2 r.3 r.4 in
    omega (arith, index_inside r.0 r.1 c.args.self.now.chart.now.cells.now c.args.self.now.table r.2 (phrase_of c.args.phrase) c.index_of.result r.3 i, c.requires.rows)

pub offset_bounds-work-index_of : goal.offset_bounds-work-index_of
offset_bounds-work-index_of g c =
    let r = c.requires.ready in
    let i = c.index_of.ensures r.0 r.1 r.2 r.3 r.4 in
    let below : c.index_of.result < length c.args.work.now =
    omega (arith, index_inside r.0 r.1 c.args.self.now.chart.now.cells.now c.args.self.now.table r.2 (phrase_of c.args.phrase) c.index_of.result r.3 i, c.requires.rows) in
    omega arith

pub returns : goal.returns
returns g c = λ gr w phrases f h k row. c.read.ensures ∙ row (phrase_of c.args.phrase) c.index_of.result (c.index_of.ensures gr w phrases h k)

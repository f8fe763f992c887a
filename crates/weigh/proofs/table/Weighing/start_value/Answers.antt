use Rattle.std.proofs.Common.{ℕ, ◌+◌, ◌<◌, [], ◌∷◌, length, ap, arith}
use Rattle.chart.specs.Chart.{Phrase, read}
use Rattle.cells.specs.declared.Short.TheVariants.{One}
use Rattle.cells.specs.declared.Span.TheVariants.{Read}
use Rattle.weigh.proofs.Indexing.{index_number}
use Rattle.weigh.proofs.Rounding.{start_found, start_none}
use Rattle.weigh.proofs.table.Weighing.start_value.Goals as goal

pub overflow_add-table : goal.overflow_add-table
overflow_add-table g c =
    let r = c.requires.ready in
    let n = index_number (g.S.Source.meaning c.args.self.now.chart.now.source.now) c.args.self.now.chart.now.tokens.now c.args.self.now.chart.now.cells.now c.args.self.now.table r.0 c.start_phrase-start.result c.in-Some.number r.1 c.in-Some.ensures in
    omega (arith, n.1, c.requires.rows)

pub bounds-work-table : goal.bounds-work-table
bounds-work-table g c =
    let r = c.requires.ready in
    let n = index_number (g.S.Source.meaning c.args.self.now.chart.now.source.now) c.args.self.now.chart.now.tokens.now c.args.self.now.chart.now.cells.now c.args.self.now.table r.0 c.start_phrase-start.result c.in-Some.number r.1 c.in-Some.ensures in
    omega (arith, n.1, c.requires.rows)

pub offset_bounds-work-table : goal.offset_bounds-work-table
offset_bounds-work-table g c =
    let r = c.requires.ready in
    let n = index_number (g.S.Source.meaning c.args.self.now.chart.now.source.now) c.args.self.now.chart.now.tokens.now c.args.self.now.chart.now.cells.now c.args.self.now.table r.0 c.start_phrase-start.result c.in-Some.number r.1 c.in-Some.ensures in
    let below : c.args.self.now.table.categories + c.in-Some.number < length c.args.work.now = omega (arith, n.1, c.requires.rows) in
    omega arith

pub returns-in-Some : goal.returns-in-Some
returns-in-Some g c = λ weights.
    start_found g.met.V.Algebra.lawful (g.S.Source.meaning c.args.self.now.chart.now.source.now) c.args.self.now.chart.now.cells.now c.args.self.now.table weights c.args.self.now.chart.now.tokens.now c.args.work.now c.start_phrase-start.result c.in-Some.number c.read.result
    c.start_phrase-start.ensures c.in-Some.ensures c.read.ensures

pub returns-in-None : goal.returns-in-None
returns-in-None g c = λ weights.
    start_none g.met.V.Algebra.lawful (g.S.Source.meaning c.args.self.now.chart.now.source.now) c.args.self.now.chart.now.cells.now c.args.self.now.table weights c.args.self.now.chart.now.tokens.now c.args.work.now c.start_phrase-start.result c.zero.result
    c.start_phrase-start.ensures c.in-None.ensures c.zero.ensures

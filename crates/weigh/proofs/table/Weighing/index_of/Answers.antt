use Rattle.std.proofs.Common.{sym, ◌∙◌, arith}
use Rattle.weigh.proofs.Indexing.{index_unread, index_number, index_found, index_none}
use Rattle.weigh.proofs.table.Weighing.index_of.Goals as goal

pub returns-then-all_unread : goal.returns-then-all_unread
returns-then-all_unread g c = λ gr w phrases h k. index_unread gr w c.args.self.now.chart.now.cells.now c.args.self.now.table phrases c.args.phrase h k (sym c.all_unread.ensures ∙ c.if-all_unread.true)

pub overflow_add-result : goal.overflow_add-result
overflow_add-result g c =
    let r = c.requires.ready in
    let n = index_number r.0 r.1 c.args.self.now.chart.now.cells.now c.args.self.now.table r.2 c.args.phrase c.in-Some.number r.3 c.in-Some.ensures in
    omega (arith, n.1, c.requires.fits)

pub returns-in-Some : goal.returns-in-Some
returns-in-Some g c = λ gr w phrases h k. index_found gr w c.args.self.now.chart.now.cells.now c.args.self.now.table phrases c.args.phrase c.in-Some.number h c.in-Some.ensures

pub returns-in-None : goal.returns-in-None
returns-in-None g c = λ gr w phrases h k. index_none gr w c.args.self.now.chart.now.cells.now c.args.self.now.table phrases c.args.phrase h k c.in-None.ensures

use Rattle.std.proofs.Common.{◌+◌, length}
use Rattle.frontier.proofs.Chains.{range_none, range_more}
use Rattle.frontier.proofs.Found.{frontier_marked}
use Rattle.frontier.proofs.marking.frontier.Goals as goal

pub loop-due-init : goal.loop-due-init
loop-due-init g c =
    range_none (g.S.Source.meaning c.args.chart.now.source.now) c.args.chart.now.tokens.now c.args.chart.now.cells.now c.args.chart.now.room.base c.args.chart.now.end (length c.args.chart.now.tokens.now + 1) c.args.marks.now

pub loop-due-preserved : goal.loop-due-preserved
loop-due-preserved g c =
    range_more (g.S.Source.meaning c.args.chart.now.source.now) c.args.chart.now.tokens.now c.args.chart.now.cells.now c.args.chart.now.room.base c.args.chart.now.end (length c.args.chart.now.tokens.now + 1) c.loop-due.due c.args.marks.now c.loop-due.marks
    c.mark_due.new.marks c.loop-due.auto.marks c.loop-due.auto.due c.loop-due.invariant c.mark_due.ensures

pub returns : goal.returns
returns g c =
    frontier_marked (g.S.Source.meaning c.args.chart.now.source.now) c.args.chart.now.tokens.now c.args.chart.now.cells.now c.args.chart.now.room.base c.args.chart.now.end c.args.chart.now.room.limit c.loop-due.due c.args.marks.now c.loop-due.marks c.requires.sound
    c.requires.stands.state c.requires.stands.whole c.loop-due-test.false c.loop-due.invariant

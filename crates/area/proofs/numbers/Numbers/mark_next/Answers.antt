use Rattle.area.proofs.Told.{stands, next_told, asked}
use Rattle.area.proofs.numbers.Numbers.mark_next.Goals as goal

pub chart-requires : goal.chart-requires
chart-requires c = (c.requires.0, c.requires.1, c.args.cells.now, c.args.self, c.requires.2, c.contents-contents.ensures c.requires.0 c.requires.1 c.requires.2)

pub frontier-requires : goal.frontier-requires
frontier-requires c =
    let g = c.requires.0 in
    let w = c.requires.1 in
    let h = c.requires.2 in
    let k = c.chart.ensures g w c.args.cells.now c.args.self h (c.contents-contents.ensures g w h) in
    record { sound = (asked g w c.args.cells.now c.args.self c.chart.result h k).sound; stands = stands g w c.args.cells.now c.args.self c.chart.result h k }

pub returns : goal.returns
returns c =
    λ g w h.
    let k = c.chart.ensures g w c.args.cells.now c.args.self h (c.contents-contents.ensures g w h) in
    next_told g _ w _ c.args.marks.now c.frontier.new.marks h.sound k.source.0 k.tokens c.frontier.ensures

use Rattle.area.proofs.Told.{stands, verdict_told}
use Rattle.area.proofs.numbers.Numbers.is_complete.Goals as goal

pub chart-requires : goal.chart-requires
chart-requires c = (c.requires.0, c.requires.1, c.args.cells.now, c.args.self, c.requires.2, c.contents-contents.ensures c.requires.0 c.requires.1 c.requires.2)

pub accepted-requires : goal.accepted-requires
accepted-requires c =
    let g = c.requires.0 in
    let w = c.requires.1 in
    let h = c.requires.2 in
    let k = c.chart.ensures g w c.args.cells.now c.args.self h (c.contents-contents.ensures g w h) in
    stands g w c.args.cells.now c.args.self c.chart.result h k

pub returns : goal.returns
returns c =
    λ g w h.
    let k = c.chart.ensures g w c.args.cells.now c.args.self h (c.contents-contents.ensures g w h) in
    verdict_told g _ w _ c.accepted.result h.sound k.source.0 k.tokens c.accepted.ensures

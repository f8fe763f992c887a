use Rattle.std.proofs.Common.{◌≡◌, ◌+◌, ◌-◌, ◌≤◌, length, arith}
use Rattle.area.proofs.numbers.Numbers.cells_in_use.Goals as goal

pub overflow_sub-result : goal.overflow_sub-result
overflow_sub-result c =
    let h = c.requires.2 in
    let r = c.room.ensures c.requires.0 c.requires.1 h in
    omega (arith, r.1, h.charted.state.log.within)

pub overflow_sub-result-2 : goal.overflow_sub-result-2
overflow_sub-result-2 c =
    let r = c.room.ensures c.requires.0 c.requires.1 c.requires.2 in
    omega (arith, r.1)

pub returns : goal.returns
returns c =
    let h = c.requires.2 in
    let r = c.room.ensures c.requires.0 c.requires.1 h in
    omega (arith, r.1, h.charted.state.log.within, h.many, h.fits)

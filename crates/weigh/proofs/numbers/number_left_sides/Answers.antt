use Rattle.std.proofs.Common.{◌≡◌, ℕ, subst, arith}
use Rattle.weigh.proofs.Numbering.{Numbering, numbering_first, numbering_again, numbered_all}
use Rattle.weigh.proofs.numbers.number_left_sides.Goals as goal

pub loop-p-init : goal.loop-p-init
loop-p-init c = numbering_first c.args.cells.now c.args.room.base c.args.end c.args.room.limit c.requires

pub loop-p-preserved : goal.loop-p-preserved
loop-p-preserved c =
    numbering_again c.args.cells.now c.loop-p.cells c.number_cell-count.new.cells c.args.room.base c.args.end c.args.room.limit c.loop-p.p c.loop-p.count c.number_cell-count.result
    (omega arith) (omega arith) c.loop-p.invariant c.number_cell-count.ensures

pub returns : goal.returns
returns c =
    let end : c.loop-p.p ≡ c.args.end = omega (arith, c.requires.begun) in
    let h =
    subst (λ (v : ℕ). Numbering c.args.cells.now c.loop-p.cells c.args.room.base c.args.end c.args.room.limit v c.loop-p.count) end c.loop-p.invariant in
    record { kept = h.kept; few = h.few; all = numbered_all c.args.cells.now c.loop-p.cells c.args.room.base c.args.end c.args.room.limit c.loop-p.count h }

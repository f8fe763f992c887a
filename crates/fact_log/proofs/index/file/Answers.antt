use Rattle.std.proofs.Common.{arith}
use Rattle.fact_log.proofs.Entering.{filing_next, filed}
use Rattle.fact_log.proofs.index.file.Goals as goal

pub loop-slot-preserved : goal.loop-slot-preserved
loop-slot-preserved c =
    λ top nt fits x.
    let g = c.loop-slot.invariant top nt fits x in
    filing_next c.args.cells.now c.loop-slot.cells c.enter.new.cells c.args.base c.args.order top c.args.n c.loop-slot.slot (omega (arith, c.loop-slot-test.true)) c.enter.auto.cells g
    (c.enter.ensures top nt fits (g.todo c.loop-slot.slot (omega arith) (omega (arith, c.loop-slot-test.true))))

pub returns : goal.returns
returns c =
    λ top nt fits x. filed c.args.cells.now c.loop-slot.cells c.args.base c.args.order top c.args.n c.loop-slot.slot (omega (arith, c.loop-slot-test.false)) (c.loop-slot.invariant top nt fits x)

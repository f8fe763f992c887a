use Rattle.closing.proofs.Parts.{meant_in, linked_in}
use Rattle.closing.proofs.asking.rows_in.Goals as goal

pub returns : goal.returns
returns c =
    let e = c.new.ensures.cells in
    record { lent = e; counts = c.new.ensures.counts; meant = meant_in c.args.cells.now _ c.args.base _ c.args.counts e c.new.ensures.counts; links = linked_in c.args.cells.now _ c.args.base _ c.args.counts e c.new.ensures.counts }

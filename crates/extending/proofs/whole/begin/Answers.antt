use Rattle.closing.specs.Ready.{grammar_in}
use Rattle.std.proofs.Common.{[]}
use Rattle.closing.specs.State.{Whole}
use Rattle.extending.proofs.Counted.{undone}
use Rattle.extending.proofs.whole.begin.Goals as goal

pub returns-then-is_none : goal.returns-then-is_none
returns-then-is_none c =
    undone (grammar_in c.args.cells.now c.args.room.base c.args.counts) [] c.args.cells.now c.begun-made.new.cells c.cut.new.cells c.args.room.base c.args.room.base c.args.room.limit (Whole (grammar_in c.args.cells.now c.args.room.base c.args.counts) [] c.begun-made.new.cells c.args.room.base) c.begun-made.result c.if-is_none.ensures c.requires.log c.begun-made.ensures c.cut.ensures

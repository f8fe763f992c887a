use Rattle.closing.specs.Runs.{grammar_of}
use Rattle.closing.specs.State.{Whole}
use Rattle.extending.proofs.Counted.{undone}
use Rattle.extending.proofs.whole.extend.Goals as goal

pub returns-then-is_none : goal.returns-then-is_none
returns-then-is_none c =
    undone (grammar_of c.args.run.now c.args.cells.now) c.args.run.now.tokens.now c.args.cells.now c.extended-made.new.cells c.cut.new.cells c.args.run.now.room.base c.args.end c.args.run.now.room.limit (Whole (grammar_of c.args.run.now c.args.cells.now) c.args.run.now.tokens.now c.extended-made.new.cells c.args.run.now.room.base) c.extended-made.result c.if-is_none.ensures
    c.requires.before.charted.state.log c.extended-made.ensures c.cut.ensures

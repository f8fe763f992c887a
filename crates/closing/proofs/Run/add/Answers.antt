use Rattle.std.proofs.lemmas.Bool.Decides.{not_from_Decides}
use Rattle.closing.specs.Runs.{grammar_of}
use Rattle.closing.proofs.Growing.{add_either}
use Rattle.closing.proofs.Run.add.Goals as goal

pub returns : goal.returns
returns c =
    let r = c.args.self.now in
    add_either (grammar_of r c.args.cells.now) r.tokens.now c.args.cells.now c.append.new.cells r.room.base c.args.end r.room.limit c.args.fact c.wait_for-wait.result c.append.result c.requires.ready.state c.requires.fact
    c.wait_for-wait.ensures.item (not_from_Decides c.contains.result c.contains.ensures c.if-contains.false) c.append.ensures

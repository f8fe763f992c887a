use Rattle.std.proofs.Common.{sym, ◌∙◌}
use Rattle.closing.specs.Runs.{grammar_of}
use Rattle.fact_log.specs.Index.{cell_of}
use Rattle.closing.proofs.Pairs.{item_row, made_row, pair_no_item, pair_no_made, pair_none, pair_chart, pair_some}
use Rattle.closing.proofs.Run.join_pair.Goals as goal

pub returns-in_default : goal.returns-in_default
returns-in_default c =
    let r = c.args.self.now in
    pair_no_made (grammar_of r c.args.cells.now) r.tokens.now c.args.cells.now r.room.base c.args.end r.room.limit c.args.item c.args.made c.requires.ready.state (sym c.in_default.is-1 ∙ c.made_in.ensures)

pub returns-in_default-2 : goal.returns-in_default-2
returns-in_default-2 c =
    let r = c.args.self.now in
    pair_no_item (grammar_of r c.args.cells.now) r.tokens.now c.args.cells.now r.room.base c.args.end r.room.limit c.args.item c.args.made c.requires.ready.state (sym c.in_default.is-0 ∙ c.item_in.ensures)

pub returns-in-None : goal.returns-in-None
returns-in-None c =
    let r = c.args.self.now in
    let i = c.in-Some-Some in
    pair_none (grammar_of r c.args.cells.now) r.tokens.now c.args.cells.now r.room.base c.args.end r.room.limit c.args.item c.args.made i.x i.q c.requires.ready.state c.requires.ready.sound
    (item_row (cell_of c.args.cells.now c.args.item).row i.x (sym i.is-0 ∙ c.item_in.ensures)) (made_row (cell_of c.args.cells.now c.args.made).row i.q (sym i.is-1 ∙ c.made_in.ensures)) c.requires.range.0 c.requires.range.1 c.in-None.ensures

pub add-requires : goal.add-requires
add-requires c =
    let r = c.args.self.now in
    let i = c.in-Some-Some in
    record {
      ready = c.requires.ready;
      fact =
          pair_chart (grammar_of r c.args.cells.now) r.tokens.now c.args.cells.now r.room.base c.args.end r.room.limit c.args.item c.args.made i.x i.q c.in-Some.z c.requires.ready.state c.requires.ready.sound
          (item_row (cell_of c.args.cells.now c.args.item).row i.x (sym i.is-0 ∙ c.item_in.ensures)) (made_row (cell_of c.args.cells.now c.args.made).row i.q (sym i.is-1 ∙ c.made_in.ensures)) c.requires.range.0 c.requires.range.1 c.requires.range.2 c.requires.range.3 c.in-Some.ensures;
    }

pub returns-in-Some : goal.returns-in-Some
returns-in-Some c =
    let r = c.args.self.now in
    let i = c.in-Some-Some in
    pair_some (grammar_of r c.args.cells.now) r.tokens.now c.args.cells.now c.add.new.cells r.room.base c.args.end r.room.limit c.args.item c.args.made i.x i.q c.in-Some.z c.add.result c.requires.ready.state c.requires.ready.sound
    (item_row (cell_of c.args.cells.now c.args.item).row i.x (sym i.is-0 ∙ c.item_in.ensures)) (made_row (cell_of c.args.cells.now c.args.made).row i.q (sym i.is-1 ∙ c.made_in.ensures)) c.requires.range.0 c.requires.range.1 c.in-Some.ensures c.add.ensures

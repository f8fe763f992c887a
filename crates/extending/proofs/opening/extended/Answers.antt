use Rattle.grammar.specs.Grammar.{Grammar}
use Rattle.closing.specs.State.{Outcome, ClosedTo}
use Rattle.closing.specs.Runs.{grammar_of}
use Rattle.closing.proofs.Standing.{at_entry, at_exit, ready_later}
use Rattle.extending.proofs.Opened.{before_state, before_closed, extended_whole}
use Rattle.extending.proofs.opening.extended.Goals as goal

pub open_due-requires : goal.open_due-requires
open_due-requires c = record { ready = record { sound = c.requires.sound; linked = c.requires.linked; few = c.requires.tokens; state = before_state (grammar_of c.args.run.now c.args.cells.now) c.args.run.now.tokens.now c.args.cells.now c.args.run.now.room.base c.args.end c.args.run.now.room.limit c.requires.before } }

pub close-requires : goal.close-requires
close-requires c =
    let h = c.in_ok-opened.ensures in
    record {
      ready = ready_later c.args.run.now (record { sound = c.requires.sound; linked = c.requires.linked; few = c.requires.tokens; state = before_state (grammar_of c.args.run.now c.args.cells.now) c.args.run.now.tokens.now c.args.cells.now c.args.run.now.room.base c.args.end c.args.run.now.room.limit c.requires.before }) h.0;
      closed = (c.requires.before.charted.state.log.begun, h.0.up, at_exit c.args.run.now (λ (g : Grammar). ClosedTo g c.args.run.now.tokens.now c.open_due.new.cells c.args.run.now.room.base c.args.end c.in_ok-opened.opened) h.0.later (before_closed (grammar_of c.args.run.now c.args.cells.now) c.args.run.now.tokens.now c.requires.sound c.args.cells.now c.open_due.new.cells c.args.run.now.room.base c.args.end c.in_ok-opened.opened c.args.run.now.room.limit c.requires.before h));
    }

pub returns : goal.returns
returns c =
    let h = c.in_ok-opened.ensures in
    extended_whole (grammar_of c.args.run.now c.args.cells.now) c.args.run.now.tokens.now c.args.cells.now c.open_due.new.cells c.close.new.cells c.args.run.now.room.base c.args.end c.in_ok-opened.opened c.args.run.now.room.limit c.close.result c.requires.before h.0
    (at_entry c.args.run.now (λ (g : Grammar). Outcome g c.args.run.now.tokens.now c.open_due.new.cells c.close.new.cells c.args.run.now.room.base c.in_ok-opened.opened c.args.run.now.room.limit (λ m. ClosedTo g c.args.run.now.tokens.now c.close.new.cells c.args.run.now.room.base m m) c.close.result) h.0.later c.close.ensures)

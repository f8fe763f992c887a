use Rattle.std.proofs.Common.{ap, ◌∙◌, arith}
use Rattle.grammar.specs.Grammar.{Grammar}
use Rattle.chart.specs.Chart.{bare}
use Rattle.cells.specs.Facts.{phrase_of}
use Rattle.closing.specs.State.{Outcome, ClosedTo}
use Rattle.closing.specs.Runs.{grammar_of}
use Rattle.closing.proofs.Standing.{at_entry, ready_later}
use Rattle.extending.proofs.Opened.{begin_chart, begun_whole, begun_closed, empty_state, start_counted}
use Rattle.extending.proofs.opening.begun.Goals as goal

pub bare_phrase_for-start-requires : goal.bare_phrase_for-start-requires
bare_phrase_for-start-requires c = let l = c.requires.log in record { range = (l.positive, omega (arith, l.within, l.inside)); sound = c.requires.sound }

pub predict_live-requires : goal.predict_live-requires
predict_live-requires c =
    let r = c.args.run.now in
    let g = grammar_of r c.args.cells.now in
    record {
      ready = record { sound = c.requires.sound; linked = c.requires.linked; few = c.requires.tokens; state = empty_state g r.tokens.now c.args.cells.now r.room.base r.room.limit c.requires.log };
      facts = begin_chart g r.tokens.now (phrase_of c.bare_phrase_for-start.result) (c.bare_phrase_for-start.ensures ∙ ap (bare g) (start_counted c.args.cells.now r.room.base r.counts));
    }

pub close-requires : goal.close-requires
close-requires c =
    let r = c.args.run.now in
    let h = c.in_ok-started.ensures in
    record {
      ready = ready_later r (record { sound = c.requires.sound; linked = c.requires.linked; few = c.requires.tokens; state = empty_state (grammar_of r c.args.cells.now) r.tokens.now c.args.cells.now r.room.base r.room.limit c.requires.log }) h.0;
      closed = (omega arith, h.0.up, begun_closed (grammar_of r c.predict_live.new.cells) r.tokens.now c.predict_live.new.cells r.room.base c.in_ok-started.started);
    }

pub returns : goal.returns
returns c =
    let r = c.args.run.now in
    let h = c.in_ok-started.ensures in
    begun_whole (grammar_of r c.args.cells.now) r.tokens.now c.args.cells.now c.predict_live.new.cells c.close.new.cells r.room.base c.in_ok-started.started r.room.limit (phrase_of c.bare_phrase_for-start.result) c.close.result
    (c.bare_phrase_for-start.ensures ∙ ap (bare (grammar_of r c.args.cells.now)) (start_counted c.args.cells.now r.room.base r.counts)) h
    (at_entry r (λ (g : Grammar). Outcome g r.tokens.now c.predict_live.new.cells c.close.new.cells r.room.base c.in_ok-started.started r.room.limit (λ n. ClosedTo g r.tokens.now c.close.new.cells r.room.base n n) c.close.result) h.0.later c.close.ensures)

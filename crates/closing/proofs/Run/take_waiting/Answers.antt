use Rattle.std.proofs.Common.{true, sym, subst, arith}
use Rattle.grammar.specs.Grammar.{Grammar}
use Rattle.cells.specs.declared.Fact.TheVariants.{Item}
use Rattle.fact_log.specs.declared.things.Key.{Key}
use Rattle.fact_log.specs.declared.things.Thing as thing
use Rattle.closing.specs.State.{Grown, Outcome}
use Rattle.closing.specs.Joined.{key_of, ChainIn}
use Rattle.closing.specs.Runs.{grammar_of}
use Rattle.closing.proofs.Standing.{at_entry, ready_later, full_later, grown_later}
use Rattle.closing.proofs.Turns.{waiting_chart, waiting_turned, awaited_open}
use Rattle.closing.proofs.Run.take_waiting.Goals as goal

pub predict_live-requires : goal.predict_live-requires
predict_live-requires c =
    record {
      ready = c.requires.ready;
      facts =
          waiting_chart (grammar_of c.args.self.now c.args.cells.now) c.args.self.now.tokens.now c.args.x c.args.d c.args.s c.in-Some.awaited (c.requires.ready.state.sound (Item c.args.x) (c.args.at, c.requires.taken.0, c.requires.taken.1, c.requires.taken.2)) c.requires.waits.0 (sym c.in-Some.ensures) (awaited_open c.args.x c.args.d c.args.s c.in-Some.awaited c.requires.waits.1 (sym c.in-Some.ensures));
    }

pub join_chain-requires : goal.join_chain-requires
join_chain-requires c =
    let h = c.in_ok-started.ensures in
    record { ready = ready_later c.args.self.now c.requires.ready h.0; range = (c.requires.taken.0, omega (arith, c.requires.taken.1, h.0.up)) }

pub returns-in_err-predicted : goal.returns-in_err-predicted
returns-in_err-predicted c = rw c.from_residual-in_err-predicted.ensures (full_later c.args.self.now c.in_ok-started.ensures.0 c.in_err-predicted.ensures)

pub join_chain-requires-2 : goal.join_chain-requires-2
join_chain-requires-2 c =
    let h = c.in_ok-started.ensures in
    let k = c.in_ok-predicted.ensures in
    record {
      ready = ready_later c.args.self.now (ready_later c.args.self.now c.requires.ready h.0) k.0;
      range = (c.requires.taken.0, omega (arith, c.requires.taken.1, h.0.up, k.0.up));
    }

pub returns : goal.returns
returns c =
    let r = c.args.self.now in
    let x = c.args.x in
    let h = c.in_ok-started.ensures in
    let k = c.in_ok-predicted.ensures in
    let g = grammar_of r c.predict_live.new.cells in
    let second = grammar_of r c.join_chain.new.cells in
    let whole = subst (λ (t : Key). ChainIn g c.predict_live.new.cells c.join_chain.new.cells r.room.base c.args.at (thing.TheVariants.Key t) 0 c.in_ok-predicted.predicted) c.alone-whole.ensures k.1 in
    let part = subst (λ (t : Key). Outcome second r.tokens.now c.join_chain.new.cells c.join_chain-2.new.cells r.room.base c.in_ok-predicted.predicted r.room.limit (ChainIn second c.join_chain.new.cells c.join_chain-2.new.cells r.room.base c.args.at (thing.TheVariants.Key t) 0) c.join_chain-2.result) c.waiting-part.ensures c.join_chain-2.ensures in
    let both = grown_later r h.0 k.0 in
    waiting_turned (grammar_of r c.args.cells.now) r.tokens.now c.args.cells.now c.predict_live.new.cells c.join_chain.new.cells c.join_chain-2.new.cells r.room.base c.args.end c.in_ok-started.started c.in_ok-predicted.predicted r.room.limit c.args.at x c.args.d c.args.s c.in-Some.awaited c.join_chain-2.result c.requires.ready.state.log.positive c.requires.taken.1 c.requires.taken.2 c.requires.waits.0 (sym c.in-Some.ensures)
    (awaited_open x c.args.d c.args.s c.in-Some.awaited c.requires.waits.1 (sym c.in-Some.ensures)) h
    (at_entry r (λ (g : Grammar). Grown g r.tokens.now c.predict_live.new.cells c.join_chain.new.cells r.room.base c.in_ok-started.started c.in_ok-predicted.predicted r.room.limit × ChainIn g c.predict_live.new.cells c.join_chain.new.cells r.room.base c.args.at (key_of true c.in-Some.awaited 0 0) 0 c.in_ok-predicted.predicted) h.0.later (k.0, whole))
    (at_entry r (λ (g : Grammar). Outcome g r.tokens.now c.join_chain.new.cells c.join_chain-2.new.cells r.room.base c.in_ok-predicted.predicted r.room.limit (ChainIn g c.join_chain.new.cells c.join_chain-2.new.cells r.room.base c.args.at (key_of true c.in-Some.awaited c.args.s x.end) 0) c.join_chain-2.result) both.later part)

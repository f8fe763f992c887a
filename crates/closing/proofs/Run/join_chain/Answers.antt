use Rattle.std.proofs.Common.{ℕ, Option, subst, arith}
use Rattle.grammar.specs.Grammar.{Grammar}
use Rattle.closing.specs.State.{Grown}
use Rattle.closing.specs.Joined.{PairIn}
use Rattle.closing.specs.Runs.{grammar_of}
use Rattle.closing.proofs.Chains.{Joining, chain_first, chain_again}
use Rattle.closing.proofs.Growing.{grown_same}
use Rattle.closing.proofs.Standing.{at_entry, ready_later, full_later, grown_later}
use Rattle.closing.proofs.Run.join_chain.Goals as goal

pub loop-other-init : goal.loop-other-init
loop-other-init c =
    let r = c.args.self.now in
    chain_first (grammar_of r c.args.cells.now) r.tokens.now c.args.cells.now r.room.base c.args.end r.room.limit c.args.at c.args.thing c.latest-other.result
    (grown_same (grammar_of r c.args.cells.now) r.tokens.now c.args.cells.now r.room.base c.args.end r.room.limit c.requires.ready.state) c.latest-other.ensures

pub join_pair-requires : goal.join_pair-requires
join_pair-requires c =
    let I = c.loop-other.invariant in
    let f = I.1 c.in-Some.p c.in-Some.is in
    record {
      ready = ready_later c.args.self.now c.requires.ready I.0;
      range = (c.requires.range.0, omega (arith, c.requires.range.1, I.0.up), f.2, omega (arith, c.requires.range.1, I.0.up, f.1));
    }

pub returns-in_err-mid : goal.returns-in_err-mid
returns-in_err-mid c = rw c.from_residual.ensures (full_later c.args.self.now c.loop-other.invariant.0 c.in_err-mid.ensures)

pub join_pair-requires-in-Some : goal.join_pair-requires-in-Some
join_pair-requires-in-Some c =
    let I = c.loop-other.invariant in
    let f = I.1 c.in-Some.p c.in-Some.is in
    let h = c.in_ok-mid.ensures in
    record {
      ready = ready_later c.args.self.now (ready_later c.args.self.now c.requires.ready I.0) h.0;
      range = (f.2, omega (arith, c.requires.range.1, I.0.up, h.0.up, f.1), c.requires.range.0, omega (arith, c.requires.range.1, I.0.up, h.0.up));
    }

pub returns-in_err-to : goal.returns-in_err-to
returns-in_err-to c = rw c.from_residual-in_err-to.ensures (full_later c.args.self.now c.loop-other.invariant.0 (full_later c.args.self.now c.in_ok-mid.ensures.0 c.in_err-to.ensures))

pub loop-other-preserved : goal.loop-other-preserved
loop-other-preserved c =
    let r = c.args.self.now in
    let I = c.loop-other.invariant in
    let h = c.in_ok-mid.ensures in
    let both = grown_later r I.0 h.0 in
    chain_again (grammar_of r c.args.cells.now) r.tokens.now c.args.cells.now c.loop-other.cells c.join_pair.new.cells c.join_pair-in-Some.new.cells r.room.base c.args.end c.loop-other.to c.in_ok-mid.mid c.in_ok-to.to r.room.limit c.args.at c.args.thing c.in-Some.p c.latest-other-in-Some.result
    c.requires.range.1 c.requires.ready.state.log.positive
    (subst (λ (o : Option ℕ). Joining (grammar_of r c.args.cells.now) r.tokens.now c.args.cells.now c.loop-other.cells r.room.base c.args.end c.loop-other.to r.room.limit c.args.at c.args.thing o) c.in-Some.is I)
    (at_entry r (λ (g : Grammar). Grown g r.tokens.now c.loop-other.cells c.join_pair.new.cells r.room.base c.loop-other.to c.in_ok-mid.mid r.room.limit × PairIn g c.loop-other.cells c.join_pair.new.cells r.room.base c.args.at c.in-Some.p c.in_ok-mid.mid) I.0.later h)
    (at_entry r (λ (g : Grammar). Grown g r.tokens.now c.join_pair.new.cells c.join_pair-in-Some.new.cells r.room.base c.in_ok-mid.mid c.in_ok-to.to r.room.limit × PairIn g c.join_pair.new.cells c.join_pair-in-Some.new.cells r.room.base c.in-Some.p c.args.at c.in_ok-to.to) both.later c.in_ok-to.ensures)
    c.latest-other-in-Some.ensures

use Rattle.std.proofs.Common.{◌≡◌, ℕ, subst, arith}
use Rattle.grammar.specs.Grammar.{Grammar}
use Rattle.cells.specs.declared.Fact.{Fact}
use Rattle.fact_log.specs.Log.{FactAt}
use Rattle.closing.specs.State.{Grown, ClosedTo}
use Rattle.closing.specs.Turned.{Turned}
use Rattle.closing.specs.Runs.{grammar_of}
use Rattle.closing.proofs.Standing.{at_entry, ready_later, full_later, grown_later}
use Rattle.closing.proofs.Turns.{closed_again}
use Rattle.closing.proofs.Run.close.Goals as goal

pub take-requires : goal.take-requires
take-requires c =
    let I = c.loop-at.invariant in
    record { ready = ready_later c.args.self.now c.requires.ready I.0; taken = (I.1, c.loop-at-test.true) }

pub returns-in_err-to : goal.returns-in_err-to
returns-in_err-to c = rw c.from_residual.ensures (full_later c.args.self.now c.loop-at.invariant.0 c.in_err-to.ensures)

pub loop-at-preserved : goal.loop-at-preserved
loop-at-preserved c =
    let I = c.loop-at.invariant in
    let o = at_entry c.args.self.now (λ (g : Grammar). Grown g c.args.self.now.tokens.now c.loop-at.cells c.take.new.cells c.args.self.now.room.base c.loop-at.to c.in_ok-to.to c.args.self.now.room.limit × ((f : Fact) → FactAt c.loop-at.cells c.loop-at.at f → Turned g c.args.self.now.tokens.now c.loop-at.cells c.take.new.cells c.args.self.now.room.base c.loop-at.at f c.in_ok-to.to)) I.0.later c.in_ok-to.ensures in (
      grown_later c.args.self.now I.0 c.in_ok-to.ensures.0,
      omega (arith, I.1),
      omega (arith, o.0.up, c.loop-at-test.true),
      closed_again (grammar_of c.args.self.now c.args.cells.now) c.args.self.now.tokens.now c.loop-at.cells c.take.new.cells c.args.self.now.room.base c.loop-at.at c.loop-at.to c.in_ok-to.to c.args.self.now.room.limit c.loop-at-test.true I.1 I.3 o.0 o.1,
    )

pub returns : goal.returns
returns c =
    let I = c.loop-at.invariant in
    let end : c.loop-at.at ≡ c.loop-at.to = omega (arith, I.2, c.loop-at-test.false) in
    (I.0, subst (λ (k : ℕ). ClosedTo (grammar_of c.args.self.now c.args.cells.now) c.args.self.now.tokens.now c.loop-at.cells c.args.self.now.room.base k c.loop-at.to) end I.3)

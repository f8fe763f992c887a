use Rattle.std.proofs.Common.{ℕ, Option, length, subst, arith}
use Rattle.grammar.specs.Grammar.{Grammar}
use Rattle.cells.specs.declared.Fact.{Fact}
use Rattle.fact_log.specs.Log.{FactAt}
use Rattle.fact_log.specs.declared.things.Thing.TheVariants.{Due}
use Rattle.closing.specs.State.{Grown}
use Rattle.closing.specs.Turned.{Turned}
use Rattle.closing.specs.Runs.{grammar_of}
use Rattle.closing.proofs.Growing.{grown_same}
use Rattle.closing.proofs.Standing.{at_entry, ready_later, full_later}
use Rattle.extending.proofs.Opened.{Taking, due_first, due_again}
use Rattle.extending.proofs.opening.open_due.Goals as goal

pub loop-item-init : goal.loop-item-init
loop-item-init c =
    let r = c.args.run.now in
    let g = grammar_of r c.args.cells.now in
    due_first g r.tokens.now c.args.cells.now r.room.base c.args.end r.room.limit (Due (length r.tokens.now)) c.latest-item.result (grown_same g r.tokens.now c.args.cells.now r.room.base c.args.end r.room.limit c.requires.ready.state) c.latest-item.ensures

pub take-requires : goal.take-requires
take-requires c =
    let I = c.loop-item.invariant in
    let f = I.1 c.in-Some.p c.in-Some.is in
    record { ready = ready_later c.args.run.now c.requires.ready I.0; taken = (f.1, omega (arith, f.2, I.0.up)) }

pub returns-in_err-to : goal.returns-in_err-to
returns-in_err-to c = rw c.from_residual.ensures (full_later c.args.run.now c.loop-item.invariant.0 c.in_err-to.ensures)

pub loop-item-preserved : goal.loop-item-preserved
loop-item-preserved c =
    let r = c.args.run.now in
    let I = c.loop-item.invariant in
    due_again (grammar_of r c.args.cells.now) r.tokens.now c.args.cells.now c.loop-item.cells c.take.new.cells r.room.base c.args.end c.loop-item.to c.in_ok-to.to r.room.limit (Due (length r.tokens.now)) c.in-Some.p c.latest-item-in-Some.result
    (subst (λ (o : Option ℕ). Taking (grammar_of r c.args.cells.now) r.tokens.now c.args.cells.now c.loop-item.cells r.room.base c.args.end c.loop-item.to r.room.limit (Due (length r.tokens.now)) o) c.in-Some.is I)
    (at_entry r (λ (g : Grammar). Grown g r.tokens.now c.loop-item.cells c.take.new.cells r.room.base c.loop-item.to c.in_ok-to.to r.room.limit × ((f : Fact) → FactAt c.loop-item.cells c.in-Some.p f → Turned g r.tokens.now c.loop-item.cells c.take.new.cells r.room.base c.in-Some.p f c.in_ok-to.to)) I.0.later c.in_ok-to.ensures)
    c.latest-item-in-Some.ensures

pub returns : goal.returns
returns c =
    let r = c.args.run.now in
    let I = subst (λ (o : Option ℕ). Taking (grammar_of r c.args.cells.now) r.tokens.now c.args.cells.now c.loop-item.cells r.room.base c.args.end c.loop-item.to r.room.limit (Due (length r.tokens.now)) o) c.in_default.is c.loop-item.invariant in
    (I.0, I.2)

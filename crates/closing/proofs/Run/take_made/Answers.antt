use Rattle.std.proofs.Common.{subst, arith}
use Rattle.grammar.specs.Grammar.{Grammar}
use Rattle.fact_log.specs.declared.things.Key.{Key}
use Rattle.fact_log.specs.declared.things.Thing as thing
use Rattle.closing.specs.State.{Grown}
use Rattle.closing.specs.Joined.{ChainIn, PartIn}
use Rattle.closing.specs.Runs.{grammar_of}
use Rattle.closing.proofs.Standing.{at_entry, ready_later, full_later}
use Rattle.closing.proofs.Turns.{parted_again, made_turned}
use Rattle.closing.proofs.Run.take_made.Goals as goal

pub loop-s-init : goal.loop-s-init
loop-s-init c =
    let r = c.args.self.now in
    let h = c.in_ok-to.ensures in
    record {
      grown = h.0;
      wholes = subst (λ (t : Key). ChainIn (grammar_of r c.args.cells.now) c.args.cells.now c.join_chain.new.cells r.room.base c.args.at (thing.TheVariants.Key t) 0 c.in_ok-to.to) c.alone.ensures h.1;
      parts = λ k one below. absurd (omega (arith, one, below));
    }

pub join_part-requires : goal.join_part-requires
join_part-requires c =
    let I = c.loop-s.invariant in
    record { ready = ready_later c.args.self.now c.requires.ready I.grown; range = (c.requires.taken.0, omega (arith, c.requires.taken.1, I.grown.up)) }

pub returns-in_err-to-2 : goal.returns-in_err-to-2
returns-in_err-to-2 c = rw c.from_residual-in_err-to-2.ensures (full_later c.args.self.now c.loop-s.invariant.grown c.in_err-to-2.ensures)

pub loop-s-preserved : goal.loop-s-preserved
loop-s-preserved c =
    let r = c.args.self.now in
    let I = c.loop-s.invariant in
    parted_again (grammar_of r c.args.cells.now) r.tokens.now c.args.cells.now c.loop-s.cells c.join_part.new.cells r.room.base c.args.end r.room.limit c.args.at c.args.made.left c.loop-s.s c.loop-s.to c.in_ok-to-2.to c.requires.taken.1 I
    (at_entry r (λ (g : Grammar). Grown g r.tokens.now c.loop-s.cells c.join_part.new.cells r.room.base c.loop-s.to c.in_ok-to-2.to r.room.limit × PartIn g c.loop-s.cells c.join_part.new.cells r.room.base c.args.at c.args.made.left c.loop-s.s c.in_ok-to-2.to) I.grown.later c.in_ok-to-2.ensures)

pub returns : goal.returns
returns c =
    let r = c.args.self.now in
    made_turned (grammar_of r c.args.cells.now) r.tokens.now c.args.cells.now c.loop-s.cells r.room.base c.args.end r.room.limit c.args.at c.args.made c.loop-s.s c.loop-s.to c.requires.ready.state c.requires.taken.1 c.requires.taken.2 c.loop-s-test.false c.loop-s.invariant

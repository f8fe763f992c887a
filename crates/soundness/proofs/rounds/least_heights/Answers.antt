use Rattle.std.proofs.Common.{refl, arith}
use Rattle.faults.proofs.Made.{made_sound}
use Rattle.soundness.proofs.Growth.{begun_first}
use Rattle.soundness.proofs.Turns.{least_at_last, least_at_all}
use Rattle.soundness.proofs.rounds.least_heights.Goals as goal

pub loop-round-init : goal.loop-round-init
loop-round-init g c = (begun_first (g.S.Source.meaning c.args.grammar.now.source.now) 64, refl, omega arith)

pub returns-then-not-run_round-clause-least : goal.returns-then-not-run_round-clause-least
returns-then-not-run_round-clause-least g c = least_at_last (g.S.Source.meaning c.args.grammar.now.source.now) c.loop-round.round c.loop-round.heights c.run_round.new.heights c.run_round.result c.run_round.ensures c.if-not-run_round.true

pub returns-clause-least : goal.returns-clause-least
returns-clause-least g c =
    let m = g.S.Source.meaning c.args.grammar.now.source.now in
    least_at_all m c.loop-round.round c.loop-round.heights (made_sound m c.args.grammar.now.faultless) c.loop-round.invariant.0 c.loop-round.invariant.1 c.loop-round.invariant.2 c.loop-round-test.false

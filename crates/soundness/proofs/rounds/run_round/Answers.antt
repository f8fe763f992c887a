use Rattle.std.proofs.Common.{◌≡◌, length, arith}
use Rattle.faults.proofs.Made.{made_sound}
use Rattle.soundness.proofs.Turns.{turn_first, turn_found, turn_none, turn_last}
use Rattle.soundness.proofs.rounds.run_round.Goals as goal
use Rattle.soundness.proofs.rounds.run_round.Goals.{in-Some, in_default}

pub loop-p-init : goal.loop-p-init
loop-p-init g c = turn_first (g.S.Source.meaning c.args.grammar.now.source.now) c.args.round c.args.heights.now c.requires.begun

pub loop-p-preserved : goal.loop-p-preserved
loop-p-preserved g c =
    let m = g.S.Source.meaning c.args.grammar.now.source.now in
    let s = made_sound m c.args.grammar.now.faultless in
    elim c.match-found_at.branch [
      | in-Some w ↦
          turn_found m c.args.round c.loop-p.p w.in-Some.c c.args.heights.now c.loop-p.heights c.match-found_at.heights c.loop-p.any c.match-found_at.any
          s c.requires.counts c.loop-p.invariant w.in-Some.ensures w.heights-is w.any-is
      | in_default w ↦
          turn_none m c.args.round c.loop-p.p c.args.heights.now c.loop-p.heights c.match-found_at.heights c.loop-p.any c.match-found_at.any
          s (omega (arith, c.requires.len, c.loop-p.auto.heights)) c.loop-p.invariant w.in_default.ensures w.heights-is w.any-is
    ]

pub returns : goal.returns
returns g c =
    let m = g.S.Source.meaning c.args.grammar.now.source.now in
    let e : c.loop-p.p ≡ length m.places = omega (arith, c.loop-p-test.false, c.loop-p.auto.p-end, c.places-p-end.ensures) in
    turn_last m c.args.round c.loop-p.p c.args.heights.now c.loop-p.heights c.loop-p.any e c.loop-p.invariant

use Rattle.soundness.proofs.Turns.{Turn}
use Rattle.soundness.proofs.rounds.run_round.Given as goal

abbrev pub invariant-loop-p : goal.invariant-loop-p
invariant-loop-p g l = Turn (g.S.Source.meaning l.grammar.source.now) l.round l.p l.initial.heights l.heights l.any

use Rattle.std.proofs.Common.{◌≡◌, ◌+◌, ◌≤◌, length}
use Rattle.soundness.specs.Rounds.{Begun, found_count}
use Rattle.soundness.proofs.rounds.least_heights.Given as goal

abbrev pub invariant-loop-round : goal.invariant-loop-round
invariant-loop-round g l = Begun (g.S.Source.meaning l.grammar.source.now) l.round l.heights × (length l.heights ≡ 64) × (l.round ≤ found_count l.heights + 1)

use Rattle.std.proofs.Common.{rules, tests}
use Rattle.faults.proofs.Scan.{some_by}
use Rattle.soundness.specs.Rounds.{late_in}
use Rattle.soundness.proofs.rounds.arguments_late.Goals as goal

pub returns : goal.returns
returns g c = some_by (late_in c.args.heights.now c.args.round) (λ x b k. search (rules, tests)) _ _ c.any_argument.ensures

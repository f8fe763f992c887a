use Rattle.std.proofs.Common.{arith}
use Rattle.calls.proofs.Feedings.{marked_only}
use Rattle.calls.proofs.feeding.goes_on.Goals as goal

pub returns : goal.returns
returns c =
    λ g w h.
    let few = h.sound.tokens in
    let count = h.counted.tokens in
    marked_only g w 1024 c.next_marks-marks.result (c.next_marks-marks.ensures g w h) c.args.token (omega (arith, c.requires.known))

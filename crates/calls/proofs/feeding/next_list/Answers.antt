use Rattle.std.proofs.Common.{rules}
use Rattle.calls.proofs.Feedings.{next_listed}
use Rattle.calls.proofs.feeding.next_list.Goals as goal

pub returns : goal.returns
returns c =
    λ g w h.
    next_listed g w c.next_marks-marks.result c.args.list.now c.marked.new.list c.marked.result h.sound h.known (search rules) (c.next_marks-marks.ensures g w h) c.marked.ensures

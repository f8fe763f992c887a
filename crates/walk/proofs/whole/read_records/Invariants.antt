use Rattle.std.proofs.Common.{◌-◌, ◌≤◌, length}
use Rattle.records.specs.Kinds.{number_before}
use Rattle.walk.proofs.Reading.{Leads}
use Rattle.walk.proofs.whole.read_records.Given as goal

abbrev pub invariant-loop-offset : goal.invariant-loop-offset
invariant-loop-offset l = (l.offset ≤ length l.bytes) × Leads l.bytes l.offset (number_before l.before)

abbrev pub decreases-loop-offset : goal.decreases-loop-offset
decreases-loop-offset l = length l.bytes - l.offset

use Rattle.std.proofs.Common.{◌-◌, length}
use Rattle.walk.proofs.Listing.{Sofar}
use Rattle.walk.proofs.catalogue.Catalogue.of.Given as goal

abbrev pub invariant-loop-record : goal.invariant-loop-record
invariant-loop-record l = Sofar l.bytes l.group l.offsets l.count l.offset

abbrev pub decreases-loop-record : goal.decreases-loop-record
decreases-loop-record l = length l.bytes - l.offset

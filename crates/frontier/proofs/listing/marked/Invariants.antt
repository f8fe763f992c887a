use Rattle.std.proofs.Common.{◌≡◌, ◌≤◌, ◌++◌, length, take, drop}
use Rattle.frontier.specs.Listing.{marked_of}
use Rattle.frontier.proofs.listing.marked.Given as goal

abbrev pub invariant-loop-t : goal.invariant-loop-t
invariant-loop-t l = (l.n ≤ l.t) × (l.n ≡ length (marked_of (take l.t l.marks))) × (l.list ≡ marked_of (take l.t l.marks) ++ drop l.n l.initial.list)

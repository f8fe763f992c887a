-- What the loop of `weighted_sum` keeps true. Assumes nothing.
use Rattle.std.proofs.Common.{◌≡◌}
use Rattle.std.specs.Slice.Iter.{iter_rest}
use Rattle.std.specs.Iterator.Adapters.{zip_first, zip_second}
use Rattle.algebra.specs.Sums.{sum_of, weighted}
use Rattle.algebra.proofs.weighted_sum.Given as goal

-- the total so far and the sum over the pairs to come are the whole sum
abbrev pub invariant-loop-weight : goal.invariant-loop-weight
invariant-loop-weight g l =
    let a = g.A.Algebra in
    a.plus l.total (sum_of a.nought a.plus (weighted a.times a.reads (iter_rest (zip_first l.weight-iterator)) (iter_rest (zip_second l.weight-iterator))))
    ≡ sum_of a.nought a.plus (weighted a.times a.reads l.weights l.values)

-- `weighted_sum` keeps its invariant, and ends with the whole sum, by the laws of the algebra. Assumes nothing.
use Rattle.std.proofs.Common.{◌≡◌, ap, ◌∙◌}
use Rattle.std.specs.Slice.Iter.{iter_rest}
use Rattle.std.specs.Iterator.Adapters.{zip_first, zip_second}
use Rattle.std.proofs.lemmas.Slice.Zip.{Zip-more, either_empty_from_Zip}
use Rattle.algebra.specs.Sums.{sum_of, weighted}
use Rattle.algebra.proofs.Sums.{zero_sum}
use Rattle.algebra.proofs.Weighted.{weighted_more, weighted_all}
use Rattle.algebra.proofs.weighted_sum.Goals as goal

pub loop-weight-init : goal.loop-weight-init
loop-weight-init g c =
    let a = g.A.Algebra in
    let start = c.into_iter-weight-iterator.result in
    let first : iter_rest (zip_first start) ≡ c.args.weights.now =
    ap (λ s. iter_rest (zip_first s)) c.into_iter-weight-iterator.ensures.into_iter_gives ∙ ap iter_rest c.zip-weight-items.ensures.first ∙ c.iter.ensures.rest in
    let second : iter_rest (zip_second start) ≡ c.args.values.now =
    ap (λ s. iter_rest (zip_second s)) c.into_iter-weight-iterator.ensures.into_iter_gives ∙ ap iter_rest c.zip-weight-items.ensures.second ∙ c.iter-2.ensures.rest in
    let whole = zero_sum g.met.A.Algebra.lawful (sum_of a.nought a.plus (weighted a.times a.reads c.args.weights.now c.args.values.now)) in
    cc

pub loop-weight-preserved : goal.loop-weight-preserved
loop-weight-preserved g c =
    let turn = Zip-more c.loop-weight.weight-iterator c.next.new.self c.next.result (c.in-Some.weight, c.in-Some.value) c.in-Some.is c.next.ensures.steps in
    let more = weighted_more g.met.A.Algebra.lawful c.loop-weight.total _ _ _ _ _ _ turn.0 turn.1 in
    let inv = c.loop-weight.invariant in
    cc

pub returns : goal.returns
returns g c =
    let none = either_empty_from_Zip c.loop-weight.weight-iterator c.next.new.self c.next.result c.in-None.is c.next.ensures.steps in
    let all = weighted_all g.met.A.Algebra.lawful c.loop-weight.total _ _ none in
    let inv = c.loop-weight.invariant in
    cc

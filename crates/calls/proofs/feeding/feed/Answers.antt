use Rattle.std.proofs.Common.{refl, arith}
use Rattle.std.proofs.lemmas.Bool.Decides.{not_from_Decides}
use Rattle.calls.proofs.Feedings.{fed_more}
use Rattle.calls.proofs.feeding.feed.Goals as goal

pub returns-then-not-goes_on : goal.returns-then-not-goes_on
returns-then-not-goes_on c =
    λ g w h.
    let count = h.counted.tokens in
    let many = h.many in
    (omega arith, omega arith, not_from_Decides c.goes_on.result (c.goes_on.ensures g w h) c.if-not-goes_on.true, refl)

pub returns : goal.returns
returns c =
    λ g w h.
    let count = h.counted.tokens in
    let many = h.many in
    rw c.ok_or.ensures.value
    (fed_more g w c.args.token c.args.cells.now c.extend_by.new.cells c.args.numbers c.extend_by.result (record { known = omega arith; room = omega arith; goes_on = (c.goes_on.ensures g w h).0 c.if-not-goes_on.false }) (c.extend_by.ensures g w h))

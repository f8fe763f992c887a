use Rattle.std.proofs.Common.{◌≡◌, true, false, rules, tests}
use Rattle.std.proofs.lemmas.Iterator.{first_from_Range}
use Rattle.sources_tests.proofs.Emptiness.{filled, found}
use Rattle.sources_tests.proofs.first_empty_place.Goals as goal

pub returns : goal.returns
returns g c =
    let ps = (g.S.Source.meaning c.args.source.now).places in
    found ps c.places.result c.find.result c.places.ensures
    (first_from_Range _ _ _ c.find.result (λ i. filled ps i ≡ false) (λ i. filled ps i ≡ true) c.find.ensures.ran
    (λ x q k. search (rules, tests)) (λ x q k. search (rules, tests)))

use Rattle.std.proofs.Common.{ℕ, not, nat_lt, rules, tests}
use Rattle.faults.proofs.Scan.{some_by}
use Rattle.faults.proofs.things.place_unnamed.Goals as goal

pub returns-else-filled-categories : goal.returns-else-filled-categories
returns-else-filled-categories g c =
    let m = g.S.Source.meaning c.args.source.now in
    let scanned = some_by (λ (category : ℕ). not (nat_lt category c.categories-categories.result)) (λ x b k. search (rules, tests)) _ _ c.any_argument.ensures in
    search (rules, tests)

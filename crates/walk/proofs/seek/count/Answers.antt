use Rattle.std.proofs.Common.{rules, ◌≡◌, length, ap, ◌∙◌, arith, inl}
use borrow.Author.Tests.{tests}
use Rattle.std.proofs.lemmas.Iterator.Consumers.{YieldsList-at, YieldsList-from_first, YieldsList-from_filter, count_from_yields_List}
use Rattle.walk.specs.Groups.{belongs, grouped}
use Rattle.records.specs.Records.{viewed, entries_from}
use Rattle.records.specs.Row.{entries_left}
use Rattle.walk.proofs.Seeking.{few}
use Rattle.walk.proofs.seek.count.Goals as goal

pub count-requires-clause-fits : goal.count-requires-clause-fits
count-requires-clause-fits c =
    let left : length (entries_left c.filter.result.iter) ≡ length (entries_from c.args.bytes.now 0) = ap (λ r. length (entries_left r)) c.filter.ensures.source ∙ ap length c.records_from.ensures in
    let most = few c.args.bytes.now 0 in
    inl (omega (arith, left, most))

pub returns : goal.returns
unfolding grouped
returns c =
    count_from_yields_List _ c.count.result c.count.ensures.ran
    (YieldsList-from_filter _ (λ e. belongs c.args.group e.kind)
    (YieldsList-at c.filter.ensures.source (YieldsList-from_first viewed entries_left (entries_from c.args.bytes.now 0) c.records_from.ensures)) c.filter.ensures.closure (λ x b q k. search (rules, tests)))

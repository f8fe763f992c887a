use Rattle.std.proofs.Common.{rules, ◌≡◌, length, min, ap, ◌∙◌, sym, arith, inl}
use borrow.Author.Tests.{tests}
use Rattle.std.proofs.lemmas.Iterator.Consumers.{YieldsList-at, YieldsList-from_first, count_from_yields_List}
use Rattle.std.proofs.lemmas.Iterator.Search.{YieldsList-from_take_while}
use Rattle.records.specs.Meaning.{is_constituent, most}
use Rattle.records.specs.Records.{viewed, entries_from}
use Rattle.records.specs.Row.{entries_left}
use Rattle.walk.proofs.Seeking.{constituents_are, few}
use Rattle.walk.proofs.seek.count_constituents.Goals as goal

pub count-n-requires-clause-fits : goal.count-n-requires-clause-fits
count-n-requires-clause-fits c =
    let left : length (entries_left c.take_while.result.iter) ≡ length (entries_from c.args.bytes.now c.args.from) = ap (λ r. length (entries_left r)) c.take_while.ensures.source ∙ ap length c.records_from.ensures in
    let all = few c.args.bytes.now c.args.from in
    inl (omega (arith, left, all))

pub returns : goal.returns
returns c =
    c.up_to_most.ensures
    ∙ ap (min most) (count_from_yields_List _ c.count-n.result c.count-n.ensures.ran
    (YieldsList-from_take_while _ is_constituent
    (YieldsList-at c.take_while.ensures.source (YieldsList-from_first viewed entries_left (entries_from c.args.bytes.now c.args.from) c.records_from.ensures)) c.take_while.ensures.closure c.take_while.ensures.done (λ x b q k. search (rules, tests)))
    ∙ sym (ap length (constituents_are (entries_from c.args.bytes.now c.args.from))))

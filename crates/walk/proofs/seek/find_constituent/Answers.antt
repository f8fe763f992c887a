use Rattle.std.proofs.Common.{rules, ap, ◌∙◌, sym}
use borrow.Author.Tests.{tests}
use Rattle.std.proofs.lemmas.Iterator.Consumers.{YieldsList-at, YieldsList-from_first, nth_from_yields_List}
use Rattle.std.proofs.lemmas.Iterator.Search.{YieldsList-from_take_while}
use Rattle.std.specs.List.{slice_get}
use Rattle.records.specs.Meaning.{is_constituent}
use Rattle.records.specs.Records.{viewed, entries_from}
use Rattle.records.specs.Row.{entries_left}
use Rattle.walk.proofs.Seeking.{constituents_are}
use Rattle.walk.proofs.seek.find_constituent.Goals as goal

pub returns : goal.returns
returns c =
    nth_from_yields_List c.nth.result c.nth.new.self c.args.index c.nth.ensures.ran
    (YieldsList-from_take_while _ is_constituent
    (YieldsList-at c.take_while.ensures.source (YieldsList-from_first viewed entries_left (entries_from c.args.bytes.now c.args.from) c.records_from.ensures)) c.take_while.ensures.closure c.take_while.ensures.done (λ x b q k. search (rules, tests)))
    ∙ sym (ap (λ es. slice_get es c.args.index) (constituents_are (entries_from c.args.bytes.now c.args.from)))

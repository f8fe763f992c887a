use Rattle.std.proofs.Common.{rules}
use borrow.Author.Tests.{tests}
use Rattle.std.proofs.lemmas.Iterator.{YieldsList-from_take}
use Rattle.std.proofs.lemmas.Iterator.Consumers.{YieldsList-at, YieldsList-from_first, YieldsList-from_filter, nth_from_yields_List}
use Rattle.walk.specs.Groups.{belongs, grouped}
use Rattle.records.specs.Meaning.{most}
use Rattle.records.specs.Records.{viewed, entries_from}
use Rattle.records.specs.Row.{entries_left}
use Rattle.walk.proofs.seek.find_from.Goals as goal

pub returns : goal.returns
unfolding grouped
returns c =
    nth_from_yields_List c.nth.result c.nth.new.self c.args.index c.nth.ensures.ran
    (YieldsList-from_take most
    (YieldsList-at c.take.ensures.source
    (YieldsList-from_filter _ (λ e. belongs c.args.group e.kind)
    (YieldsList-at c.filter.ensures.source (YieldsList-from_first viewed entries_left (entries_from c.args.bytes.now c.args.start) c.records_from.ensures)) c.filter.ensures.closure (λ x b q k. search (rules, tests))))
    c.take.ensures.count)

use Rattle.std.proofs.Common.{◌≡◌, ◌<◌, ◌≤◌, length, Some, sym, ap, ◌∙◌, arith}
use Rattle.std.proofs.lemmas.Bool.{ltb-false}
use Rattle.std.proofs.lemmas.Option.{slice_get_within}
use Rattle.std.specs.List.{slice_get}
use Rattle.std.specs.Option.{option_map}
use Rattle.records.specs.Meaning.{most}
use Rattle.records.specs.Records.{viewed, entries_from}
use Rattle.records.proofs.Chunks.{lent}
use Rattle.walk.specs.Groups.{grouped}
use Rattle.walk.proofs.Listing.{none_past_most, found_listed, found_after, rest_at, past_count, below_count, listed_at, few_listed}
use Rattle.walk.proofs.Seeking.{result_inside}
use Rattle.walk.proofs.catalogue.Catalogue.find.Goals as goal

pub returns-then-index-count_up_to_most-clause-value : goal.returns-then-index-count_up_to_most-clause-value
returns-then-index-count_up_to_most-clause-value c =
    let catalogue = c.args.self.now in
    none_past_most c.args.bytes.now c.args.group c.args.index
    (past_count most catalogue.count (length (grouped c.args.group (entries_from c.args.bytes.now 0))) c.args.index c.count_up_to_most.result c.count_up_to_most.ensures c.requires.0 c.if-index-count_up_to_most.true)

pub returns-in-Some-clause-value : goal.returns-in-Some-clause-value
returns-in-Some-clause-value c =
    let catalogue = c.args.self.now in
    let o = c.in-Some.field-0.now in
    let listed : slice_get catalogue.offsets c.args.index ≡ Some o = sym (lent catalogue.offsets c.args.index (Some c.in-Some.field-0) c.in-Some.ensures.lookup) in
    let whole : length catalogue.offsets ≡ 512 = catalogue.whole in
    let small = few_listed (length catalogue.offsets) c.args.index whole (slice_get_within catalogue.offsets c.args.index o listed) in
    let below = below_count most catalogue.count c.args.index c.count_up_to_most.result c.count_up_to_most.ensures c.if-index-count_up_to_most.false in
    ap (option_map viewed) c.ok.ensures.value
    ∙ found_listed c.args.bytes.now c.args.group catalogue c.args.index o c.requires below.1 small listed c.record_at.result c.record_at.ensures

pub returns-in-Some-clause-inside : goal.returns-in-Some-clause-inside
returns-in-Some-clause-inside c = result_inside c.args.bytes.now c.args.group c.args.index c.ok.result (returns-in-Some-clause-value c)

pub returns-in-None-clause-value : goal.returns-in-None-clause-value
returns-in-None-clause-value c =
    let catalogue = c.args.self.now in
    let whole : length catalogue.offsets ≡ 512 = catalogue.whole in
    let below = below_count most catalogue.count c.args.index c.count_up_to_most.result c.count_up_to_most.ensures c.if-index-count_up_to_most.false in
    let end = ltb-false c.args.index (length catalogue.offsets) (sym c.in-None.ensures.lookup.0) in
    let past : 512 ≤ c.args.index = omega (arith, whole, end) in
    let some : 511 < catalogue.count = omega (arith, past, below.1) in
    c.find_from.ensures
    ∙ found_after c.args.bytes.now c.args.group 511 _ c.args.index (rest_at c.args.bytes.now c.args.group 511 _ (c.requires.1 511 _ some (listed_at catalogue.offsets 511 (omega (arith, whole))))) (omega (arith, past)) below.0

pub returns-in-None-clause-inside : goal.returns-in-None-clause-inside
returns-in-None-clause-inside c = result_inside c.args.bytes.now c.args.group c.args.index c.find_from.result (returns-in-None-clause-value c)

use Rattle.std.proofs.Common.{◌≡◌, ◌≤◌, length, Ok, sym, ◌∙◌, arith}
use Rattle.records.specs.Records.{viewed, entry_at}
use Rattle.records.proofs.Rows.{stands}
use Rattle.walk.proofs.Listing.{passed, added, added_full, moved, room, all_counted}
use Rattle.walk.proofs.catalogue.Catalogue.of.Goals as goal
use Rattle.walk.proofs.catalogue.Catalogue.of.Goals.{then-has, then-count-lt-LISTED, else-count-lt-LISTED, else-has}

pub overflow_add-count : goal.overflow_add-count
overflow_add-count c =
    let more = room c.args.bytes.now c.args.group (sym c.in-Ok.ensures) (sym c.if-has.ensures) c.loop-record.invariant in
    omega (arith, more)

pub loop-record-preserved : goal.loop-record-preserved
loop-record-preserved c =
    let bs = c.args.bytes.now in
    let group = c.args.group in
    let xs = c.loop-record.offsets in
    let n = c.loop-record.count in
    let o = c.loop-record.offset in
    let e = viewed c.in-Ok.record in
    let read : entry_at bs o ≡ Ok e = sym c.in-Ok.ensures in
    let s = stands bs o e read in
    let f = c.loop-record.invariant in
    elim c.if-has.branch [
      | then-has w ↦ elim w.if-count-lt-LISTED.branch [
        | then-count-lt-LISTED v ↦ moved bs group (w.offsets-is ∙ v.offsets-is) (omega (arith, w.count-is)) c.end-offset.ensures (added bs group xs n o e read (sym w.if-has.ensures) s.here f)
        | else-count-lt-LISTED v ↦
            let whole = f.whole in
            let full : length xs ≤ n = omega (arith, whole, v.if-count-lt-LISTED.false) in
            moved bs group (w.offsets-is ∙ v.offsets-is) (omega (arith, w.count-is)) c.end-offset.ensures (added_full bs group xs n o e read (sym w.if-has.ensures) full f)
      ]
      | else-has w ↦ moved bs group w.offsets-is w.count-is c.end-offset.ensures (passed bs group xs n o e read (sym w.if-has.ensures) f)
    ]

pub invariant_of-result : goal.invariant_of-result
invariant_of-result c = record { whole = c.loop-record.invariant.whole }

pub returns : goal.returns
returns c =
    let f = c.loop-record.invariant in
    (all_counted c.args.bytes.now c.args.group c.loop-record.offsets c.loop-record.count c.loop-record.offset _ (sym c.in_default.ensures) f, f.listed)

use Rattle.std.proofs.Common.{◌≡◌, Ok, sym, subst, arith}
use Rattle.std.proofs.lemmas.Result.{err_from_is_err_and}
use Rattle.records.specs.Kinds.{kind_number, number_before}
use Rattle.records.specs.Records.{viewed, entry_at}
use Rattle.walk.proofs.Reading.{Leads, leads_more, ends_good, ends_bad}
use Rattle.records.proofs.Rows.{stands, read_fault, read_misplaced}
use Rattle.walk.proofs.whole.read_records.Goals as goal

pub loop-offset-preserved : goal.loop-offset-preserved
loop-offset-preserved c =
    let bs = c.args.bytes.now in
    let e = viewed c.in_ok-record.record in
    let read : entry_at bs c.loop-offset.offset ≡ Ok e = sym c.in_ok-record.ensures in
    let s = stands bs c.loop-offset.offset e read in
    let on = leads_more bs c.loop-offset.offset (number_before c.loop-offset.before) e c.loop-offset-test.true read (sym c.if-not-may_follow.ensures) c.loop-offset.invariant.1 in
    (omega (arith, s.inside), subst (λ o. Leads bs o (kind_number e.kind)) (sym c.end-offset.ensures) on)

pub returns-in_err-record : goal.returns-in_err-record
returns-in_err-record c =
    let p = err_from_is_err_and c.from_residual.result c.from_residual.ensures.1 in
    let bad = read_fault c.args.bytes.now c.loop-offset.offset (number_before c.loop-offset.before) _ c.loop-offset-test.true (sym c.in_err-record.ensures) in
    rw (p.1, p.2) (sym (c.loop-offset.invariant.1.fault _ bad))

pub returns-then-not-may_follow : goal.returns-then-not-may_follow
returns-then-not-may_follow c =
    let bs = c.args.bytes.now in
    let o = c.loop-offset.offset in
    let e = viewed c.in_ok-record.record in
    let read : entry_at bs o ≡ Ok e = sym c.in_ok-record.ensures in
    let bad = read_misplaced bs o (number_before c.loop-offset.before) e c.loop-offset-test.true read (sym c.if-not-may_follow.ensures) in
    sym (c.loop-offset.invariant.1.fault _ bad)

pub returns-then-is_none : goal.returns-then-is_none
returns-then-is_none c =
    sym (ends_bad c.args.bytes.now c.loop-offset.offset c.loop-offset.before c.loop-offset-test.false c.if-is_none.ensures c.loop-offset.invariant.1)

pub returns : goal.returns
returns c =
    sym (ends_good c.args.bytes.now c.loop-offset.offset c.loop-offset.before c.loop-offset-test.false c.if-is_none.ensures c.loop-offset.invariant.1)

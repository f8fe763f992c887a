use Rattle.std.proofs.Common.{rules, length, ap, arith}
use Rattle.records.proofs.Rows.{none_left, one_left}
use Rattle.records.proofs.row.RecordsIterator.next.Goals as goal

pub returns-in_err-record-clause-steps : goal.returns-in_err-record-clause-steps
returns-in_err-record-clause-steps c =
    let none = none_left c.args.self.now.bytes.now c.args.self.now.offset c.record_at.result c.record_at.ensures (search rules) in
    rw c.from_residual.ensures (none, none)

pub returns-clause-steps : goal.returns-clause-steps
returns-clause-steps c =
    let one = one_left c.args.self.now.bytes.now c.args.self.now.offset c.record_at.result c.in_ok-record.record c.record_at.ensures (search rules) in
    let next = c.end-self.ensures in
    rw next one

pub returns-clause-goes : goal.returns-clause-goes
returns-clause-goes c =
    let one = ap length (one_left c.args.self.now.bytes.now c.args.self.now.offset c.record_at.result c.in_ok-record.record c.record_at.ensures (search rules)) in
    let next = c.end-self.ensures in
    record { on = λ f. rw next (tt, tt, omega (arith, one)); keeps = tt; rests = λ f. tt }

use Rattle.std.proofs.Common.{rules, ◌∙◌, sym}
use Rattle.records.proofs.Entries.{Cut, entry_unknown, entry_known}
use Rattle.records.proofs.records.record_at.Goals as goal

pub returns-in_err-kind-2 : goal.returns-in_err-kind-2
returns-in_err-kind-2 c =
    let cut : Cut c.args.bytes.now c.args.offset c.in_ok-length.length.now c.in_ok-content.content.now c.in_ok-kind.kind.now c.in_ok-kind.body.now =
    record { inside = search rules; length_is = search rules; room = search rules; content_is = search rules; least = search rules; kind_is = search rules; body_is = search rules } in
    search rules ∙ sym (entry_unknown cut (search rules))

pub returns-then-not-fits : goal.returns-then-not-fits
returns-then-not-fits c =
    let cut : Cut c.args.bytes.now c.args.offset c.in_ok-length.length.now c.in_ok-content.content.now c.in_ok-kind.kind.now c.in_ok-kind.body.now =
    record { inside = search rules; length_is = search rules; room = search rules; content_is = search rules; least = search rules; kind_is = search rules; body_is = search rules } in
    sym (entry_known cut (search rules) c.if-not-fits.ensures)

pub returns : goal.returns
returns c =
    let cut : Cut c.args.bytes.now c.args.offset c.in_ok-length.length.now c.in_ok-content.content.now c.in_ok-kind.kind.now c.in_ok-kind.body.now =
    record { inside = search rules; length_is = search rules; room = search rules; content_is = search rules; least = search rules; kind_is = search rules; body_is = search rules } in
    sym (entry_known cut (search rules) c.if-not-fits.ensures)

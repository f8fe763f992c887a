use Rattle.std.proofs.Common.{Some, None, min, length, ap, ◌∙◌}
use Rattle.records.specs.Meaning.{constituents_first, most}
use Rattle.records.specs.Records.{viewed, entries_from}
use Rattle.walk.proofs.Questions.{constituents_answer}
use Rattle.packed.proofs.file.PackedSource.constituents.Goals as goal

pub returns-in_err-record : goal.returns-in_err-record
returns-in_err-record c = rw c.from_residual.ensures (constituents_answer c.args.self.now.bytes.now c.args.function None c.in_err-record.ensures.value)

pub returns : goal.returns
returns c =
    ap Some (c.count_constituents.ensures ∙ ap (λ o. min most (length (constituents_first (entries_from c.args.self.now.bytes.now o)))) c.end.ensures)
    ∙ constituents_answer c.args.self.now.bytes.now c.args.function (Some (viewed c.in_ok-record.record)) c.in_ok-record.ensures.value

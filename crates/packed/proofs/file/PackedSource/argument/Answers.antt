use Rattle.std.proofs.Common.{rules, ap, ◌∙◌}
use Rattle.grammar.specs.Grammar.{and_then, from_one}
use Rattle.packed.specs.File.{file_meaning}
use Rattle.records.specs.Meaning.{words_in}
use Rattle.walk.proofs.Questions.{argument_number, no_argument}
use Rattle.packed.proofs.file.PackedSource.argument.Goals as goal

pub returns-in_err-index : goal.returns-in_err-index
returns-in_err-index c = rw c.from_residual.ensures (no_argument (file_meaning c.args.self.now) c.args.place c.args.index (search rules))

pub returns-in_err-record : goal.returns-in_err-record
returns-in_err-record c = rw c.from_residual-in_err-record.ensures (ap (λ o. and_then o (λ q. from_one q.arguments c.args.index)) c.in_err-record.ensures)

pub returns : goal.returns
returns c =
    c.number_at.ensures
    ∙ argument_number (words_in c.in_ok-record.record.body.now) c.in_ok-index.index c.args.index (search rules)
    ∙ ap (λ o. and_then o (λ q. from_one q.arguments c.args.index)) c.in_ok-record.ensures

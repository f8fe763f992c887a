use Rattle.std.proofs.Common.{rules, ◌∙◌}
use borrow.Author.Tests.{tests}
use Rattle.std.specs.Option.{option_map}
use Rattle.records.specs.Records.{viewed}
use Rattle.walk.proofs.Questions.{kept_filled, production_answer}
use Rattle.packed.proofs.file.Packed.filled.Goals as goal

pub returns : goal.returns
returns c =
    kept_filled c.find.result c.filter.result c.filter.ensures (λ x b k. search (rules, tests))
    ∙ production_answer c.args.self.now.bytes.now c.args.place (option_map viewed c.find.result) c.find.ensures.value

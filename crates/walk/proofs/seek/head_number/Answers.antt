use Rattle.std.proofs.Common.{rules, ◌∙◌}
use Rattle.records.specs.Records.{entries_from}
use Rattle.records.specs.Row.{entries_left}
use Rattle.walk.proofs.Seeking.{number_of_first}
use Rattle.walk.proofs.seek.head_number.Goals as goal

pub returns : goal.returns
returns c = c.unwrap_or.ensures ∙ number_of_first (entries_from c.args.bytes.now 0) (entries_left c.next.new.self) c.next.result c.and_then.result c.args.index (search rules) (search rules)

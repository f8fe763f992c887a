use Rattle.std.proofs.Common.{rules, sym}
use Rattle.packed.proofs.Spells.{spells}
use Rattle.records.specs.Records.{entries_from}
use Rattle.walk.proofs.Spelling.{reading_is_spelling}
use Rattle.packed.proofs.file.Packed.read.Goals as goal

pub returns-in_err-read_records-clause-row : goal.returns-in_err-read_records-clause-row
returns-in_err-read_records-clause-row c = spells c.args.bytes.now c.from_residual.result (search rules)

pub returns-clause-row : goal.returns-clause-row
returns-clause-row c = (reading_is_spelling c.args.bytes.now (entries_from c.args.bytes.now 0)).0 (sym c.in_ok-read_records.ensures)

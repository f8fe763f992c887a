use Rattle.std.proofs.Common.{arith}
use Rattle.std.proofs.lemmas.List.{length-take}
use Rattle.table.proofs.rows.stopped_count.Goals as goal

pub returns : goal.returns
returns g c = grind (arith, length-take 4294967295 c.args.rows.now)

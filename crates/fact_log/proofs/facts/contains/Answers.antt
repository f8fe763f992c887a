use Rattle.std.proofs.Common.{is_some}
use Rattle.std.proofs.lemmas.Bool.Decides.{Decides-at}
use Rattle.fact_log.proofs.Appending.{logged_last}
use Rattle.fact_log.proofs.facts.contains.Goals as goal

pub returns : goal.returns
returns c =
    Decides-at c.is_some.result (is_some c.last_before.result) c.is_some.ensures (logged_last c.args.cells.now c.args.base c.args.end c.args.fact c.last_before.result c.requires.1.positive c.last_before.ensures)

use Rattle.std.proofs.Common.{ℕ, sym, subst}
use Rattle.fact_log.specs.Index.{Indexed}
use Rattle.fact_log.specs.Things.{slot_of}
use Rattle.fact_log.proofs.Appending.{slot_five}
use Rattle.fact_log.proofs.facts.latest.Goals as goal

pub last_before-requires-clause-indexed : goal.last_before-requires-clause-indexed
last_before-requires-clause-indexed c =
    subst (λ (s : ℕ). Indexed c.args.cells.now s c.args.base c.args.end) (sym c.slot_of.ensures) (c.requires.log.1.indexed (slot_of c.args.thing) (slot_five c.args.thing))

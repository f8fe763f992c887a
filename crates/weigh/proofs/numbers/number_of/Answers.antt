use Rattle.std.proofs.Common.{◌<◌, subst}
use Rattle.fact_log.specs.declared.things.Key.{Key}
use Rattle.fact_log.specs.declared.things.Thing as thing
use Rattle.fact_log.specs.Index.{things, Last}
use Rattle.fact_log.specs.Things.{slot_of}
use Rattle.weigh.proofs.Numbering.{number_none, number_left}
use Rattle.weigh.proofs.numbers.number_of.Goals as goal

pub returns-in_err-p : goal.returns-in_err-p
returns-in_err-p c =
    let cs = c.args.cells.now in
    let last = subst (λ (t : Key). Last (things cs (slot_of (thing.TheVariants.Key t))) c.args.base (thing.TheVariants.Key t) c.args.before 0) c.alone.ensures c.in_err-p.ensures in
    rw c.from_residual.ensures (number_none cs c.args.base c.args.before c.args.phrase c.requires.log.1.positive last)

pub returns : goal.returns
returns c =
    let cs = c.args.cells.now in
    let p = c.in_ok-p.p in
    let last = subst (λ (t : Key). (0 < p) × Last (things cs (slot_of (thing.TheVariants.Key t))) c.args.base (thing.TheVariants.Key t) c.args.before p) c.alone.ensures c.in_ok-p.ensures in
    number_left cs c.args.base c.args.before c.args.phrase p c.left.result last c.left.ensures

use Rattle.std.proofs.Common.{rules, tests}
use Rattle.faults.proofs.Scan.{some_by}
use Rattle.soundness.proofs.Useless.{treeless, dead_told}
use Rattle.soundness.proofs.dead.is_dead.Goals as goal

pub returns : goal.returns
returns g c = λ s h.
    let m = g.S.Source.meaning c.args.source.now in
    dead_told m c.args.place c.args.heights.now c.any_argument.result s h (some_by (treeless c.args.heights.now) (λ x b k. search (rules, tests)) _ _ c.any_argument.ensures)

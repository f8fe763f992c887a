use Rattle.std.proofs.Common.{◌≡◌, ◌+◌, drop, sum_by}
use Rattle.soundness.specs.Totals.{arguments_in, argument_total}
use Rattle.copying.specs.Layout.{all_arguments}
use Rattle.copying.specs.Written.{written}
use Rattle.copying.proofs.original.Original.write_all_arguments.Given as goal

abbrev pub invariant-loop-p : goal.invariant-loop-p
invariant-loop-p g l =
    let m = g.S.Source.meaning l.self.grammar.source.now in
    (written l.next (all_arguments (drop l.p m.places)) l.cells ≡ written l.cell (all_arguments m.places) l.initial.cells)
    × (l.next + sum_by arguments_in (drop l.p m.places) ≡ l.cell + argument_total m)

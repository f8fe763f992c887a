use Rattle.std.proofs.Common.{◌≡◌, ◌+◌, drop, sum_by}
use Rattle.soundness.specs.Totals.{constituents_in, constituent_total}
use Rattle.copying.specs.Layout.{function_rows}
use Rattle.copying.specs.Written.{written}
use Rattle.copying.proofs.original.Original.write_functions.Given as goal

abbrev pub invariant-loop-f : goal.invariant-loop-f
invariant-loop-f g l =
    let m = g.S.Source.meaning l.self.grammar.source.now in
    (written (l.cell + l.f) (function_rows l.next (drop l.f m.functions)) l.cells ≡ written l.cell (function_rows l.first m.functions) l.initial.cells)
    × (l.next + sum_by constituents_in (drop l.f m.functions) ≡ l.first + constituent_total m)

use Rattle.std.proofs.Common.{◌≡◌, ◌+◌, ◌≤◌, drop, sum_by}
use Rattle.soundness.specs.Totals.{constituents_in, symbols_in, constituent_total, symbol_total}
use Rattle.copying.specs.Layout.{all_constituents, all_symbols}
use Rattle.copying.specs.Written.{written}
use Rattle.copying.proofs.original.Original.write_all_constituents.Given as goal

abbrev pub invariant-loop-f : goal.invariant-loop-f
invariant-loop-f g l =
    let m = g.S.Source.meaning l.self.grammar.source.now in
    let fs = drop l.f m.functions in
    (written l.symbols (all_symbols fs) (written l.next (all_constituents l.symbols fs) l.cells)
    ≡ written l.first (all_symbols m.functions) (written l.cell (all_constituents l.first m.functions) l.initial.cells))
    × (l.next + sum_by constituents_in fs ≡ l.cell + constituent_total m)
    × (l.symbols + sum_by symbols_in fs ≡ l.first + symbol_total m)
    × (l.first ≤ l.symbols)

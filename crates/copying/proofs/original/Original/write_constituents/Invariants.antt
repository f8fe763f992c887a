use Rattle.std.proofs.Common.{◌≡◌, ◌+◌, ◌≤◌, length, drop, sum_by}
use Rattle.faults.specs.Parts.{constituents_of}
use Rattle.copying.specs.Layout.{constituent_rows, symbol_rows}
use Rattle.copying.specs.Written.{written}
use Rattle.copying.proofs.original.Original.write_constituents.Given as goal

abbrev pub invariant-loop-l : goal.invariant-loop-l
invariant-loop-l g l =
    let αs = constituents_of (g.S.Source.meaning l.self.grammar.source.now) l.function in
    (written l.next (symbol_rows (drop l.l αs)) (written (l.cell + l.l) (constituent_rows l.next (drop l.l αs)) l.cells)
    ≡ written l.first (symbol_rows αs) (written l.cell (constituent_rows l.first αs) l.initial.cells))
    × (l.next + sum_by length (drop l.l αs) ≡ l.first + sum_by length αs)
    × (l.first ≤ l.next)

use Rattle.std.proofs.Common.{◌≡◌, ◌+◌, ◌≤◌, length, drop, sum_by}
use Rattle.soundness.specs.Totals.{arguments_in}
use Rattle.copying.specs.Layout.{place_rows}
use Rattle.copying.specs.Places.{Firsts}
use Rattle.copying.specs.Written.{written}
use Rattle.copying.proofs.original.Original.write_places.Given as goal

abbrev pub invariant-loop-p : goal.invariant-loop-p
invariant-loop-p g l =
    let ps = drop l.p (g.S.Source.meaning l.self.grammar.source.now).places in
    (l.cells ≡ written (l.cell + l.p) (place_rows l.self.heights.now (l.cell + l.p) l.first ps) l.initial.cells)
    × (l.first + sum_by arguments_in ps ≡ l.end)
    × Firsts l.self.heights.now (l.cell + l.p) ps l.firsts
    × (l.p ≤ length (g.S.Source.meaning l.self.grammar.source.now).places)

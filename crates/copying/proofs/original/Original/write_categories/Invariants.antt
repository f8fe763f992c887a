use Rattle.std.proofs.Common.{◌≡◌, ℕ, drop}
use Rattle.copying.specs.Layout.{category_rows}
use Rattle.copying.specs.Places.{Firsts}
use Rattle.copying.specs.Written.{written}
use Rattle.copying.proofs.original.Original.write_categories.Given as goal

abbrev pub invariant-loop-category : goal.invariant-loop-category
invariant-loop-category g l =
    let m = g.S.Source.meaning l.self.grammar.source.now in
    (cell : ℕ) → Firsts l.self.heights.now cell m.places l.firsts
    → written l.category (category_rows l.self.heights.now cell m.places l.category (drop l.category m.dimensions)) l.cells
    ≡ written 0 (category_rows l.self.heights.now cell m.places 0 m.dimensions) l.initial.cells

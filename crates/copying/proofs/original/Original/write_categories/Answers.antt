use Rattle.std.proofs.Common.{ℕ, ◌<◌, length, Option, unwrap_or, refl, ap, ◌∙◌, arith}
use Rattle.faults.proofs.Made.{made_sound}
use Rattle.faults.specs.Limits.{most_categories}
use Rattle.copying.specs.Layout.{category_rows}
use Rattle.copying.specs.Written.{written}
use Rattle.copying.proofs.Steps.{categories_step}
use Rattle.copying.proofs.original.Original.write_categories.Goals as goal

pub loop-category-preserved : goal.loop-category-preserved
loop-category-preserved g c = λ cell links.
    let m = g.S.Source.meaning c.args.self.now.grammar.source.now in
    let or_none : Option ℕ → ℕ = λ o. unwrap_or o 0 in
    let there : c.loop-category.category < length m.dimensions = omega (arith, c.categories-category-end.ensures, c.loop-category-test.true) in
    let few : c.loop-category.category < most_categories = omega (arith, (made_sound m c.args.self.now.grammar.faultless).categories) in
    categories_step m c.args.self.now.heights.now c.args.firsts.now c.loop-category.category cell c.unwrap_or-dimension.result _ _ c.loop-category.cells c.write.new.cells
    (written 0 (category_rows c.args.self.now.heights.now cell m.places 0 m.dimensions) c.args.cells.now) there few (c.unwrap_or-dimension.ensures ∙ ap or_none c.dimension.ensures) refl refl links
    c.write.ensures (c.loop-category.invariant cell links)

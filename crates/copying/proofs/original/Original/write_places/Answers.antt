use Rattle.std.proofs.Common.{◌≡◌, ℕ, ◌+◌, ◌-◌, ◌<◌, length, drop, sum_by, sym, ap, subst, arith}
use Rattle.soundness.specs.Totals.{arguments_in}
use Rattle.copying.specs.Places.{Firsts}
use Rattle.copying.proofs.Steps.{places_left, place_sum, places_step, sum_within}
use Rattle.copying.proofs.original.Original.write_places.Goals as goal

pub write_place-first-requires-clause-part : goal.write_place-first-requires-clause-part
write_place-first-requires-clause-part g c =
    let m = g.S.Source.meaning c.args.self.now.grammar.source.now in
    let next : c.loop-p.p ≡ c.loop-p.p - 1 + 1 = omega (arith, c.loop-p-test.true) in
    omega (arith, c.loop-p.invariant.1, c.requires.parts, sum_within m (c.loop-p.p - 1) c.loop-p.p next (omega (arith, c.loop-p.invariant.3, c.loop-p-test.true)))

pub loop-p-preserved : goal.loop-p-preserved
loop-p-preserved g c =
    let m = g.S.Source.meaning c.args.self.now.grammar.source.now in
    let p = c.loop-p.p - 1 in
    let there : p < length m.places = omega (arith, c.loop-p.invariant.3, c.loop-p-test.true) in
    let next : c.loop-p.p ≡ p + 1 = omega (arith, c.loop-p-test.true) in
    let done = c.write_place-first.ensures in (
      places_step m c.args.self.now.heights.now p c.loop-p.p c.args.cell c.write_place-first.result c.loop-p.first c.args.cells.now c.loop-p.cells c.write_place-first.new.cells
          there next done.part done.row c.loop-p.invariant.0,
      omega (arith, place_sum m p there, ap (λ (k : ℕ). sum_by arguments_in (drop k m.places)) next, done.part, c.loop-p.invariant.1),
      subst (λ ps. Firsts c.args.self.now.heights.now (c.args.cell + p) ps c.write_place-first.new.firsts) (sym (places_left m p there)) done.linked,
      omega (arith, c.loop-p.invariant.3),
    )

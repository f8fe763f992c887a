use Rattle.std.proofs.Common.{◌≡◌, false, not, eqb, rules, tests, sym, ◌∙◌, true≢false}
use Rattle.faults.specs.Faults.{symbol_unfit}
use Rattle.faults.specs.Parts.{arguments_of}
use Rattle.faults.specs.Tests.{there_and}
use Rattle.faults.proofs.Single.{unfit_rest}
use Rattle.faults.proofs.Scan.{some_by_each}
use Rattle.faults.proofs.things.place_unfit.Goals as goal
use Rattle.faults.proofs.things.place_unfit.Goals.{then-arguments_differ, else-arguments_differ}

pub returns-else-is_some_and : goal.returns-else-is_some_and
returns-else-is_some_and g c =
    let m = g.S.Source.meaning c.args.source.now in
    elim c.if-arguments_differ.branch [
      | then-arguments_differ w ↦ absurd (true≢false (sym w.if-arguments_differ.true ∙ (sym w.value-is ∙ c.if-is_some_and.false)))
      | else-arguments_differ w ↦
          let same : false ≡ there_and (λ d. not (eqb c.in-Some-constituents.count d)) w.dimension.result = search (rules, tests) in
          unfit_rest m c.args.place c.in-Some.filled c.in-Some-arity.arity c.in-Some-constituents.count w.dimension.result c.any_symbol.result
          c.requires c.in-Some.ensures c.in-Some-arity.ensures c.in-Some-constituents.ensures w.if-arguments_differ.ensures w.dimension.ensures same (some_by_each (symbol_unfit m (arguments_of m c.args.place)) (λ s b h. search rules) 16 _ _ c.any_symbol.ensures)
    ]

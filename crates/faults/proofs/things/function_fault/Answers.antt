use Rattle.std.proofs.Common.{rules, sym, refl, ◌∙◌}
use Rattle.faults.specs.declared.refusal.Thing.TheVariants.{Function}
use Rattle.faults.specs.Faults.{symbol_unnamed}
use Rattle.faults.proofs.Single.{fault_is, unnamed_scanned}
use Rattle.faults.proofs.Scan.{some_by_each}
use Rattle.faults.proofs.things.function_fault.Goals as goal

pub returns : goal.returns
returns g c =
    let m = g.S.Source.meaning c.args.source.now in
    fault_is m (Function c.args.function) c.function_over-over.result c.any_symbol-unnamed.result _ c.fault_from.result c.function_over-over.ensures
    (λ e. unnamed_scanned m c.args.function c.in_ok-arity.arity c.any_symbol-unnamed.result c.in_ok-arity.ensures (sym c.function_over-over.ensures ∙ e)
    (some_by_each (symbol_unnamed m.tokens c.in_ok-arity.arity) (λ s b h. search rules) 16 _ _ c.any_symbol-unnamed.ensures))
    (λ e. refl) c.fault_from.ensures

use Rattle.std.proofs.Common.{rules, tests, length, ◌∙◌, arith}
use Rattle.std.proofs.lemmas.Iterator.{YieldsList-from_range}
use Rattle.faults.specs.declared.refusal.Thing.TheVariants.{Function}
use Rattle.faults.specs.Faults.{fault_of}
use Rattle.faults.proofs.Found.{first_from_find_map}
use Rattle.faults.proofs.Order.{first_of_map}
use Rattle.faults.proofs.first.functions_fault.Goals as goal

pub returns : goal.returns
returns g c =
    let m = g.S.Source.meaning c.args.source.now in
    first_from_find_map (λ k. fault_of m (Function k)) _ _ _ _ c.find_map.ensures.ran c.find_map.ensures.runs (YieldsList-from_range 0 (length m.functions) (length m.functions) (cc) (omega arith)) (λ x b q k. search (rules, tests))
    ∙ first_of_map (fault_of m) Function _

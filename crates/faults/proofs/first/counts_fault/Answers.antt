use Rattle.std.proofs.Common.{rules, tests, ◌∙◌}
use Rattle.std.proofs.lemmas.Iterator.{YieldsList-from_slice}
use Rattle.faults.specs.declared.refusal.Thing.TheVariants.{Count}
use Rattle.faults.specs.Faults.{fault_of, all_counted}
use Rattle.faults.proofs.Found.{first_from_find_map}
use Rattle.faults.proofs.Order.{first_of_map}
use Rattle.faults.proofs.first.counts_fault.Goals as goal

pub returns : goal.returns
returns g c =
    let m = g.S.Source.meaning c.args.source.now in
    first_from_find_map (λ k. fault_of m (Count k)) _ _ _ _ c.find_map.ensures.ran c.find_map.ensures.runs (YieldsList-from_slice all_counted cc) (λ x b q k. search (rules, tests))
    ∙ first_of_map (fault_of m) Count all_counted

use Rattle.std.proofs.Common.{◌≡◌, rules, tests, of_calls, length, sym, ◌∙◌}
use Rattle.faults.specs.declared.refusal.Thing.TheVariants.{Category, Start, Function, Place}
use Rattle.faults.specs.Faults.{fault_of, first_things}
use Rattle.faults.specs.Parts.{FunctionsWithin}
use Rattle.faults.specs.Tests.{or_else, first_of}
use Rattle.faults.proofs.Exact.{first_is}
use Rattle.faults.proofs.Order.{both_none}
use Rattle.faults.proofs.Whole.{functions_within, sorts_first}
use Rattle.faults.proofs.first.first_fault.Goals as goal

pub or_else-requires-4 : goal.or_else-requires-4
or_else-requires-4 g c = λ e.
    let m = g.S.Source.meaning c.args.source.now in
    let functions = first_of (fault_of m) (first_things Function (length m.functions)) in
    let chained : c.or_else-3.result ≡ or_else c.or_else-2.result functions = search (rules, tests) in
    let within : FunctionsWithin m = functions_within m (sym (both_none c.or_else-2.result functions (sym chained ∙ e)).1) in
    search of_calls

pub returns : goal.returns
returns g c =
    let m = g.S.Source.meaning c.args.source.now in
    let a : c.or_else.result ≡ or_else c.counts_fault.result (first_of (fault_of m) (first_things Category (length m.dimensions))) = search (rules, tests) in
    let b : c.or_else-2.result ≡ or_else c.or_else.result (fault_of m Start) = search (rules, tests) in
    let d : c.or_else-3.result ≡ or_else c.or_else-2.result (first_of (fault_of m) (first_things Function (length m.functions))) = search (rules, tests) in
    let e : c.or_else-4.result ≡ or_else c.or_else-3.result (first_of (fault_of m) (first_things Place (length m.places))) = search (rules, tests) in
    first_is m c.or_else-4.result (sorts_first m _ _ _ _ _ c.counts_fault.ensures a b d e)

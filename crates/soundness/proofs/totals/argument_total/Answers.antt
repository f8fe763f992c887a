use Rattle.std.proofs.Common.{rules, tests, length, ◌∙◌, arith}
use Rattle.std.specs.List.{range_with_len}
use Rattle.std.proofs.lemmas.Iterator.{YieldsList-from_map, YieldsList-from_range}
use Rattle.std.proofs.lemmas.Iterator.Consumers.{YieldsList-at, sum_by_from_yields_List, fits_by_from_yields_list}
use Rattle.faults.proofs.Made.{made_sound}
use Rattle.soundness.specs.Totals.{arguments_in, place_arity}
use Rattle.soundness.proofs.Summed.{summed, few_each, place_few, place_arguments_in}
use Rattle.soundness.proofs.totals.argument_total.Goals as goal

pub sum-requires-clause-fits : goal.sum-requires-clause-fits
sum-requires-clause-fits g c =
    let m = g.S.Source.meaning c.args.grammar.now.source.now in
    let s = made_sound m c.args.grammar.now.faultless in
    fits_by_from_yields_list (place_arity m) (range_with_len 0 (length m.places)) c.map.result _
    (YieldsList-from_map _ (place_arity m) (YieldsList-at c.map.ensures.source (YieldsList-from_range 0 (length m.places) (length m.places) (cc) (omega arith))) c.map.ensures.closure (λ x r q k. search (rules, tests)))
    (omega (arith, few_each (place_arity m) 3 0 (length m.places) (place_few m s), s.places))

pub returns : goal.returns
returns g c =
    let m = g.S.Source.meaning c.args.grammar.now.source.now in
    let s = made_sound m c.args.grammar.now.faultless in
    sum_by_from_yields_List (place_arity m) (range_with_len 0 (length m.places)) c.map.result _ c.sum.ensures.ran
    (YieldsList-from_map _ (place_arity m) (YieldsList-at c.map.ensures.source (YieldsList-from_range 0 (length m.places) (length m.places) (cc) (omega arith))) c.map.ensures.closure (λ x r q k. search (rules, tests)))
    ∙ summed (place_arity m) arguments_in m.places (place_arguments_in m s)

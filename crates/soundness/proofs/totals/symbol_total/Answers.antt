use Rattle.std.proofs.Common.{rules, tests, length, ◌∙◌, arith}
use Rattle.std.specs.List.{range_with_len}
use Rattle.std.proofs.lemmas.Iterator.{YieldsList-from_map, YieldsList-from_range}
use Rattle.std.proofs.lemmas.Iterator.Consumers.{YieldsList-at, sum_by_from_yields_List, fits_by_from_yields_list}
use Rattle.faults.proofs.Made.{made_sound}
use Rattle.soundness.specs.Totals.{symbols_in}
use Rattle.soundness.proofs.Summed.{first_symbols, summed, few_each, symbols_few, function_symbols_in}
use Rattle.soundness.proofs.totals.symbol_total.Goals as goal

pub sum-requires-clause-fits : goal.sum-requires-clause-fits
sum-requires-clause-fits g c =
    let m = g.S.Source.meaning c.args.grammar.now.source.now in
    let s = made_sound m c.args.grammar.now.faultless in
    fits_by_from_yields_list (first_symbols m) (range_with_len 0 (length m.functions)) c.map.result _
    (YieldsList-from_map _ (first_symbols m) (YieldsList-at c.map.ensures.source (YieldsList-from_range 0 (length m.functions) (length m.functions) (cc) (omega arith))) c.map.ensures.closure (λ x r q k. search (rules, tests)))
    (omega (arith, few_each (first_symbols m) 48 0 (length m.functions) (symbols_few m), s.functions))

pub returns : goal.returns
returns g c =
    let m = g.S.Source.meaning c.args.grammar.now.source.now in
    let s = made_sound m c.args.grammar.now.faultless in
    sum_by_from_yields_List (first_symbols m) (range_with_len 0 (length m.functions)) c.map.result _ c.sum.ensures.ran
    (YieldsList-from_map _ (first_symbols m) (YieldsList-at c.map.ensures.source (YieldsList-from_range 0 (length m.functions) (length m.functions) (cc) (omega arith))) c.map.ensures.closure (λ x r q k. search (rules, tests)))
    ∙ summed (first_symbols m) symbols_in m.functions (function_symbols_in m s)

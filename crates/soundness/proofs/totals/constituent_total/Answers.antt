use Rattle.std.proofs.Common.{rules, tests, length, unwrap_or, ◌∙◌, arith}
use Rattle.std.specs.List.{range_with_len}
use Rattle.std.proofs.lemmas.Iterator.{YieldsList-from_map, YieldsList-from_range}
use Rattle.std.proofs.lemmas.Iterator.Consumers.{YieldsList-at, sum_by_from_yields_List, fits_by_from_yields_list}
use Rattle.grammar.specs.Grammar.{constituent_count}
use Rattle.faults.proofs.Made.{made_sound}
use Rattle.soundness.specs.Totals.{constituents_in}
use Rattle.soundness.proofs.Summed.{summed, few_each, constituents_few, function_constituents}
use Rattle.soundness.proofs.totals.constituent_total.Goals as goal

pub sum-requires-clause-fits : goal.sum-requires-clause-fits
sum-requires-clause-fits g c =
    let m = g.S.Source.meaning c.args.grammar.now.source.now in
    let s = made_sound m c.args.grammar.now.faultless in
    fits_by_from_yields_list (λ k. unwrap_or (constituent_count m k) 0) (range_with_len 0 (length m.functions)) c.map.result _
    (YieldsList-from_map _ (λ k. unwrap_or (constituent_count m k) 0) (YieldsList-at c.map.ensures.source (YieldsList-from_range 0 (length m.functions) (length m.functions) (cc) (omega arith))) c.map.ensures.closure (λ x r q k. search (rules, tests)))
    (omega (arith, few_each (λ k. unwrap_or (constituent_count m k) 0) 3 0 (length m.functions) (constituents_few m s), s.functions))

pub returns : goal.returns
returns g c =
    let m = g.S.Source.meaning c.args.grammar.now.source.now in
    sum_by_from_yields_List (λ k. unwrap_or (constituent_count m k) 0) (range_with_len 0 (length m.functions)) c.map.result _ c.sum.ensures.ran
    (YieldsList-from_map _ (λ k. unwrap_or (constituent_count m k) 0) (YieldsList-at c.map.ensures.source (YieldsList-from_range 0 (length m.functions) (length m.functions) (cc) (omega arith))) c.map.ensures.closure (λ x r q k. search (rules, tests)))
    ∙ summed (λ k. unwrap_or (constituent_count m k) 0) constituents_in m.functions (function_constituents m)

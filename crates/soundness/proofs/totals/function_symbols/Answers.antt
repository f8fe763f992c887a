use Rattle.std.proofs.Common.{rules, tests, length, min, ◌∙◌, arith}
use Rattle.std.specs.List.{range_with_len}
use Rattle.std.proofs.lemmas.Iterator.{YieldsList-from_map}
use Rattle.std.proofs.lemmas.Iterator.Consumers.{YieldsList-at, sum_by_from_yields_List, fits_by_from_yields_list}
use Rattle.faults.specs.Parts.{symbols_of, constituents_of}
use Rattle.faults.proofs.Scan.{YieldsList-from_inclusive}
use Rattle.soundness.proofs.Summed.{summed_first, few_each, constituent_symbols}
use Rattle.soundness.proofs.totals.function_symbols.Goals as goal

pub sum-requires-clause-fits : goal.sum-requires-clause-fits
sum-requires-clause-fits g c =
    let m = g.S.Source.meaning c.args.source.now in
    fits_by_from_yields_list (λ l. min 16 (length (symbols_of m c.args.function l))) (range_with_len 1 3) c.map.result _
    (YieldsList-from_map _ (λ l. min 16 (length (symbols_of m c.args.function l))) (YieldsList-at c.map.ensures.source (YieldsList-from_inclusive 1 3 c.new.ensures.start (omega (arith, c.new.ensures.end)) c.new.ensures.exhausted)) c.map.ensures.closure (λ x r q k. search (rules, tests)))
    (omega (arith, few_each (λ l. min 16 (length (symbols_of m c.args.function l))) 16 1 3 (λ k. omega arith)))

pub returns : goal.returns
returns g c =
    let m = g.S.Source.meaning c.args.source.now in
    let value = sum_by_from_yields_List (λ l. min 16 (length (symbols_of m c.args.function l))) (range_with_len 1 3) c.map.result _ c.sum.ensures.ran
    (YieldsList-from_map _ (λ l. min 16 (length (symbols_of m c.args.function l))) (YieldsList-at c.map.ensures.source (YieldsList-from_inclusive 1 3 c.new.ensures.start (omega (arith, c.new.ensures.end)) c.new.ensures.exhausted)) c.map.ensures.closure (λ x r q k. search (rules, tests))) in
    record {
      value = value ∙ summed_first (λ l. min 16 (length (symbols_of m c.args.function l))) (λ α. min 16 (length α)) (constituents_of m c.args.function) 3 (constituent_symbols m c.args.function);
      bound = omega (arith, value, few_each (λ l. min 16 (length (symbols_of m c.args.function l))) 16 1 3 (λ k. omega arith));
    }

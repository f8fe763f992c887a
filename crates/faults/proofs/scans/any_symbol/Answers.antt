use Rattle.std.proofs.Common.{rules, tests}
use Rattle.grammar.specs.Grammar.{constituent_at}
use Rattle.faults.specs.Parts.{constituents_of}
use Rattle.faults.proofs.Asked.{constituent_next}
use Rattle.faults.proofs.Scan.{any_asks_first}
use Rattle.faults.proofs.scans.any_symbol.Goals as goal

pub returns : goal.returns
returns g c =
    let m = g.S.Source.meaning c.args.source.now in
    any_asks_first _ (constituents_of m c.args.function) 3 (constituent_at m c.args.function) _ _ _ c.any.ensures.ran c.new.ensures.start c.new.ensures.end c.new.ensures.exhausted
    (λ i b q k. search (rules, tests)) (constituent_next m c.args.function)

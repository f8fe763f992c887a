use Rattle.std.proofs.Common.{rules, tests}
use Rattle.grammar.specs.Grammar.{symbol_at}
use Rattle.faults.specs.Parts.{symbols_of}
use Rattle.faults.proofs.Asked.{symbol_next}
use Rattle.faults.proofs.Scan.{any_found}
use Rattle.faults.proofs.scans.constituent_has.Goals as goal

pub returns : goal.returns
returns g c =
    let m = g.S.Source.meaning c.args.source.now in
    any_found _ (symbols_of m c.args.function c.args.constituent) 16 (symbol_at m c.args.function c.args.constituent) (symbol_next m c.args.function c.args.constituent) _ _ c.find.result _ c.find.ensures.ran
    (λ x q k. search (rules, tests)) (λ x q k. search (rules, tests)) (search (rules, tests))

use Rattle.std.proofs.Common.{rules, tests, is_some}
use Rattle.grammar.specs.Grammar.{symbol_at}
use Rattle.faults.specs.Faults.{symbols_over}
use Rattle.faults.specs.Parts.{constituents_of}
use Rattle.faults.proofs.Asked.{over_asked}
use Rattle.faults.proofs.Scan.{any_of_first}
use Rattle.faults.proofs.things.constituents_over.Goals as goal

pub returns : goal.returns
returns g c =
    let m = g.S.Source.meaning c.args.source.now in
    any_of_first symbols_over (constituents_of m c.args.function) 3 (λ l. is_some (symbol_at m c.args.function l 17)) _ _ _ c.any.ensures.ran c.new.ensures.start c.new.ensures.end c.new.ensures.exhausted
    (λ x b q k. search (rules, tests)) (over_asked m c.args.function)

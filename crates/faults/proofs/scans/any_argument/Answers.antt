use Rattle.std.proofs.Common.{rules, tests}
use Rattle.grammar.specs.Grammar.{argument_at}
use Rattle.faults.specs.Parts.{arguments_of}
use Rattle.faults.proofs.Asked.{argument_next}
use Rattle.faults.proofs.Scan.{any_found}
use Rattle.faults.proofs.scans.any_argument.Goals as goal

pub returns : goal.returns
returns g c =
    let m = g.S.Source.meaning c.args.source.now in
    any_found _ (arguments_of m c.args.place) c.args.most (argument_at m c.args.place) (argument_next m c.args.place) _ _ c.find.result _ c.find.ensures.ran
    (λ x q k. search (rules, tests)) (λ x q k. search (rules, tests)) (search (rules, tests))

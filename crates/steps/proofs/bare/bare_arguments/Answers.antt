use Rattle.std.proofs.Common.{sym, map}
use Rattle.chart.specs.Chart.{bare}
use Rattle.cells.specs.Facts.{phrase_of}
use Rattle.faults.specs.Parts.{arguments_of}
use Rattle.steps.proofs.Bareness.{bare_few, list_none, list_one, list_two, list_three}
use Rattle.steps.proofs.bare.bare_arguments.Goals as goal

pub returns-in_default : goal.returns-in_default
returns-in_default g c =
    let m = g.S.Source.meaning c.args.source.now in
    sym (list_none (map (bare m) (arguments_of m c.args.place)) c.in_default.ensures)

pub returns-in_default-bare_argument : goal.returns-in_default-bare_argument
returns-in_default-bare_argument g c =
    let m = g.S.Source.meaning c.args.source.now in
    sym (list_one (map (bare m) (arguments_of m c.args.place)) (phrase_of c.in-Some.a) c.in-Some.ensures c.in_default-bare_argument.ensures)

pub returns-in-None : goal.returns-in-None
returns-in-None g c =
    let m = g.S.Source.meaning c.args.source.now in
    sym (list_two (map (bare m) (arguments_of m c.args.place)) (phrase_of c.in-Some.a) (phrase_of c.in-Some-bare_argument.b) c.in-Some.ensures c.in-Some-bare_argument.ensures c.in-None.ensures)

pub returns-in-Some-bare_argument-2 : goal.returns-in-Some-bare_argument-2
returns-in-Some-bare_argument-2 g c =
    let m = g.S.Source.meaning c.args.source.now in
    sym (list_three (map (bare m) (arguments_of m c.args.place)) (phrase_of c.in-Some.a) (phrase_of c.in-Some-bare_argument.b) (phrase_of c.in-Some-bare_argument-2.c) (bare_few m c.requires c.args.place) c.in-Some.ensures c.in-Some-bare_argument.ensures c.in-Some-bare_argument-2.ensures)

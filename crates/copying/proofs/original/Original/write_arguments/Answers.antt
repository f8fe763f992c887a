use Rattle.std.proofs.Common.{ℕ, ◌≤◌, rules, length, arith}
use Rattle.std.proofs.lemmas.List.{length-map}
use Rattle.cells.specs.declared.Row.TheVariants.{Argument}
use Rattle.faults.proofs.Made.{made_sound}
use Rattle.faults.specs.Parts.{arguments_of}
use Rattle.copying.specs.Layout.{argument_rows}
use Rattle.copying.proofs.Steps.{arguments_within}
use Rattle.copying.proofs.original.Original.write_arguments.Goals as goal

pub write_rows-requires-clause-room : goal.write_rows-requires-clause-room
write_rows-requires-clause-room g c =
    let m = g.S.Source.meaning c.args.self.now.grammar.source.now in
    let cs = arguments_of m c.args.place in
    let few : length cs ≤ 3 = arguments_within m (made_sound m c.args.self.now.grammar.faultless) c.args.place in
    let n = length-map cs (λ (k : ℕ). Argument k) in
    (argument_rows cs, (λ i r h. search rules), omega (arith, n, few), omega (arith, n, c.requires))

pub returns : goal.returns
returns g c =
    let m = g.S.Source.meaning c.args.self.now.grammar.source.now in
    let cs = arguments_of m c.args.place in
    let few : length cs ≤ 3 = arguments_within m (made_sound m c.args.self.now.grammar.faultless) c.args.place in
    let n = length-map cs (λ (k : ℕ). Argument k) in
    let done = c.write_rows.ensures (argument_rows cs) (λ i r h. search rules) (omega (arith, n, few)) in
    record { end = omega (arith, n, done.0); rows = done.1 }

use Rattle.std.proofs.Common.{rules, arith}
use Rattle.grammar.specs.declared.Symbol as symbol
use Rattle.std.proofs.lemmas.List.{length-map}
use Rattle.cells.specs.declared.Row.TheVariants.{Symbol}
use Rattle.faults.proofs.Made.{made_sound}
use Rattle.faults.specs.Parts.{symbols_of}
use Rattle.copying.specs.Layout.{spelt}
use Rattle.copying.proofs.Steps.{symbols_few}
use Rattle.copying.proofs.original.Original.write_symbols.Goals as goal

pub write_rows-requires-clause-room : goal.write_rows-requires-clause-room
write_rows-requires-clause-room g c =
    let m = g.S.Source.meaning c.args.self.now.grammar.source.now in
    let α = symbols_of m c.args.function c.args.constituent in
    let few = symbols_few m (made_sound m c.args.self.now.grammar.faultless) c.args.function c.args.constituent in
    let n = length-map α (λ (s : symbol.Symbol). Symbol s) in
    (spelt α, (λ i r h. search rules), omega (arith, n, few), omega (arith, n, c.requires))

pub returns : goal.returns
returns g c =
    let m = g.S.Source.meaning c.args.self.now.grammar.source.now in
    let α = symbols_of m c.args.function c.args.constituent in
    let few = symbols_few m (made_sound m c.args.self.now.grammar.faultless) c.args.function c.args.constituent in
    let n = length-map α (λ (s : symbol.Symbol). Symbol s) in
    let done = c.write_rows.ensures (spelt α) (λ i r h. search rules) (omega (arith, n, few)) in
    record { end = omega (arith, n, done.0); rows = done.1 }

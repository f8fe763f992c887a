use Rattle.std.proofs.Common.{◌<◌, length, arith}
use Rattle.copying.specs.Layout.{all_constituents, all_symbols}
use Rattle.copying.specs.Written.{written}
use Rattle.copying.proofs.Steps.{constituents_counted, all_constituents_turn, sums_left}
use Rattle.copying.proofs.original.Original.write_all_constituents.Goals as goal

pub write_constituents-symbols-requires-clause-apart : goal.write_constituents-symbols-requires-clause-apart
write_constituents-symbols-requires-clause-apart g c =
    let m = g.S.Source.meaning c.args.self.now.grammar.source.now in
    let there : c.loop-f.f < length m.functions = omega (arith, c.functions-f-end.ensures, c.loop-f-test.true) in
    let count = constituents_counted m c.loop-f.f c.unwrap_or-count.result c.constituents.result c.constituents.ensures c.unwrap_or-count.ensures in
    omega (arith, count, (sums_left m c.loop-f.f there).0, c.loop-f.invariant.1, c.loop-f.invariant.3, c.requires.apart)

pub write_constituents-symbols-requires-clause-room : goal.write_constituents-symbols-requires-clause-room
write_constituents-symbols-requires-clause-room g c =
    let m = g.S.Source.meaning c.args.self.now.grammar.source.now in
    let there : c.loop-f.f < length m.functions = omega (arith, c.functions-f-end.ensures, c.loop-f-test.true) in
    omega (arith, (sums_left m c.loop-f.f there).1, c.loop-f.invariant.2, c.requires.room, c.loop-f.auto.cells)

pub loop-f-preserved : goal.loop-f-preserved
loop-f-preserved g c =
    let m = g.S.Source.meaning c.args.self.now.grammar.source.now in
    let there : c.loop-f.f < length m.functions = omega (arith, c.functions-f-end.ensures, c.loop-f-test.true) in
    let sums = sums_left m c.loop-f.f there in
    let count = constituents_counted m c.loop-f.f c.unwrap_or-count.result c.constituents.result c.constituents.ensures c.unwrap_or-count.ensures in
    let end = c.write_constituents-symbols.ensures.end in (
      all_constituents_turn m c.loop-f.f c.loop-f.next c.loop-f.symbols c.unwrap_or-count.result c.write_constituents-symbols.result c.loop-f.cells
          c.write_constituents-symbols.new.cells
          (written c.args.first (all_symbols m.functions) (written c.args.cell (all_constituents c.args.first m.functions) c.args.cells.now))
          there (omega (arith, c.loop-f.invariant.1, c.loop-f.invariant.3, c.requires.apart)) count end c.write_constituents-symbols.ensures.rows c.loop-f.invariant.0,
      omega (arith, count, sums.0, c.loop-f.invariant.1),
      omega (arith, end, sums.1, c.loop-f.invariant.2),
      omega (arith, end, c.loop-f.invariant.3),
    )

use Rattle.std.proofs.Common.{◌+◌, ◌<◌, length, arith}
use Rattle.faults.proofs.Made.{made_sound}
use Rattle.faults.specs.Parts.{constituents_of, symbols_of}
use Rattle.copying.specs.Layout.{constituent_rows, symbol_rows}
use Rattle.copying.specs.Written.{written}
use Rattle.copying.proofs.Steps.{constituents_left, constituents_sum, constituents_step, symbols_few}
use Rattle.copying.proofs.original.Original.write_constituents.Goals as goal

pub write_symbols-end-requires : goal.write_symbols-end-requires
write_symbols-end-requires g c =
    let m = g.S.Source.meaning c.args.self.now.grammar.source.now in
    let there : c.loop-l.l < length (constituents_of m c.args.function) = omega (arith, c.requires.counted, c.loop-l-test.true) in
    omega (arith, constituents_sum m c.args.function c.loop-l.l there, c.loop-l.invariant.1, c.requires.room, c.loop-l.auto.cells)

pub overflow_cast-end : goal.overflow_cast-end
overflow_cast-end g c =
    let m = g.S.Source.meaning c.args.self.now.grammar.source.now in
    omega (arith, c.write_symbols-end.ensures.end, symbols_few m (made_sound m c.args.self.now.grammar.faultless) c.args.function (c.loop-l.l + 1))

pub loop-l-preserved : goal.loop-l-preserved
loop-l-preserved g c =
    let m = g.S.Source.meaning c.args.self.now.grammar.source.now in
    let αs = constituents_of m c.args.function in
    let α = symbols_of m c.args.function (c.loop-l.l + 1) in
    let there : c.loop-l.l < length αs = omega (arith, c.requires.counted, c.loop-l-test.true) in (
      constituents_step αs α c.loop-l.l c.args.cell c.loop-l.next c.write_symbols-end.result _ c.loop-l.cells c.write_symbols-end.new.cells c.write.new.cells
          (written c.args.first (symbol_rows αs) (written c.args.cell (constituent_rows c.args.first αs) c.args.cells.now))
          (constituents_left m c.args.function c.loop-l.l there) (omega (arith, c.requires.counted, c.requires.apart, c.loop-l.invariant.2)) there c.write_symbols-end.ensures.end
          (omega (arith, c.write_symbols-end.ensures.end)) c.write_symbols-end.ensures.rows c.write.ensures c.loop-l.invariant.0,
      omega (arith, constituents_sum m c.args.function c.loop-l.l there, c.loop-l.invariant.1, c.write_symbols-end.ensures.end),
      omega (arith, c.loop-l.invariant.2, c.write_symbols-end.ensures.end),
    )

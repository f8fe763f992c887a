use Rattle.std.proofs.Common.{◌<◌, length, arith}
use Rattle.copying.specs.Layout.{all_arguments}
use Rattle.copying.specs.Written.{written}
use Rattle.copying.proofs.Steps.{arguments_sum, all_arguments_step}
use Rattle.copying.proofs.original.Original.write_all_arguments.Goals as goal

pub write_arguments-next-requires : goal.write_arguments-next-requires
write_arguments-next-requires g c =
    let m = g.S.Source.meaning c.args.self.now.grammar.source.now in
    let there : c.loop-p.p < length m.places = omega (arith, c.places-p-end.ensures, c.loop-p-test.true) in
    omega (arith, arguments_sum m c.loop-p.p there, c.loop-p.invariant.1, c.requires, c.loop-p.auto.cells)

pub loop-p-preserved : goal.loop-p-preserved
loop-p-preserved g c =
    let m = g.S.Source.meaning c.args.self.now.grammar.source.now in
    let there : c.loop-p.p < length m.places = omega (arith, c.places-p-end.ensures, c.loop-p-test.true) in (
      all_arguments_step m c.loop-p.p c.loop-p.next c.write_arguments-next.result c.loop-p.cells c.write_arguments-next.new.cells
          (written c.args.cell (all_arguments m.places) c.args.cells.now) there c.write_arguments-next.ensures.end c.write_arguments-next.ensures.rows c.loop-p.invariant.0,
      omega (arith, arguments_sum m c.loop-p.p there, c.write_arguments-next.ensures.end, c.loop-p.invariant.1),
    )

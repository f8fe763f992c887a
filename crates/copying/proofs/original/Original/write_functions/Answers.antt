use Rattle.std.proofs.Common.{ℕ, Option, unwrap_or, ap, ◌∙◌, arith}
use Rattle.copying.specs.Layout.{function_rows}
use Rattle.copying.specs.Written.{written}
use Rattle.copying.proofs.Steps.{functions_step}
use Rattle.copying.proofs.original.Original.write_functions.Goals as goal

pub loop-f-preserved : goal.loop-f-preserved
loop-f-preserved g c =
    let m = g.S.Source.meaning c.args.self.now.grammar.source.now in
    let or_none : Option ℕ → ℕ = λ o. unwrap_or o 0 in
    let s = functions_step m c.loop-f.f c.args.cell c.loop-f.next c.unwrap_or-arity.result c.unwrap_or-count.result c.loop-f.cells c.write.new.cells
    (written c.args.cell (function_rows c.args.first m.functions) c.args.cells.now) (omega (arith, c.functions-f-end.ensures, c.loop-f-test.true))
    (c.unwrap_or-arity.ensures ∙ ap or_none c.arity.ensures) (c.unwrap_or-count.ensures ∙ ap or_none c.constituents.ensures) c.write.ensures c.loop-f.invariant.0 in
    (s.0, omega (arith, s.1, c.loop-f.invariant.1))

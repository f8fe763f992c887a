use Rattle.std.proofs.Common.{arith}
use Rattle.fact_log.proofs.Cutting.{cleared, cut_done}
use Rattle.fact_log.proofs.facts.cut.Goals as goal

pub returns : goal.returns
returns c =
    let r = c.requires.range in
    let g = c.requires.log.1 in
    cut_done c.args.cells.now _ c.refile.new.cells c.args.base c.args.to c.args.end r.0 r.1
    (cleared c.args.cells.now c.fill.new.self c.args.to c.args.end r.1 (omega (arith, g.within, g.inside)) (c.fill.ensures.after (λ y e. e))) c.refile.ensures.relinked c.refile.ensures.indexed

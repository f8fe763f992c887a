use Rattle.std.proofs.Common.{ℕ, ◌-◌, ◌≤◌, [], length, sym, subst, arith}
use Rattle.fact_log.specs.Log.{Later}
use Rattle.closing.specs.Ready.{grammar_in}
use Rattle.extending.specs.Charted.{Charted, More}
use Rattle.area.proofs.Starting.{started, start_ready, start_held, start_few}
use Rattle.area.proofs.opening.fill.Goals as goal

pub begin-requires : goal.begin-requires
begin-requires g c =
    let m = g.S.Source.meaning c.args.source.now in
    let n = c.from-counts.ensures.1 m c.requires.accepted in
    let is = c.grammar_cells-base.ensures.cells m n in
    let st = started m c.args.shape.now c.from-counts.result c.args.cells.now c.copy.new.cells c.requires.accepted n c.requires.zero (omega (arith, is, c.if-base-limit.false)) c.copy.ensures in
    let r = start_ready m c.args.shape.now c.from-counts.result c.copy.new.cells c.grammar_cells-base.result (length c.args.cells.now) c.requires.accepted is st (sym c.copy.auto.cells) in
    record { sound = r.0; linked = r.1; log = r.2 }

pub returns-in_err-end : goal.returns-in_err-end
returns-in_err-end g c =
    let m = g.S.Source.meaning c.args.source.now in
    let n = c.from-counts.ensures.1 m c.requires.accepted in
    let is = c.grammar_cells-base.ensures.cells m n in
    let st = started m c.args.shape.now c.from-counts.result c.args.cells.now c.copy.new.cells c.requires.accepted n c.requires.zero (omega (arith, is, c.if-base-limit.false)) c.copy.ensures in
    rw c.from_residual.ensures
    (start_few m c.from-counts.result c.copy.new.cells c.grammar_cells-base.result (length c.begin.new.cells) c.args.shape.now.heights is st c.begin.auto.cells
    (subst (λ (k : ℕ). More (grammar_in c.copy.new.cells c.grammar_cells-base.result c.from-counts.result) [] (k - c.grammar_cells-base.result)) (sym c.copy.auto.cells) c.in_err-end.ensures.0))

pub returns : goal.returns
returns g c =
    let m = g.S.Source.meaning c.args.source.now in
    let n = c.from-counts.ensures.1 m c.requires.accepted in
    let is = c.grammar_cells-base.ensures.cells m n in
    let st = started m c.args.shape.now c.from-counts.result c.args.cells.now c.copy.new.cells c.requires.accepted n c.requires.zero (omega (arith, is, c.if-base-limit.false)) c.copy.ensures in
    start_held m c.args.shape.now c.from-counts.result c.copy.new.cells c.begin.new.cells c.grammar_cells-base.result c.in_ok-end.end c.requires.accepted n is st
    (subst (λ (k : ℕ). Charted (grammar_in c.copy.new.cells c.grammar_cells-base.result c.from-counts.result) [] c.begin.new.cells c.grammar_cells-base.result c.in_ok-end.end k × Later c.copy.new.cells c.begin.new.cells c.grammar_cells-base.result c.grammar_cells-base.result k × (c.grammar_cells-base.result ≤ c.in_ok-end.end)) (sym c.copy.auto.cells) c.in_ok-end.ensures)

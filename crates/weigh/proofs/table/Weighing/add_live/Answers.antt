use Rattle.std.proofs.Common.{ℕ, suc, ◌<◌, Some, Option, sym, subst, arith}
use Rattle.steps.specs.Live.{FirstLive}
use Rattle.steps.proofs.Going.{after_live}
use Rattle.closing.proofs.Lives.{left, left_falls}
use Rattle.weigh.proofs.Adding.{live_rule, live_empty, live_first, live_again, live_none}
use Rattle.weigh.proofs.table.Weighing.add_live.Goals as goal

pub loop-place-init : goal.loop-place-init
loop-place-init g c =
    (0, c.first_live-place.ensures, live_first g.met.V.Algebra.lawful (g.S.Source.meaning c.args.self.now.chart.now.source.now) c.args.self.now.chart.now.cells.now c.args.self.now.table c.args.self.now.weights.now c.args.work.now c.args.category)

pub returns-in_default-bare_rule : goal.returns-in_default-bare_rule
returns-in_default-bare_rule g c =
    let inv = c.loop-place.invariant in
    let fl = subst (λ (o : Option ℕ). FirstLive (g.S.Source.meaning c.args.self.now.chart.now.source.now) c.args.category inv.0 o) c.in-Some.is inv.1 in
    absurd (live_empty (g.S.Source.meaning c.args.self.now.chart.now.source.now) c.args.category inv.0 c.in-Some.p fl c.in_default-bare_rule.ensures)

pub add_rule-requires : goal.add_rule-requires
add_rule-requires g c =
    let inv = c.loop-place.invariant in
    let fl = subst (λ (o : Option ℕ). FirstLive (g.S.Source.meaning c.args.self.now.chart.now.source.now) c.args.category inv.0 o) c.in-Some.is inv.1 in
    let r = c.requires.ready.0 in
    record {
      ready =
          ((g.S.Source.meaning c.args.self.now.chart.now.source.now), r.0, r.1, r.2, live_rule (g.S.Source.meaning c.args.self.now.chart.now.source.now) r.0 c.args.category inv.0 c.in-Some.p c.in-Some-bare_rule.rule fl c.in-Some-bare_rule.ensures, c.requires.ready.1);
      rows = omega (arith, c.requires.rows);
      index = omega (arith, c.requires.category);
    }

pub loop-place-preserved : goal.loop-place-preserved
loop-place-preserved g c =
    let inv = c.loop-place.invariant in
    let fl = subst (λ (o : Option ℕ). FirstLive (g.S.Source.meaning c.args.self.now.chart.now.source.now) c.args.category inv.0 o) c.in-Some.is inv.1 in (
      suc c.in-Some.p,
      after_live (g.S.Source.meaning c.args.self.now.chart.now.source.now) c.in-Some.p c.next_live-place.result c.next_live-place.ensures c.args.category fl.1,
      live_again g.met.V.Algebra.lawful (g.S.Source.meaning c.args.self.now.chart.now.source.now) c.args.self.now.chart.now.cells.now c.args.self.now.table c.args.self.now.weights.now c.args.work.now c.loop-place.work c.add_rule.new.work c.args.category inv.0 c.in-Some.p c.in-Some-bare_rule.rule
          c.requires.category (omega (arith, c.requires.rows)) fl c.in-Some-bare_rule.ensures inv.2 c.add_rule.ensures,
    )

pub loop-place-smaller : goal.loop-place-smaller
loop-place-smaller g c =
    let inv = c.loop-place.invariant in
    let fl = subst (λ (o : Option ℕ). FirstLive (g.S.Source.meaning c.args.self.now.chart.now.source.now) c.args.category inv.0 o) c.in-Some.is inv.1 in
    let less : left c.next_live-place.result < left (Some c.in-Some.p) =
    left_falls (g.S.Source.meaning c.args.self.now.chart.now.source.now) c.requires.ready.0.2.sound c.args.category inv.0 c.in-Some.p c.next_live-place.result fl (after_live (g.S.Source.meaning c.args.self.now.chart.now.source.now) c.in-Some.p c.next_live-place.result c.next_live-place.ensures c.args.category fl.1) in
    subst (λ (o : Option ℕ). left c.next_live-place.result < left o) (sym c.in-Some.is) less

pub returns : goal.returns
returns g c =
    let inv = c.loop-place.invariant in
    let fl = subst (λ (o : Option ℕ). FirstLive (g.S.Source.meaning c.args.self.now.chart.now.source.now) c.args.category inv.0 o) c.in_default.is inv.1 in
    live_none g.met.V.Algebra.lawful (g.S.Source.meaning c.args.self.now.chart.now.source.now) c.args.self.now.chart.now.cells.now c.args.self.now.table c.args.self.now.weights.now c.args.work.now c.loop-place.work c.args.category inv.0 fl inv.2

use Rattle.std.proofs.Common.{◌≡◌, ◌≢◌, ℕ, Option, MatchOption, sym, ap, ◌∙◌, subst, arith}
use Rattle.chart.specs.Sums.{made_rules}
use Rattle.cells.specs.declared.Cell.{Cell}
use Rattle.cells.specs.declared.Waiting.TheVariants.{Left}
use Rattle.cells.specs.Facts.{fact_of}
use Rattle.closing.specs.Joined.{made_in}
use Rattle.closing.proofs.Pairs.{made_row}
use Rattle.weigh.specs.Listed.{one_fact}
use Rattle.weigh.specs.Weighed.{RulesAdded}
use Rattle.weigh.proofs.Adding.{left_index, rule_there, added_none, added_unnumbered, added_made}
use Rattle.weigh.proofs.table.Weighing.add_made_in.Goals as goal

pub returns-in_default : goal.returns-in_default
returns-in_default g c =
    let r = c.args.self.now in
    let h = c.requires.there in
    let rule = c.in_default.field-0-0 in
    let none = subst (λ (o : Option ℕ). MatchOption o ((k : ℕ) → c.args.cell.wait ≢ Left k) (λ k. c.args.cell.wait ≡ Left k)) c.in_default.is-1 c.left.ensures in
    subst (λ (x : Cell). RulesAdded g.V.Algebra.nought g.V.Algebra.plus g.V.Algebra.times g.V.Algebra.reads r.chart.now.cells.now r.table r.weights.now c.args.work.now c.args.work.now (made_rules (one_fact (fact_of x.row)))) h.3
    (added_unnumbered g.met.V.Algebra.lawful r.chart.now.cells.now r.table r.weights.now c.args.work.now h.0 rule h.1 h.2 (ap (λ (x : Cell). x.row) h.3 ∙ made_row c.args.cell.row rule (sym c.in_default.is-0 ∙ c.made_in.ensures))
    (λ k e. none k (sym (ap (λ (x : Cell). x.wait) h.3) ∙ e)))

pub returns-in_default-2 : goal.returns-in_default-2
returns-in_default-2 g c =
    let r = c.args.self.now in
    let h = c.requires.there in
    subst (λ (x : Cell). RulesAdded g.V.Algebra.nought g.V.Algebra.plus g.V.Algebra.times g.V.Algebra.reads r.chart.now.cells.now r.table r.weights.now c.args.work.now c.args.work.now (made_rules (one_fact (fact_of x.row)))) h.3
    (added_none g.met.V.Algebra.lawful r.chart.now.cells.now r.table r.weights.now c.args.work.now h.0 (sym c.in_default.is-0 ∙ (c.made_in.ensures ∙ ap (λ (x : Cell). made_in x.row) (sym h.3))))

pub overflow_add-self : goal.overflow_add-self
overflow_add-self g c =
    let r = c.requires.ready in
    let h = c.requires.there in
    let i = c.in-Some-Some in
    let here = ap (λ (x : Cell). x.row) h.3 ∙ made_row c.args.cell.row i.rule (sym i.is-0 ∙ c.made_in.ensures) in
    let n = left_index r.0 r.1 c.args.self.now.chart.now.cells.now c.args.self.now.table r.2 h.0 i.number i.rule r.3 h.1 h.2 here (ap (λ (x : Cell). x.wait) h.3 ∙ i.ensures') in
    omega (arith, n.1, c.requires.rows)

pub add_rule-requires : goal.add_rule-requires
add_rule-requires g c =
    let r = c.requires.ready in
    let h = c.requires.there in
    let i = c.in-Some-Some in
    let here = ap (λ (x : Cell). x.row) h.3 ∙ made_row c.args.cell.row i.rule (sym i.is-0 ∙ c.made_in.ensures) in
    let n = left_index r.0 r.1 c.args.self.now.chart.now.cells.now c.args.self.now.table r.2 h.0 i.number i.rule r.3 h.1 h.2 here (ap (λ (x : Cell). x.wait) h.3 ∙ i.ensures') in
    record {
      ready = (r.0, r.1, r.2, r.3, rule_there r.0 r.1 c.args.self.now.chart.now.cells.now c.args.self.now.table r.2 h.0 i.rule r.3 h.1 h.2 here, r.4);
      rows = c.requires.rows;
      index = omega (arith, n.1);
    }

pub returns : goal.returns
returns g c =
    let r = c.args.self.now in
    let h = c.requires.there in
    let i = c.in-Some-Some in
    subst (λ (x : Cell). RulesAdded g.V.Algebra.nought g.V.Algebra.plus g.V.Algebra.times g.V.Algebra.reads r.chart.now.cells.now r.table r.weights.now c.args.work.now c.add_rule.new.work (made_rules (one_fact (fact_of x.row)))) h.3
    (added_made g.met.V.Algebra.lawful r.chart.now.cells.now r.table r.weights.now c.args.work.now c.add_rule.new.work h.0 i.number i.rule h.1 h.2 c.requires.rows
    (ap (λ (x : Cell). x.row) h.3 ∙ made_row c.args.cell.row i.rule (sym i.is-0 ∙ c.made_in.ensures)) (ap (λ (x : Cell). x.wait) h.3 ∙ i.ensures') c.add_rule.ensures)

use Rattle.std.proofs.Common.{ℕ, ◌<◌, ◌≤◌, Option, MatchOption, sym, subst, rules}
use Rattle.fact_log.specs.Index.{Last, LastOf, Down, thing_in}
use Rattle.fact_log.proofs.Buckets.{down_own}
use Rattle.fact_log.proofs.view.Index.last_before.Goals as goal

pub returns-in_err-start : goal.returns-in_err-start
returns-in_err-start c =
    let x = c.args.self.now in
    let t = c.args.thing.now in
    let inside : (x.base ≤ c.args.before) × (c.args.before < x.end) = search rules in
    let s = down_own x t c.args.before c.previous.result c.requires.indexed inside.0 inside.1 (c.has.ensures.0 c.if-has.true) c.previous.ensures in
    let none = subst (λ (o : Option ℕ). MatchOption o (Last (thing_in x) x.base t c.args.before 0) (λ p. (0 < p) × (p < c.args.before) × Down x t c.args.before p)) c.in_err-start.was s in
    subst (LastOf (thing_in x) x.base t c.args.before) (sym c.from_residual.ensures) none

pub down-requires-clause-start : goal.down-requires-clause-start
down-requires-clause-start c =
    let x = c.args.self.now in
    let t = c.args.thing.now in
    let inside : (x.base ≤ c.args.before) × (c.args.before < x.end) = search rules in
    let s = down_own x t c.args.before c.previous.result c.requires.indexed inside.0 inside.1 (c.has.ensures.0 c.if-has.true) c.previous.ensures in
    (subst (λ (o : Option ℕ). MatchOption o (Last (thing_in x) x.base t c.args.before 0) (λ p. (0 < p) × (p < c.args.before) × Down x t c.args.before p)) c.in_ok-start.was s).2

use Rattle.std.proofs.Common.{◌≡◌, ℕ, ◌<◌, Some, Option, MatchOption, sym, subst, arith}
use Rattle.std.proofs.lemmas.Bool.Decides.{not_from_Decides}
use Rattle.fact_log.specs.Index.{Last, LastOf, Down, thing_in}
use Rattle.fact_log.proofs.Buckets.{down_step}
use Rattle.fact_log.proofs.view.Index.down.Goals as goal
use Rattle.fact_log.proofs.view.Index.down.Goals.{then-at-before, else-at-before+then-not-has}

pub returns-in_err-at : goal.returns-in_err-at
returns-in_err-at c =
    let x = c.args.self.now in
    let at : ℕ = c.loop-at.at in
    let not : at < c.args.before → thing_in x at ≡ Some c.args.thing.now → ⊥ =
    elim c.if-at-before.branch as (λ _. at < c.args.before → thing_in x at ≡ Some c.args.thing.now → ⊥) [
      | then-at-before w ↦ λ lt e. omega (arith, lt, w.if-at-before.true)
      | else-at-before+then-not-has w ↦ λ lt e. not_from_Decides w.has.result w.has.ensures w.if-not-has.true e
    ] in
    let s = down_step x c.args.thing.now c.args.before at c.previous.result c.requires.indexed c.loop-at.invariant not c.previous.ensures in
    let none = subst (λ (o : Option ℕ). MatchOption o (Last (thing_in x) x.base c.args.thing.now c.args.before 0) (λ p. (0 < p) × (p < at) × Down x c.args.thing.now c.args.before p)) c.in_err-at.was s in
    subst (LastOf (thing_in x) x.base c.args.thing.now c.args.before) (sym c.from_residual.ensures) none

pub loop-at-smaller : goal.loop-at-smaller
loop-at-smaller c =
    let x = c.args.self.now in
    let at : ℕ = c.loop-at.at in
    let not : at < c.args.before → thing_in x at ≡ Some c.args.thing.now → ⊥ =
    elim c.if-at-before.branch as (λ _. at < c.args.before → thing_in x at ≡ Some c.args.thing.now → ⊥) [
      | then-at-before w ↦ λ lt e. omega (arith, lt, w.if-at-before.true)
      | else-at-before+then-not-has w ↦ λ lt e. not_from_Decides w.has.result w.has.ensures w.if-not-has.true e
    ] in
    let s = down_step x c.args.thing.now c.args.before at c.previous.result c.requires.indexed c.loop-at.invariant not c.previous.ensures in
    (subst (λ (o : Option ℕ). MatchOption o (Last (thing_in x) x.base c.args.thing.now c.args.before 0) (λ p. (0 < p) × (p < at) × Down x c.args.thing.now c.args.before p)) c.in_ok-at.was s).1

pub loop-at-preserved : goal.loop-at-preserved
loop-at-preserved c =
    let x = c.args.self.now in
    let at : ℕ = c.loop-at.at in
    let not : at < c.args.before → thing_in x at ≡ Some c.args.thing.now → ⊥ =
    elim c.if-at-before.branch as (λ _. at < c.args.before → thing_in x at ≡ Some c.args.thing.now → ⊥) [
      | then-at-before w ↦ λ lt e. omega (arith, lt, w.if-at-before.true)
      | else-at-before+then-not-has w ↦ λ lt e. not_from_Decides w.has.result w.has.ensures w.if-not-has.true e
    ] in
    let s = down_step x c.args.thing.now c.args.before at c.previous.result c.requires.indexed c.loop-at.invariant not c.previous.ensures in
    (subst (λ (o : Option ℕ). MatchOption o (Last (thing_in x) x.base c.args.thing.now c.args.before 0) (λ p. (0 < p) × (p < at) × Down x c.args.thing.now c.args.before p)) c.in_ok-at.was s).2

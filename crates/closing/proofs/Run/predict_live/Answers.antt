use Rattle.std.proofs.Common.{ℕ, suc, ◌<◌, Some, None, Option, sym, ap, subst, arith}
use Rattle.std.proofs.lemmas.Bool.Decides.{not_from_Decides}
use Rattle.grammar.specs.Grammar.{Grammar}
use Rattle.chart.specs.Chart.{Chart}
use Rattle.cells.specs.Facts.{phrase_of, meant}
use Rattle.cells.specs.declared.Fact.TheVariants.{Item}
use Rattle.cells.proofs.Equal.{phrase_told}
use Rattle.cells.proofs.Meant.{phrase_apart}
use Rattle.steps.specs.Bare.{BareAt}
use Rattle.steps.specs.Live.{LiveOf, FirstLive}
use Rattle.closing.specs.State.{Grown, Has}
use Rattle.closing.specs.Runs.{grammar_of}
use Rattle.closing.proofs.Lives.{Going, going_again, going_none, going_other, going_missing, going_chart, left, left_falls}
use Rattle.closing.proofs.Standing.{at_entry, at_exit, ready_later, full_later, grown_later}
use Rattle.closing.proofs.Run.predict_live.Goals as goal

pub bare_rule_for-requires : goal.bare_rule_for-requires
bare_rule_for-requires c =
    let r = (ready_later c.args.self.now c.requires.ready c.loop-place.invariant.grown) in
    let l = r.state.log in
    record { range = (l.positive, omega (arith, l.begun, l.within, l.inside)); sound = r.sound }

pub returns-in_default-bare_rule_for-2 : goal.returns-in_default-bare_rule_for-2
returns-in_default-bare_rule_for-2 c =
    absurd (going_missing (grammar_of c.args.self.now c.args.cells.now) c.args.self.now.tokens.now c.args.cells.now c.loop-place.cells c.args.self.now.room.base c.args.end c.loop-place.to c.args.self.now.room.limit (phrase_of c.args.awaited) c.args.s c.args.k c.in-Some.p (subst (λ (o : Option ℕ). Going (grammar_of c.args.self.now c.args.cells.now) c.args.self.now.tokens.now c.args.cells.now c.loop-place.cells c.args.self.now.room.base c.args.end c.loop-place.to c.args.self.now.room.limit (phrase_of c.args.awaited) c.args.s c.args.k o) c.in-Some.is c.loop-place.invariant)
    (at_entry c.args.self.now (λ (g : Grammar). BareAt g c.in-Some.p None) c.loop-place.invariant.grown.later (subst (BareAt (grammar_of c.args.self.now c.loop-place.cells) c.in-Some.p) c.in_default-bare_rule_for.is c.bare_rule_for.ensures)))

pub returns-in_default-bare_rule_for : goal.returns-in_default-bare_rule_for
returns-in_default-bare_rule_for c =
    going_other (grammar_of c.args.self.now c.args.cells.now) c.args.self.now.tokens.now c.args.cells.now c.loop-place.cells c.args.self.now.room.base c.args.end c.loop-place.to c.args.self.now.room.limit (phrase_of c.args.awaited) c.args.s c.args.k c.in-Some.p c.in-Some-bare_rule_for.rule (subst (λ (o : Option ℕ). Going (grammar_of c.args.self.now c.args.cells.now) c.args.self.now.tokens.now c.args.cells.now c.loop-place.cells c.args.self.now.room.base c.args.end c.loop-place.to c.args.self.now.room.limit (phrase_of c.args.awaited) c.args.s c.args.k o) c.in-Some.is c.loop-place.invariant) (at_entry c.args.self.now (λ (g : Grammar). BareAt g c.in-Some.p (Some c.in-Some-bare_rule_for.rule)) c.loop-place.invariant.grown.later c.in-Some-bare_rule_for.ensures)
    (λ e. not_from_Decides c.eq.result (phrase_told c.in-Some-bare_rule_for.rule.left c.args.awaited c.eq.result c.eq.ensures) c.if-eq.false (phrase_apart c.in-Some-bare_rule_for.rule.left c.args.awaited e))

pub add-requires : goal.add-requires
add-requires c =
    record {
      ready = (ready_later c.args.self.now c.requires.ready c.loop-place.invariant.grown);
      fact =
          at_exit c.args.self.now (λ (g : Grammar). Chart g c.args.self.now.tokens.now (meant (Item c.predicted.result))) c.loop-place.invariant.grown.later
          (going_chart (grammar_of c.args.self.now c.args.cells.now) c.args.self.now.tokens.now c.args.cells.now c.loop-place.cells c.args.self.now.room.base c.args.end c.loop-place.to c.args.self.now.room.limit (phrase_of c.args.awaited) c.args.s c.args.k c.in-Some.p (meant (Item c.predicted.result)) c.in-Some-bare_rule_for.rule (subst (λ (o : Option ℕ). Going (grammar_of c.args.self.now c.args.cells.now) c.args.self.now.tokens.now c.args.cells.now c.loop-place.cells c.args.self.now.room.base c.args.end c.loop-place.to c.args.self.now.room.limit (phrase_of c.args.awaited) c.args.s c.args.k o) c.in-Some.is c.loop-place.invariant) c.requires.facts (at_entry c.args.self.now (λ (g : Grammar). BareAt g c.in-Some.p (Some c.in-Some-bare_rule_for.rule)) c.loop-place.invariant.grown.later c.in-Some-bare_rule_for.ensures) (ap phrase_of ((phrase_told c.in-Some-bare_rule_for.rule.left c.args.awaited c.eq.result c.eq.ensures).0 c.if-eq.true)) c.predicted.ensures);
    }

pub returns-in_err-to-in-Some-bare_rule_for : goal.returns-in_err-to-in-Some-bare_rule_for
returns-in_err-to-in-Some-bare_rule_for c = rw c.from_residual.ensures (full_later c.args.self.now c.loop-place.invariant.grown c.in_err-to-in-Some-bare_rule_for.ensures)

pub next_live_for-place-requires : goal.next_live_for-place-requires
next_live_for-place-requires c =
    let r = ready_later c.args.self.now (ready_later c.args.self.now c.requires.ready c.loop-place.invariant.grown) c.in_ok-to-in-Some-bare_rule_for.ensures.0 in
    let l = r.state.log in
    record { range = (l.positive, omega (arith, l.begun, l.within, l.inside)); linked = r.linked }

pub loop-place-preserved : goal.loop-place-preserved
loop-place-preserved c =
    let both = grown_later c.args.self.now c.loop-place.invariant.grown c.in_ok-to-in-Some-bare_rule_for.ensures.0 in
    going_again (grammar_of c.args.self.now c.args.cells.now) c.args.self.now.tokens.now c.args.cells.now c.loop-place.cells c.add.new.cells c.args.self.now.room.base c.args.end c.loop-place.to c.in_ok-to-in-Some-bare_rule_for.to c.args.self.now.room.limit (phrase_of c.args.awaited) c.args.s c.args.k c.in-Some.p c.next_live_for-place.result (meant (Item c.predicted.result)) c.in-Some-bare_rule_for.rule (subst (λ (o : Option ℕ). Going (grammar_of c.args.self.now c.args.cells.now) c.args.self.now.tokens.now c.args.cells.now c.loop-place.cells c.args.self.now.room.base c.args.end c.loop-place.to c.args.self.now.room.limit (phrase_of c.args.awaited) c.args.s c.args.k o) c.in-Some.is c.loop-place.invariant) (at_entry c.args.self.now (λ (g : Grammar). BareAt g c.in-Some.p (Some c.in-Some-bare_rule_for.rule)) c.loop-place.invariant.grown.later c.in-Some-bare_rule_for.ensures) c.predicted.ensures
    (at_entry c.args.self.now (λ (g : Grammar). Grown g c.args.self.now.tokens.now c.loop-place.cells c.add.new.cells c.args.self.now.room.base c.loop-place.to c.in_ok-to-in-Some-bare_rule_for.to c.args.self.now.room.limit × Has c.add.new.cells c.args.self.now.room.base c.in_ok-to-in-Some-bare_rule_for.to (meant (Item c.predicted.result))) c.loop-place.invariant.grown.later c.in_ok-to-in-Some-bare_rule_for.ensures)
    (at_entry c.args.self.now (λ (g : Grammar). (k : ℕ) → LiveOf g k c.in-Some.p → FirstLive g k (suc c.in-Some.p) c.next_live_for-place.result) both.later c.next_live_for-place.ensures)

pub loop-place-smaller : goal.loop-place-smaller
loop-place-smaller c =
    let h = (subst (λ (o : Option ℕ). Going (grammar_of c.args.self.now c.args.cells.now) c.args.self.now.tokens.now c.args.cells.now c.loop-place.cells c.args.self.now.room.base c.args.end c.loop-place.to c.args.self.now.room.limit (phrase_of c.args.awaited) c.args.s c.args.k o) c.in-Some.is c.loop-place.invariant) in
    let both = grown_later c.args.self.now c.loop-place.invariant.grown c.in_ok-to-in-Some-bare_rule_for.ensures.0 in
    let next = (at_entry c.args.self.now (λ (g : Grammar). (k : ℕ) → LiveOf g k c.in-Some.p → FirstLive g k (suc c.in-Some.p) c.next_live_for-place.result) both.later c.next_live_for-place.ensures) in
    let less : left c.next_live_for-place.result < left (Some c.in-Some.p) =
    left_falls (grammar_of c.args.self.now c.args.cells.now) c.requires.ready.sound c.args.awaited.category h.from c.in-Some.p c.next_live_for-place.result h.first (next c.args.awaited.category h.first.1) in
    subst (λ (o : Option ℕ). left c.next_live_for-place.result < left o) (sym c.in-Some.is) less

pub returns : goal.returns
returns c =
    going_none (grammar_of c.args.self.now c.args.cells.now) c.args.self.now.tokens.now c.args.cells.now c.loop-place.cells c.args.self.now.room.base c.args.end c.loop-place.to c.args.self.now.room.limit (phrase_of c.args.awaited) c.args.s c.args.k
    (subst (λ (o : Option ℕ). Going (grammar_of c.args.self.now c.args.cells.now) c.args.self.now.tokens.now c.args.cells.now c.loop-place.cells c.args.self.now.room.base c.args.end c.loop-place.to c.args.self.now.room.limit (phrase_of c.args.awaited) c.args.s c.args.k o) c.in_default.is c.loop-place.invariant)

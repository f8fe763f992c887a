use Rattle.std.proofs.Common.{ℕ, List, length, take, slice_index, refl, sym, ap, ◌∙◌, subst, take_all, arith}
use Rattle.std.proofs.lemmas.List.{take_more}
use Rattle.note.specs.Promises.{Openable, Holds, NotFed}
use Rattle.misuse.specs.WeighedNote.{AcceptedAfter, AcceptedTo}
use Rattle.misuse.proofs.Used.{made_holds, accepted_openable, accepted_more, weighed_told}
use Rattle.misuse.proofs.weigh_note.Goals as goal

pub loop-token-preserved : goal.loop-token-preserved
loop-token-preserved g c =
    let i = c.loop-token.invariant in
    let k = c.loop-token.token-index in
    let tokens = c.args.tokens.now in (
      c.feed.ensures.area ∙ i.0,
      c.feed.ensures.length ∙ i.1,
      λ v made.
          let l = i.2 v made in
          let f = c.in_default.ensures.fed v (take k tokens) l.0 in
          let after : AcceptedAfter v (length c.feed.new.self.area.now) (take k tokens) (slice_index tokens k) = (f.0, c.in_default.field-0, f.2, f.3) in (
            subst (λ (w : List ℕ). Holds v w c.feed.new.self) (sym (take_more tokens k 0 c.loop-token-test.true)) f.1,
            accepted_more v (length c.make-note.result.area.now) tokens k l.1 (subst (λ (len : ℕ). AcceptedAfter v len (take k tokens) (slice_index tokens k)) (c.feed.ensures.length ∙ i.1) after),
          ),
    )

pub returns-in-Err-feed-clause-weighed : goal.returns-in-Err-feed-clause-weighed
returns-in-Err-feed-clause-weighed g c =
    let v = g.S.Source.meaning c.args.source.now in
    let k = c.loop-token.token-index in
    let tokens = c.args.tokens.now in
    let made = made_holds v _ c.in-Ok.accepted c.make-note.result c.in-Ok.ensures c.make-note.ensures in
    let i = c.loop-token.invariant in
    let l = i.2 v made in
    let f = c.in-Err-feed.ensures.fed v (take k tokens) l.0 in
    let lent = ap length c.make-note.ensures.cells ∙ c.check.auto.cells in
    rw c.into-in-Err-feed.ensures (
      subst (λ (len : ℕ). Openable v len) c.check.auto.cells (accepted_openable v c.check.new.cells c.in-Ok.accepted c.in-Ok.ensures),
      (
        k,
        record {
          below = c.loop-token-test.true;
          accepted = subst (λ (len : ℕ). AcceptedTo v len tokens k) lent l.1;
          refused = subst (λ (len : ℕ). NotFed v (take k tokens) (slice_index tokens k) len c.in-Err-feed.refusal) (i.1 ∙ lent) f.0;
        },
      ),
      refl,
    )

pub returns-clause-weighed : goal.returns-clause-weighed
returns-clause-weighed g c =
    let v = g.S.Source.meaning c.args.source.now in
    let k = c.loop-token.token-index in
    let tokens = c.args.tokens.now in
    let made = made_holds v _ c.in-Ok.accepted c.make-note.result c.in-Ok.ensures c.make-note.ensures in
    let l = c.loop-token.invariant.2 v made in
    let lent = ap length c.make-note.ensures.cells ∙ c.check.auto.cells in
    let accepted : AcceptedTo v (length c.args.area.now) tokens k = subst (λ (len : ℕ). AcceptedTo v len tokens k) lent l.1 in
    let held = subst (λ (w : List ℕ). Holds v w c.loop-token.note) (take_all k tokens c.loop-token-test.false) l.0 in
    let closed = c.close-closed.ensures.closed v tokens held in
    weighed_told g.V.Algebra.nought g.V.Algebra.plus g.V.Algebra.times g.V.Algebra.reads g.V.Algebra.writes v (length c.args.area.now) tokens c.args.depth c.args.weights.now c.args.work.now c.weigh-area.new.work c.weigh-area.result.1 c.map_err.result (
      subst (λ (len : ℕ). Openable v len) c.check.auto.cells (accepted_openable v c.check.new.cells c.in-Ok.accepted c.in-Ok.ensures),
      λ n less. accepted n (omega (arith, less, c.loop-token-test.false)),
      c.close-closed.result.closing.bound,
      closed.bound,
      closed.low,
      c.weigh-area.ensures.weighed v tokens closed,
    )
    c.map_err.ensures.cases

use Rattle.std.proofs.Common.{◌≡◌, None, Some, sym, subst, MatchOption}
use Rattle.faults.specs.Sound.{Sound}
use Rattle.faults.proofs.Made.{made_sound}
use Rattle.soundness.specs.Heights.{LeastHeights}
use Rattle.soundness.proofs.Verdict.{passed}
use Rattle.soundness.proofs.dead.tree_heights.Goals as goal

pub returns-in_err-grammar : goal.returns-in_err-grammar
returns-in_err-grammar g c =
    let m = g.S.Source.meaning c.args.source.now in
    subst (λ o. MatchOption o (Sound m → ⊥) (λ hs. Sound m × LeastHeights m hs)) (sym c.from_residual.ensures) (passed m _ c.of.result None c.in_err-grammar.ensures.value c.of.ensures)

pub returns : goal.returns
returns g c =
    let e : c.in_ok-grammar.grammar.source.now ≡ c.args.source.now = passed (g.S.Source.meaning c.args.source.now) _ c.of.result (Some c.in_ok-grammar.grammar) c.in_ok-grammar.ensures.value c.of.ensures in
    subst (λ x. Sound (g.S.Source.meaning x) × LeastHeights (g.S.Source.meaning x) c.least_heights.result) e (made_sound (g.S.Source.meaning c.in_ok-grammar.grammar.source.now) c.in_ok-grammar.grammar.faultless, c.least_heights.ensures.least)

use Rattle.std.proofs.Common.{◌≡◌, Err, None, sym, ap, subst, ◌∙◌}
use Rattle.std.specs.Result.{MatchResult}
use Rattle.std.proofs.lemmas.Result.{err_from_is_err_and}
use Rattle.grammar.specs.Grammar.{Grammar}
use Rattle.faults.specs.Faults.{first_fault}
use Rattle.faults.proofs.Made.{made_sound}
use Rattle.soundness.specs.Heights.{LeastHeights}
use Rattle.soundness.specs.Opening.{Accepted, Refused}
use Rattle.soundness.specs.Totals.{constituent_total, symbol_total, argument_total}
use Rattle.soundness.proofs.Verdict.{refused_first, refused_want, start_tree}
use Rattle.soundness.proofs.opening.check.Goals as goal

pub returns-in_err-grammar : goal.returns-in_err-grammar
returns-in_err-grammar g c =
    let m = g.S.Source.meaning c.args.source.now in
    let p = err_from_is_err_and c.from_residual.result c.from_residual.ensures.1 in
    subst (λ r. MatchResult r (Accepted m) (Refused m)) (sym (p.1 ∙ ap Err p.2)) (refused_first m c.in_err-grammar.field-0.0 c.in_err-grammar.ensures)

pub returns-then-not-has_tree : goal.returns-then-not-has_tree
returns-then-not-has_tree g c =
    let m = g.S.Source.meaning c.args.source.now in
    let e : g.S.Source.meaning c.in_ok-grammar.grammar.source.now ≡ m = ap g.S.Source.meaning c.in_ok-grammar.ensures in
    let none : first_fault m ≡ None = subst (λ (n : Grammar). first_fault n ≡ None) e c.in_ok-grammar.grammar.faultless in
    let least : LeastHeights m c.least_heights-heights.result = subst (λ n. LeastHeights n c.least_heights-heights.result) e c.least_heights-heights.ensures.least in
    refused_want m c.start-start.result none c.start-start.ensures (c.if-not-has_tree.ensures.told m least)

pub returns : goal.returns
returns g c =
    let m = g.S.Source.meaning c.args.source.now in
    let e : g.S.Source.meaning c.in_ok-grammar.grammar.source.now ≡ m = ap g.S.Source.meaning c.in_ok-grammar.ensures in
    let none : first_fault m ≡ None = subst (λ (n : Grammar). first_fault n ≡ None) e c.in_ok-grammar.grammar.faultless in
    let least : LeastHeights m c.least_heights-heights.result = subst (λ n. LeastHeights n c.least_heights-heights.result) e c.least_heights-heights.ensures.least in
    record {
      faultless = none;
      sound = made_sound m none;
      tree = start_tree m c.start-start.result c.start-start.ensures (c.if-not-has_tree.ensures.told m least);
      tokens = c.tokens.ensures;
      start = c.start-start.ensures;
      categories = c.categories.ensures;
      functions = c.functions.ensures;
      constituents = c.constituent_total.ensures ∙ ap constituent_total e;
      symbols = c.symbol_total.ensures ∙ ap symbol_total e;
      places = c.places.ensures;
      arguments = c.argument_total.ensures ∙ ap argument_total e;
      heights = least;
      room = c.least_heights-heights.ensures.len;
    }

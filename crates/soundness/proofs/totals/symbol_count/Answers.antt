use Rattle.std.proofs.Common.{◌≡◌, ℕ, ◌+◌, rules, tests, true, false, is_some, ◌∙◌}
use Rattle.std.proofs.lemmas.Iterator.{first_from_Range}
use Rattle.grammar.specs.Grammar.{symbol_at}
use Rattle.soundness.proofs.Summed.{symbols_before}
use Rattle.soundness.proofs.totals.symbol_count.Goals as goal

pub returns : goal.returns
returns g c =
    let there = λ (i : ℕ). is_some (symbol_at (g.S.Source.meaning c.args.source.now) c.args.function c.args.constituent (i + 1)) in
    c.unwrap_or.ensures
    ∙ symbols_before (g.S.Source.meaning c.args.source.now) c.args.function c.args.constituent c.find.result
    (first_from_Range _ _ _ c.find.result (λ i. there i ≡ false) (λ i. there i ≡ true) c.find.ensures.ran (λ x q k. search (rules, tests)) (λ x q k. search (rules, tests)))

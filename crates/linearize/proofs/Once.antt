-- At most one answer of linearizing is right: `one_answer`.
use Rattle.std.proofs.Common.{◌≡◌, ℕ, ◌<◌, ◌≤◌, List, ◌++◌, length, drop, Ok, Err, sym, refl, ap, ◌∙◌, inl, inr, arith}
use Rattle.grammar.specs.Grammar.{Grammar}
use Rattle.grammar.specs.Trees.{string}
use Rattle.chart.proofs.Written.{written_once}
use Rattle.linearize.specs.declared.refusal.Unlinearized.TheVariants.{NoTree, TooShort}
use Rattle.linearize.specs.Linearizes.{Writes, WritesNone, Linearizes, OneAnswer}

pub one_string : (g : Grammar) (ns : List ℕ) (x y : Writes g ns) → string g x.tree ≡ string g y.tree
one_string g ns x y = ap (string g) (written_once g x.tree y.tree g.start g.start x.start y.start (x.listed ∙ sym y.listed))

pub not_both : (g : Grammar) (ns : List ℕ) → Writes g ns → WritesNone g ns → ⊥
not_both g ns x (inl over) = omega (arith, x.few, over)
not_both g ns x (inr none) = none x.tree x.start x.listed

pub one_answer : OneAnswer
one_answer g ns before a b (Ok n) (Ok m) p q =
    let same = one_string g ns p.0 q.0 in
    let e : n ≡ m = p.1 ∙ (ap length same ∙ sym q.1) in
    (ap Ok e, p.3 ∙ (ap (λ (u : List ℕ). u ++ drop n before) same ∙ (ap (λ (k : ℕ). string g q.0.tree ++ drop k before) e ∙ sym q.3)))
one_answer g ns before a b (Ok n) (Err NoTree) p q = absurd (not_both g ns p.0 q.0)
one_answer g ns before a b (Ok n) (Err TooShort) p q = absurd (omega (arith, p.1, p.2, q.1, ap length (one_string g ns p.0 q.0)))
one_answer g ns before a b (Err NoTree) (Ok m) p q = absurd (not_both g ns q.0 p.0)
one_answer g ns before a b (Err NoTree) (Err NoTree) p q = (refl, p.1 ∙ sym q.1)
one_answer g ns before a b (Err NoTree) (Err TooShort) p q = absurd (not_both g ns q.0 p.0)
one_answer g ns before a b (Err TooShort) (Ok m) p q = absurd (omega (arith, q.1, q.2, p.1, ap length (one_string g ns p.0 q.0)))
one_answer g ns before a b (Err TooShort) (Err NoTree) p q = absurd (not_both g ns p.0 q.0)
one_answer g ns before a b (Err TooShort) (Err TooShort) p q = (refl, p.2 ∙ sym q.2)

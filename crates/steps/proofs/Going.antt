-- The next live place after a live one.
use Rattle.std.proofs.Common.{ℕ, suc, Option, subst}
use Rattle.grammar.specs.Grammar.{Grammar}
use Rattle.steps.specs.Live.{LiveOf, FirstLive, NextLive}

pub after_live : (g : Grammar) (p : ℕ) (r : Option ℕ) → NextLive g p r → (c : ℕ) → LiveOf g c p → FirstLive g c (suc p) r
after_live g p r h c live = subst (λ (k : ℕ). FirstLive g k (suc p) r) live.2 (h.filled live.0 live.1.filled)

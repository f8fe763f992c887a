-- What the bare rules of a phrase start. Assumes nothing.
use Rattle.std.specs.Prelude.{◌≡◌, ℕ}
use Rattle.grammar.specs.Grammar.{Grammar, Production}
use Rattle.chart.specs.Chart as chart
use Rattle.chart.specs.Chart.{Phrase, Live, bare_rule, Chart, item}

-- Of each fact that starts constituent s at k by a bare rule with X on its left, P holds.
abbrev pub EachLive : Grammar → Phrase → ℕ → ℕ → (chart.Fact → Type 0) → Type 0
EachLive g X s k P = (p : ℕ) (q : Production) → Live g p q → (bare_rule g p q).left ≡ X → P (item (bare_rule g p q) s k 0 k)

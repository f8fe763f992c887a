-- What an item and a made rule lead to, by the steps of the chart from two facts. Assumes nothing.
use Rattle.std.specs.Prelude.{◌≡◌, ℕ, Option, MatchOption}
use Rattle.grammar.specs.Grammar.{Grammar}
use Rattle.chart.specs.Chart as chart
use Rattle.chart.specs.Chart.{Join}
use Rattle.cells.specs.declared.Item.{Item}
use Rattle.cells.specs.declared.Rule.{Rule}
use Rattle.cells.specs.declared.Fact.{Fact}
use Rattle.cells.specs.declared.Fact.TheVariants as fact
use Rattle.cells.specs.Facts.{meant}
use Rattle.steps.specs.Nexts.{BeforeArgument}

-- In every grammar in which the item x stands before ⟨d;s⟩: just one join leads from it and the made rule q, to the fact that is
-- answered; or none does.
abbrev pub JoinOf : Item → ℕ → ℕ → Rule → Option Fact → Type 0
JoinOf x d s q r =
    (g : Grammar) → BeforeArgument g x d s
    → MatchOption r ((z : chart.Fact) → Join g (meant (fact.Item x)) (meant (fact.Made q)) z → ⊥)
    (λ f. Join g (meant (fact.Item x)) (meant (fact.Made q)) (meant f) × ((z : chart.Fact) → Join g (meant (fact.Item x)) (meant (fact.Made q)) z → z ≡ meant f))

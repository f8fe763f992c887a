-- What an item does next, by the steps of the chart from one item. Assumes nothing.
use Rattle.std.specs.Prelude.{◌≡◌, ℕ, List, Some}
use Rattle.grammar.specs.declared.Symbol.TheVariants.{Token, Argument}
use Rattle.grammar.specs.Grammar.{Grammar, from_one}
use Rattle.chart.specs.Chart as chart
use Rattle.chart.specs.Chart.{Step, after_dot}
use Rattle.cells.specs.declared.Span.TheVariants.{Unread}
use Rattle.cells.specs.declared.Phrase.{Phrase}
use Rattle.cells.specs.declared.Item.{Item}
use Rattle.cells.specs.declared.Fact.TheVariants as fact
use Rattle.cells.specs.Facts.{list_of, rule_of, meant}
use Rattle.steps.specs.declared.next.Next.{Next}
use Rattle.steps.specs.declared.next.Next.TheVariants.{Moves, Waits, Stuck}

-- The dot of the item stands before the token t, or before ⟨d;s⟩.
abbrev pub BeforeToken : Grammar → Item → ℕ → Type 0
BeforeToken g x t = after_dot g (rule_of x.rule) x.constituent x.dot ≡ Some (Token t)

abbrev pub BeforeArgument : Grammar → Item → ℕ → ℕ → Type 0
BeforeArgument g x d s = after_dot g (rule_of x.rule) x.constituent x.dot ≡ Some (Argument d s)

-- Constituent s of argument d of the item is unread.
abbrev pub UnreadPart : Item → ℕ → ℕ → Type 0
UnreadPart x d s = (X : Phrase) × (from_one (list_of x.rule.arguments) d ≡ Some X) × (from_one (list_of X.spans) s ≡ Some Unread)

-- The item stands before no constituent that is unread in its argument, so that no prediction and no join leads from it.
abbrev pub WaitsForNone : Grammar → Item → Type 0
WaitsForNone g x = (d s : ℕ) → BeforeArgument g x d s → UnreadPart x d s → ⊥

-- It waits: it stands before a constituent that is unread in its argument, and so only predictions and joins lead from it. Else it moves:
-- just one step leads from it, to that fact; or it is stuck: no step leads from it.
abbrev pub NextOf : Grammar → List ℕ → Item → Next → Type 0
NextOf g w x (Moves f) = Step g w (meant (fact.Item x)) (meant f) × ((z : chart.Fact) → Step g w (meant (fact.Item x)) z → z ≡ meant f) × WaitsForNone g x
NextOf g w x (Waits d s) = BeforeArgument g x d s × UnreadPart x d s
NextOf g w x Stuck = ((z : chart.Fact) → Step g w (meant (fact.Item x)) z → ⊥) × WaitsForNone g x

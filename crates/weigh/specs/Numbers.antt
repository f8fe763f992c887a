-- The numbers of the left sides of made rules. Assumes nothing.
use Rattle.std.specs.Prelude.{◌≡◌, ℕ, ◌+◌, ◌<◌, ◌≤◌, List, length, Some, None, Option, MatchOption, ◌≢◌, slice_set}
use Rattle.std.specs.List.{slice_get}
use Rattle.grammar.specs.Grammar.{Grammar}
use Rattle.chart.specs.Chart as chart
use Rattle.chart.specs.Chart.{Enumerates, Made}
use Rattle.cells.specs.declared.Cell.{Cell}
use Rattle.cells.specs.declared.Phrase.{Phrase}
use Rattle.cells.specs.declared.Rule.{Rule}
use Rattle.cells.specs.declared.Fact.TheVariants as fact
use Rattle.cells.specs.declared.Waiting.{Waiting}
use Rattle.cells.specs.declared.Waiting.TheVariants.{Left}
use Rattle.cells.specs.Facts.{phrase_of}
use Rattle.fact_log.specs.Index.{cell_of}
use Rattle.fact_log.specs.Log.{FactAt}
use Rattle.closing.specs.State.{State, Whole}

-- The cell with another `wait`.
abbrev pub with_wait : Cell → Waiting → Cell
with_wait c v = record { row = c.row; wait = v; fact = c.fact; first = c.first; second = c.second; third = c.third; whole = c.whole }

-- From base on and before n the cell p holds a made rule.
abbrev pub MadeAt : List Cell → ℕ → ℕ → ℕ → Rule → Type 0
MadeAt cs base n p r = (base ≤ p) × (p < n) × FactAt cs p (fact.Made r)

-- Only what made rules from base on and before n have as `wait` changed.
pub record Renumbered (cs cs' : List Cell) (base n : ℕ) : Type 0 where
  pub len : length cs' ≡ length cs
  pub only : (p : ℕ) → cell_of cs' p ≡ with_wait (cell_of cs p) (cell_of cs' p).wait
  pub others : (p : ℕ) → ((r : Rule) → MadeAt cs base n p r → ⊥) → cell_of cs' p ≡ cell_of cs p

-- What is told of the number of the phrase X as a left side before n: the number that the last made rule with that left side has; or
-- that no made rule has that left side, or that the last of them has no number.
abbrev pub NumberOf : List Cell → ℕ → ℕ → Phrase → Option ℕ → Type 0
NumberOf cs base n X o =
    MatchOption o ((p : ℕ) (r : Rule) → MadeAt cs base n p r → r.left ≡ X → (m : ℕ) × (q : Rule) × MadeAt cs base n m q × (q.left ≡ X) × ((k : ℕ) → (cell_of cs m).wait ≢ Left k) × (p ≤ m))
    (λ k. (p : ℕ) × (r : Rule) × MadeAt cs base n p r × (r.left ≡ X) × ((cell_of cs p).wait ≡ Left k) × ((m : ℕ) (q : Rule) → MadeAt cs base n m q → q.left ≡ X → m ≤ p))

-- One cell is numbered: it holds no made rule; or its left side has a number already; or it takes the next one.
pub data NumberedOne (cs cs' : List Cell) (base p count r : ℕ) : Type 0 where
  other : ((q : Rule) → FactAt cs p (fact.Made q) → ⊥) → cs' ≡ cs → r ≡ count → NumberedOne cs cs' base p count r
  again : (q : Rule) (k : ℕ) → FactAt cs p (fact.Made q) → NumberOf cs base p q.left (Some k) → cs' ≡ slice_set cs p (with_wait (cell_of cs p) (Left k)) → r ≡ count
      → NumberedOne cs cs' base p count r
  new : (q : Rule) → FactAt cs p (fact.Made q) → NumberOf cs base p q.left None → cs' ≡ slice_set cs p (with_wait (cell_of cs p) (Left count)) → r ≡ count + 1
      → NumberedOne cs cs' base p count r

-- Each made rule has the number of its left side in the list.
abbrev pub InOrder : List Cell → ℕ → ℕ → List chart.Phrase → Type 0
InOrder cs base n phrases = (p : ℕ) (r : Rule) → MadeAt cs base n p r → (k : ℕ) × ((cell_of cs p).wait ≡ Left k) × (slice_get phrases k ≡ Some (phrase_of r.left))

-- The left sides of the made rules of the chart are `phrases`, each once, and each made rule has the number of its left side.
pub record Numbered (g : Grammar) (w : List ℕ) (cs : List Cell) (base n : ℕ) (phrases : List chart.Phrase) : Type 0 where
  pub listed : Enumerates (Made g w) phrases
  pub numbers : InOrder cs base n phrases

-- They are in the order in which they first stand in the cells: each stands before every made rule whose left side comes later.
abbrev pub Ordered : List Cell → ℕ → ℕ → List chart.Phrase → Type 0
Ordered cs base n phrases =
    (p k j : ℕ) (r : Rule) (X : chart.Phrase) → MadeAt cs base n p r → slice_get phrases k ≡ Some (phrase_of r.left) → j < k → slice_get phrases j ≡ Some X
    → (m : ℕ) × (q : Rule) × MadeAt cs base n m q × (phrase_of q.left ≡ X) × (m < p)

-- After numbering: the facts are the same, and all of the chart's left sides are numbered, `count` of them, in this order.
abbrev pub NumberedAll : List Cell → List Cell → ℕ → ℕ → ℕ → ℕ → Type 0
NumberedAll cs cs' base n limit count =
    (g : Grammar) (w : List ℕ) → State g w cs base n limit → Whole g w cs base n
    → State g w cs' base n limit × Whole g w cs' base n × ((phrases : List chart.Phrase) × Numbered g w cs' base n phrases × (length phrases ≡ count) × Ordered cs' base n phrases)

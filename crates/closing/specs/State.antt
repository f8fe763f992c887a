-- The facts of a chart in cells while they grow: what holds of them, and what each call that adds facts leaves. Assumes nothing.
use Rattle.std.specs.Prelude.{◌≡◌, ℕ, ◌<◌, ◌≤◌, List, Option, MatchOption}
use Rattle.grammar.specs.Grammar.{Grammar}
use Rattle.chart.specs.Chart as chart
use Rattle.chart.specs.Chart.{Chart, Begin, Step, Join}
use Rattle.cells.specs.declared.Cell.{Cell}
use Rattle.cells.specs.declared.Item.{Item}
use Rattle.cells.specs.declared.Fact.{Fact}
use Rattle.cells.specs.declared.Fact.TheVariants as fact
use Rattle.cells.specs.Facts.{meant}
use Rattle.fact_log.specs.Index.{cell_of}
use Rattle.fact_log.specs.Log.{FactAt, Logged, Log, Later}
use Rattle.steps.specs.Waits.{Told}

-- The fact z of the chart stands in a cell from base on and before n.
abbrev pub Has : List Cell → ℕ → ℕ → chart.Fact → Type 0
Has cs base n z = (f : Fact) × Logged cs base n f × (meant f ≡ z)

-- The cells from base on and before n hold facts of the chart, each once, and each item with what it waits for.
pub record State (g : Grammar) (w : List ℕ) (cs : List Cell) (base n limit : ℕ) : Type 0 where
  pub log : Log cs base n limit
  pub sound : (f : Fact) → Logged cs base n f → Chart g w (meant f)
  pub told : (p : ℕ) (x : Item) → base ≤ p → p < n → FactAt cs p (fact.Item x) → Told g x (cell_of cs p).wait

-- Facts were added, up to e.
pub record Grown (g : Grammar) (w : List ℕ) (cs cs' : List Cell) (base n e limit : ℕ) : Type 0 where
  pub state : State g w cs' base e limit
  pub later : Later cs cs' base n limit
  pub up : n ≤ e

-- Facts were added until there was no room for one more, which the chart has.
pub record Full (g : Grammar) (w : List ℕ) (cs cs' : List Cell) (base n limit : ℕ) : Type 0 where
  pub state : State g w cs' base limit limit
  pub later : Later cs cs' base n limit
  pub missing : (z : chart.Fact) × Chart g w z × (Has cs' base limit z → ⊥)

-- What is left by a call that adds facts: where they end, and then P holds; or that there was no room.
abbrev pub Outcome : Grammar → List ℕ → List Cell → List Cell → ℕ → ℕ → ℕ → (ℕ → Type 0) → Option ℕ → Type 0
Outcome g w cs cs' base n limit P r = MatchOption r (Full g w cs cs' base n limit) (λ e. Grown g w cs cs' base n e limit × P e)

-- What begins is there.
abbrev pub Begun : Grammar → List Cell → ℕ → ℕ → Type 0
Begun g cs base n = (z : chart.Fact) → Begin g z → Has cs base n z

-- Every step whose facts all stand before `done` has its result before n.
pub record ClosedTo (g : Grammar) (w : List ℕ) (cs : List Cell) (base done n : ℕ) : Type 0 where
  pub steps : (f : Fact) (z : chart.Fact) → Logged cs base done f → Step g w (meant f) z → Has cs base n z
  pub joins : (x y : Fact) (z : chart.Fact) → Logged cs base done x → Logged cs base done y → Join g (meant x) (meant y) z → Has cs base n z

-- The cells hold all facts of the chart.
abbrev pub Whole : Grammar → List ℕ → List Cell → ℕ → ℕ → Type 0
Whole g w cs base n = (z : chart.Fact) → Chart g w z → Has cs base n z

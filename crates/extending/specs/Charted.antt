-- All facts of a chart in cells, and that there is no room for them. Assumes nothing.
use Rattle.std.specs.Prelude.{◌≡◌, ℕ, zero, suc, ◌-◌, ◌<◌, ◌≤◌, List, [], ◌∷◌, ◌++◌, length, Some, None, Option, MatchOption}
use Rattle.grammar.specs.Grammar.{Grammar}
use Rattle.chart.specs.Chart as chart
use Rattle.chart.specs.Chart.{Chart, Step, Member, Apart, Enumerates}
use Rattle.cells.specs.declared.Cell.{Cell}
use Rattle.cells.specs.declared.Fact.{Fact}
use Rattle.cells.specs.Facts.{fact_of, meant}
use Rattle.fact_log.specs.Index.{cell_of, things}
use Rattle.fact_log.specs.Log.{FactAt, Later}
use Rattle.fact_log.specs.Things.{slot_of}
use Rattle.fact_log.specs.declared.things.Thing.{Thing}
use Rattle.closing.specs.State.{Has, State, Whole}

-- The facts in so many cells from p on.
abbrev pub with_fact : Option chart.Fact → List chart.Fact → List chart.Fact
with_fact None zs = zs
with_fact (Some z) zs = z ∷ zs

abbrev pub facts_from : List Cell → ℕ → ℕ → List chart.Fact
facts_from cs p zero = []
facts_from cs p (suc k) = with_fact (fact_of (cell_of cs p).row) (facts_from cs (suc p) k)

-- The cells from base on and before n hold the facts of the chart of w, all of them, each once.
pub record Charted (g : Grammar) (w : List ℕ) (cs : List Cell) (base n limit : ℕ) : Type 0 where
  pub state : State g w cs base n limit
  pub whole : Whole g w cs base n

-- The chart of w has more than `room` facts: some list has more than so many, each once.
pub record More (g : Grammar) (w : List ℕ) (room : ℕ) : Type 0 where
  pub facts : List chart.Fact
  pub apart : Apart facts
  pub sound : (z : chart.Fact) → Member z facts → Chart g w z
  pub more : room < length facts

-- What is left where the chart of w was to go into the cells from base on and before the limit: it is there, after what was there
-- before n; or it has more facts than there is room for, and the cells are as they were.
abbrev pub Extends : Grammar → List ℕ → List Cell → List Cell → ℕ → ℕ → ℕ → Option ℕ → Type 0
Extends g w cs cs' base n limit r = MatchOption r (More g w (limit - base) × (cs' ≡ cs)) (λ e. Charted g w cs' base e limit × Later cs cs' base n limit × (n ≤ e))

-- Of each fact after `low` and before n that is looked up by the thing, all that it leads to alone stands before e in cs'.
abbrev pub DueIn : Grammar → List ℕ → List Cell → List Cell → ℕ → ℕ → Thing → ℕ → ℕ → Type 0
DueIn g w cs cs' base n thing low e =
    (p : ℕ) → base ≤ p → low < p → p < n → things cs (slot_of thing) p ≡ Some thing → (f : Fact) (z : chart.Fact) → FactAt cs p f → Step g w (meant f) z → Has cs' base e z

-- w is the tokens but for the last, and its chart stands in the cells.
pub record Before (g : Grammar) (tokens : List ℕ) (cs : List Cell) (base n limit : ℕ) : Type 0 where
  pub w : List ℕ
  pub t : ℕ
  pub is : tokens ≡ w ++ (t ∷ [])
  pub charted : Charted g w cs base n limit

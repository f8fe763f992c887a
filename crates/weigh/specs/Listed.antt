-- The facts in cells as a list. Assumes nothing.
use Rattle.std.specs.Prelude.{ℕ, zero, suc, ◌+◌, List, [], ◌∷◌, ◌++◌, Some, None, Option}
use Rattle.chart.specs.Chart as chart
use Rattle.cells.specs.declared.Cell.{Cell}
use Rattle.cells.specs.Facts.{fact_of}
use Rattle.fact_log.specs.Index.{cell_of}

abbrev pub one_fact : Option chart.Fact → List chart.Fact
one_fact None = []
one_fact (Some z) = z ∷ []

-- The facts in `count` cells from base on, in order.
abbrev pub facts_in : List Cell → ℕ → ℕ → List chart.Fact
facts_in cs base zero = []
facts_in cs base (suc count) = facts_in cs base count ++ one_fact (fact_of (cell_of cs (base + count)).row)

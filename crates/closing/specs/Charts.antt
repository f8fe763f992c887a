-- What it means that a chart stands in cells. Assumes nothing.
use Rattle.std.specs.Prelude.{◌≤◌, length}
use Rattle.grammar.specs.Grammar.{Grammar}
use Rattle.closing.specs.declared.charted.Chart.{Chart}
use Rattle.closing.specs.State.{State, Whole}

-- The cells hold the facts of the chart of g and the tokens, each once and all of them; there are at most 200 tokens.
pub record Stands {S : Type 0} (g : Grammar) (c : Chart S) : Type 0 where
  pub tokens : length c.tokens.now ≤ 200
  pub state : State g c.tokens.now c.cells.now c.room.base c.end c.room.limit
  pub whole : Whole g c.tokens.now c.cells.now c.room.base c.end

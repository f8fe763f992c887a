-- What a run is over, and what is required of the cells and left in them by each call that adds facts. Assumes nothing.
use Rattle.std.specs.Prelude.{ℕ, ◌<◌, ◌≤◌, List, Option, length}
use Rattle.grammar.specs.Grammar.{Grammar}
use Rattle.cells.specs.declared.Cell.{Cell}
use Rattle.closing.specs.declared.Run.{Run}
use Rattle.closing.specs.State.{Grown, Full, Outcome}
use Rattle.closing.specs.Ready.{grammar_in, Ready}

-- The grammar in the cells.
abbrev pub grammar_of : Run → List Cell → Grammar
grammar_of r cs = grammar_in cs r.room.base r.counts

-- The grammar is ready, and the facts that end before n are facts of the chart of the tokens.
abbrev pub ReadyTo : Run → List Cell → ℕ → Type 0
ReadyTo r cs n = Ready r.counts r.tokens.now cs r.room.base n r.room.limit

-- Facts were added to those before n, up to e; or until there was no room.
abbrev pub Grows : Run → List Cell → List Cell → ℕ → ℕ → Type 0
Grows r cs cs' n e = Grown (grammar_of r cs) r.tokens.now cs cs' r.room.base n e r.room.limit

abbrev pub Fills : Run → List Cell → List Cell → ℕ → Type 0
Fills r cs cs' n = Full (grammar_of r cs) r.tokens.now cs cs' r.room.base n r.room.limit

-- Facts were added to those before n: they end where the answer says, and then P holds; or there was no room.
abbrev pub Leaves : Run → List Cell → List Cell → ℕ → (ℕ → Type 0) → Option ℕ → Type 0
Leaves r cs cs' n P o = Outcome (grammar_of r cs) r.tokens.now cs cs' r.room.base n r.room.limit P o

-- Cells stand before the first that may hold a fact, and they are all there.
abbrev pub Spread : Run → List Cell → Type 0
Spread r cs = (0 < r.room.base) × (r.room.base ≤ length cs)

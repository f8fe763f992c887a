-- What is proved of areas: each statement is the contract of a function of this crate. Assumes nothing.
use Rattle.std.specs.Prelude.{◌≡◌, ℕ, ◌<◌, ◌≤◌, ◌⊎◌, ◌↔◌, List, length, Result}
use Rattle.grammar.specs.Grammar.{Grammar}
use Rattle.chart.specs.Chart.{CellsInUse, grammar_cells}
use Rattle.cells.specs.declared.Cell.{Cell}
use Rattle.fact_log.specs.Index.{cell_of}
use Rattle.area.specs.declared.numbers.Numbers.{Numbers}
use Rattle.area.specs.declared.fault.OpeningFault.{OpeningFault}
use Rattle.area.specs.Held.{Held, TooFew}
use Rattle.area.specs.Opened.{Opening}

-- Cells with their numbers hold one grammar and one list of tokens.
abbrev pub OneHeld : Type 0
OneHeld = (g h : Grammar) (w v : List ℕ) (cs : List Cell) (n : Numbers) → Held g w cs n → Held h v cs n → (g ≡ h) × (w ≡ v)

-- Areas that hold one grammar and one list of tokens have the same numbers; and where they are of one length, the same cells but for
-- those that hold facts.
abbrev pub OneRest : Type 0
OneRest = (g : Grammar) (w : List ℕ) (cs ds : List Cell) (m n : Numbers) → Held g w cs m → Held g w ds n
    → (m ≡ n) × (length cs ≡ length ds → (p : ℕ) → (p < grammar_cells g) ⊎ (m.end ≤ p) → cell_of cs p ≡ cell_of ds p)

-- An area is too short exactly where the cells in use are more than it has.
abbrev pub MoreInUse : Type 0
MoreInUse = (g : Grammar) (w : List ℕ) (len n : ℕ) → CellsInUse g w n → TooFew g w len ↔ (len < n)

-- In areas of one length, opening has one answer.
abbrev pub OneOpening : Type 0
OneOpening = (g : Grammar) (cs ds : List Cell) (r s : Result Numbers OpeningFault) → length cs ≡ length ds → Opening g cs r → Opening g ds s → r ≡ s

-- A place written before the places that come after it. Assumes nothing.
use Rattle.std.specs.Prelude.{◌≡◌, ℕ, ◌+◌, ◌<◌, List, ◌∷◌, length, drop, Option, slice_index, slice_set}
use Rattle.grammar.specs.Grammar.{Grammar, Production, production_at}
use Rattle.faults.specs.Limits.{most_categories}
use Rattle.soundness.specs.Totals.{arguments_in}
use Rattle.cells.specs.declared.Cell.{Cell}
use Rattle.copying.specs.Layout.{first_cell, place_row}
use Rattle.copying.specs.Written.{plain}

-- For each category, the cell of the first of these places that makes it.
pub record Firsts (hs : List ℕ) (cell : ℕ) (ps : List (Option Production)) (firsts : List ℕ) : Type 0 where
  pub room : length firsts ≡ most_categories
  pub each : (c : ℕ) → c < most_categories → slice_index firsts c ≡ first_cell hs c cell ps

-- Place p is written into its cell, with the arguments from `first` on up to `end`.
pub record PlaceWritten (g : Grammar) (hs : List ℕ) (p cell end : ℕ) (before after : List Cell) (firsts : List ℕ) (first : ℕ) : Type 0 where
  pub part : first + arguments_in (production_at g p) ≡ end
  pub row : after ≡ slice_set before cell (plain (place_row hs cell first (production_at g p) (drop (p + 1) g.places)))
  pub linked : Firsts hs cell (production_at g p ∷ drop (p + 1) g.places) firsts

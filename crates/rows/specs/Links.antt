-- The live places of each category, linked in ascending order: the row of a category has the cell of the first, the row of a filled
-- place that of the next live one with the same result. A place's cell is never 0, since the categories come first. Assumes nothing.
use Rattle.std.specs.Prelude.{◌≡◌, ℕ, suc, ◌-◌, cond, List, Some, None, Option, nat_lt}
use Rattle.std.specs.List.{slice_get}
use Rattle.std.specs.Option.{option_map, option_flatten}
use Rattle.grammar.specs.Grammar.{Production, and_then, production_at}
use Rattle.cells.specs.declared.Cell.{Cell}
use Rattle.steps.specs.Live.{FirstLive}
use Rattle.rows.specs.declared.counts.Counts.{Counts}
use Rattle.rows.specs.declared.sorts.PlaceRow.{PlaceRow}
use Rattle.rows.specs.Sorts.{first_live_in, place_in}
use Rattle.rows.specs.Meaning.{rows_in, category_part, place_part, rows_meaning}

-- The place whose cell this is.
abbrev pub place_of_cell : Counts → ℕ → Option ℕ
place_of_cell n i =
    cond (nat_lt i (place_part n).first) None (cond (nat_lt (i - (place_part n).first) n.places) (Some (i - (place_part n).first)) None)

-- The row of place p, if it is filled.
abbrev pub place_row_at : List Cell → Counts → ℕ → Option PlaceRow
place_row_at cells n p = option_flatten (option_map place_in (slice_get (rows_in cells (place_part n)) p))

-- The place that the row of category c names as its first.
abbrev pub first_named : List Cell → Counts → ℕ → Option ℕ
first_named cells n c = and_then (slice_get (rows_in cells (category_part n)) c) (λ r. place_of_cell n (first_live_in r))

-- The place that the row of place p names as the next.
abbrev pub next_named : List Cell → Counts → ℕ → Option ℕ
next_named cells n p = and_then (place_row_at cells n p) (λ r. place_of_cell n r.next)

-- The places that are named are the live ones.
pub record Linked (cells : List Cell) (n : Counts) : Type 0 where
  pub first : (c : ℕ) → FirstLive (rows_meaning cells n) c 0 (first_named cells n c)
  pub next : (p : ℕ) (q : Production) → production_at (rows_meaning cells n) p ≡ Some q → FirstLive (rows_meaning cells n) q.result (suc p) (next_named cells n p)

-- The grammar that cells hold. First come the categories, then the functions, then the places, one row for each. A function's
-- constituents, a constituent's symbols and a place's arguments stand in a part of the cells that their row names. Past the end
-- of the cells there is nothing. Assumes nothing.
use Rattle.std.specs.Prelude.{ℕ, zero, suc, ◌+◌, List, [], ◌∷◌, Option, slice_index_or}
use Rattle.std.specs.Option.{option_map}
use Rattle.grammar.specs.declared.Symbol.{Symbol}
use Rattle.grammar.specs.Grammar.{Grammar, Function, Production}
use Rattle.cells.specs.declared.Cell.{Cell}
use Rattle.cells.specs.declared.Row.{Row}
use Rattle.cells.specs.Facts.{zero_cell}
use Rattle.rows.specs.declared.counts.Counts.{Counts}
use Rattle.rows.specs.declared.held.Rows.{Rows}
use Rattle.rows.specs.declared.sorts.Part.{Part}
use Rattle.rows.specs.declared.sorts.PlaceRow.{PlaceRow}
use Rattle.rows.specs.Sorts.{dimension_in, function_in, constituent_in, symbol_in, place_in, argument_in}

-- The cells that are lent.
abbrev pub cells_of : Rows → List Cell
cells_of s = s.rows.now

-- The row of cell i.
abbrev pub row_at : List Cell → ℕ → Row
row_at cells i = (slice_index_or cells i zero_cell).row

-- What n rows say, from a cell on.
abbrev pub read_from : {X : Type 0} → (Row → X) → List Cell → ℕ → ℕ → List X
read_from f cells first zero = []
read_from f cells first (suc n) = f (row_at cells first) ∷ read_from f cells (suc first) n

abbrev pub read_part : {X : Type 0} → (Row → X) → List Cell → Part → List X
read_part f cells part = read_from f cells part.first part.count

-- The rows themselves.
abbrev pub rows_in : List Cell → Part → List Row
rows_in cells part = read_part (λ r. r) cells part

abbrev pub constituent_read : List Cell → Row → List Symbol
constituent_read cells row = read_part symbol_in cells (constituent_in row)

abbrev pub function_read : List Cell → Row → Function
function_read cells row =
    record { arity = (function_in row).arity; constituents = read_part (constituent_read cells) cells (function_in row).constituents }

abbrev pub production_read : List Cell → PlaceRow → Production
production_read cells p = record { result = p.result; function = p.function; arguments = read_part argument_in cells p.arguments }

abbrev pub place_read : List Cell → Row → Option Production
place_read cells row = option_map (production_read cells) (place_in row)

-- Where the rows of the categories, of the functions and of the places stand.
abbrev pub category_part : Counts → Part
category_part n = record { first = 0; count = n.categories }

abbrev pub function_part : Counts → Part
function_part n = record { first = n.categories; count = n.functions }

abbrev pub place_part : Counts → Part
place_part n = record { first = n.categories + n.functions; count = n.places }

abbrev pub rows_meaning : List Cell → Counts → Grammar
rows_meaning cells n =
    record {
      tokens = n.tokens;
      start = n.start;
      dimensions = read_part dimension_in cells (category_part n);
      functions = read_part (function_read cells) cells (function_part n);
      places = read_part (place_read cells) cells (place_part n);
    }

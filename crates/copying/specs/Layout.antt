-- The rows of a grammar, in the order in which they stand in cells: the categories, the functions, the places, then the
-- constituents, the symbols and the arguments. Assumes nothing.
use Rattle.std.specs.Prelude.{ℕ, suc, ◌+◌, Bool, false, cond, not, ◌&&◌, List, [], ◌∷◌, ◌++◌, map, length, Some, None, Option, ◌==◌, slice_index}
use Rattle.std.specs.List.{flat_map}
use Rattle.grammar.specs.declared.Symbol as symbol
use Rattle.grammar.specs.Grammar as grammar
use Rattle.grammar.specs.Grammar.{Grammar, Production}
use Rattle.faults.specs.Tests.{some_of}
use Rattle.soundness.specs.Totals.{symbols_in, arguments_in, constituent_total, symbol_total}
use Rattle.cells.specs.declared.Row.{Row}
use Rattle.cells.specs.declared.Row.TheVariants.{Category, Function, Constituent, Symbol, Empty, Place, Argument}

-- By the least heights, the category has no tree.
abbrev pub treeless : List ℕ → ℕ → Bool
treeless hs c = slice_index hs c == 0

-- The place is filled with the result c, and each of its argument categories has a tree.
abbrev pub makes : List ℕ → ℕ → Option Production → Bool
makes hs c None = false
makes hs c (Some q) = q.result == c && not (some_of (treeless hs) q.arguments)

-- The cell of the first place that makes c, where the places stand from a cell on: 0 where there is none.
abbrev pub first_cell : List ℕ → ℕ → ℕ → List (Option Production) → ℕ
first_cell hs c cell [] = 0
first_cell hs c cell (o ∷ ps) = cond (makes hs c o) cell (first_cell hs c (suc cell) ps)

-- The categories from c on, with the links to the places, which stand from a cell on.
abbrev pub category_rows : List ℕ → ℕ → List (Option Production) → ℕ → List ℕ → List Row
category_rows hs cell ps c [] = []
category_rows hs cell ps c (d ∷ ds) = Category d (slice_index hs c) (first_cell hs c cell ps) ∷ category_rows hs cell ps (suc c) ds

-- The functions, whose constituents stand from a cell on.
abbrev pub function_rows : ℕ → List grammar.Function → List Row
function_rows first [] = []
function_rows first (f ∷ fs) = Function f.arity first (length f.constituents) ∷ function_rows (first + length f.constituents) fs

-- The place in a cell, before the places ps; its arguments stand from `first` on.
abbrev pub place_row : List ℕ → ℕ → ℕ → Option Production → List (Option Production) → Row
place_row hs cell first None ps = Empty
place_row hs cell first (Some q) ps = Place q.result q.function first (length q.arguments) (first_cell hs q.result (suc cell) ps)

abbrev pub place_rows : List ℕ → ℕ → ℕ → List (Option Production) → List Row
place_rows hs cell first [] = []
place_rows hs cell first (o ∷ ps) = place_row hs cell first o ps ∷ place_rows hs (suc cell) (first + arguments_in o) ps

-- The constituents of a function, whose symbols stand from a cell on.
abbrev pub constituent_rows : ℕ → List (List symbol.Symbol) → List Row
constituent_rows first [] = []
constituent_rows first (α ∷ αs) = Constituent first (length α) ∷ constituent_rows (first + length α) αs

-- The constituents of all functions.
abbrev pub all_constituents : ℕ → List grammar.Function → List Row
all_constituents first [] = []
all_constituents first (f ∷ fs) = constituent_rows first f.constituents ++ all_constituents (first + symbols_in f) fs

-- The symbols of a constituent, of a function, and of all functions.
abbrev pub spelt : List symbol.Symbol → List Row
spelt α = map Symbol α

abbrev pub symbol_rows : List (List symbol.Symbol) → List Row
symbol_rows αs = flat_map spelt αs

abbrev pub all_symbols : List grammar.Function → List Row
all_symbols fs = flat_map (λ f. symbol_rows f.constituents) fs

-- The arguments of a production, of a place, and of all places.
abbrev pub argument_rows : List ℕ → List Row
argument_rows cs = map Argument cs

abbrev pub place_arguments : Option Production → List Row
place_arguments None = []
place_arguments (Some q) = argument_rows q.arguments

abbrev pub all_arguments : List (Option Production) → List Row
all_arguments ps = flat_map place_arguments ps

-- The cells from which each sort of row stands.
abbrev pub places_at : Grammar → ℕ
places_at g = length g.dimensions + length g.functions

abbrev pub constituents_at : Grammar → ℕ
constituents_at g = places_at g + length g.places

abbrev pub symbols_at : Grammar → ℕ
symbols_at g = constituents_at g + constituent_total g

abbrev pub arguments_at : Grammar → ℕ
arguments_at g = symbols_at g + symbol_total g

-- All rows but those of the categories.
abbrev pub later_rows : Grammar → List ℕ → List Row
later_rows g hs =
    function_rows (constituents_at g) g.functions
    ++ (place_rows hs (places_at g) (arguments_at g) g.places ++ (all_constituents (symbols_at g) g.functions ++ (all_symbols g.functions ++ all_arguments g.places)))

abbrev pub grammar_rows : Grammar → List ℕ → List Row
grammar_rows g hs = category_rows hs (places_at g) g.places 0 g.dimensions ++ later_rows g hs

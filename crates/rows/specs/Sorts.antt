-- What a row says, sort by sort: a row of another sort says nothing, which reads as 0, as no rows or as an empty place.
-- Assumes nothing.
use Rattle.std.specs.Prelude.{ℕ, Some, None, Option}
use Rattle.grammar.specs.declared.Place as place
use Rattle.grammar.specs.declared.Symbol as symbol
use Rattle.cells.specs.declared.Row.{Row}
use Rattle.cells.specs.declared.Row.TheVariants.{Nothing, Category, Function, Constituent, Symbol, Empty, Place, Argument, Token, Fact}
use Rattle.rows.specs.declared.sorts.Part.{Part}
use Rattle.rows.specs.declared.sorts.FunctionRow.{FunctionRow}
use Rattle.rows.specs.declared.sorts.PlaceRow.{PlaceRow}

-- No rows.
abbrev pub no_part : Part
no_part = record { first = 0; count = 0 }

-- The dimension of a category.
abbrev pub dimension_in : Row → ℕ
dimension_in Nothing = 0
dimension_in (Category d h p) = d
dimension_in (Function a c n) = 0
dimension_in (Constituent s n) = 0
dimension_in (Symbol s) = 0
dimension_in Empty = 0
dimension_in (Place c f a n p) = 0
dimension_in (Argument c) = 0
dimension_in (Token t) = 0
dimension_in (Fact f) = 0

-- The cell of the first live place of a category.
abbrev pub first_live_in : Row → ℕ
first_live_in Nothing = 0
first_live_in (Category d h p) = p
first_live_in (Function a c n) = 0
first_live_in (Constituent s n) = 0
first_live_in (Symbol s) = 0
first_live_in Empty = 0
first_live_in (Place c f a n p) = 0
first_live_in (Argument c) = 0
first_live_in (Token t) = 0
first_live_in (Fact f) = 0

-- A function.
abbrev pub function_in : Row → FunctionRow
function_in Nothing = record { arity = 0; constituents = no_part }
function_in (Category d h p) = record { arity = 0; constituents = no_part }
function_in (Function a c n) = record { arity = a; constituents = record { first = c; count = n } }
function_in (Constituent s n) = record { arity = 0; constituents = no_part }
function_in (Symbol s) = record { arity = 0; constituents = no_part }
function_in Empty = record { arity = 0; constituents = no_part }
function_in (Place c f a n p) = record { arity = 0; constituents = no_part }
function_in (Argument c) = record { arity = 0; constituents = no_part }
function_in (Token t) = record { arity = 0; constituents = no_part }
function_in (Fact f) = record { arity = 0; constituents = no_part }

-- The symbols of a constituent.
abbrev pub constituent_in : Row → Part
constituent_in Nothing = no_part
constituent_in (Category d h p) = no_part
constituent_in (Function a c n) = no_part
constituent_in (Constituent s n) = record { first = s; count = n }
constituent_in (Symbol s) = no_part
constituent_in Empty = no_part
constituent_in (Place c f a n p) = no_part
constituent_in (Argument c) = no_part
constituent_in (Token t) = no_part
constituent_in (Fact f) = no_part

-- A symbol.
abbrev pub symbol_in : Row → symbol.Symbol
symbol_in Nothing = symbol.TheVariants.Token 0
symbol_in (Category d h p) = symbol.TheVariants.Token 0
symbol_in (Function a c n) = symbol.TheVariants.Token 0
symbol_in (Constituent s n) = symbol.TheVariants.Token 0
symbol_in (Symbol s) = s
symbol_in Empty = symbol.TheVariants.Token 0
symbol_in (Place c f a n p) = symbol.TheVariants.Token 0
symbol_in (Argument c) = symbol.TheVariants.Token 0
symbol_in (Token t) = symbol.TheVariants.Token 0
symbol_in (Fact f) = symbol.TheVariants.Token 0

-- A place, if it is filled.
abbrev pub place_in : Row → Option PlaceRow
place_in Nothing = None
place_in (Category d h p) = None
place_in (Function a c n) = None
place_in (Constituent s n) = None
place_in (Symbol s) = None
place_in Empty = None
place_in (Place c f a n p) = Some (record { result = c; function = f; arguments = record { first = a; count = n }; next = p })
place_in (Argument c) = None
place_in (Token t) = None
place_in (Fact f) = None

-- The result and the function of a filled place's row.
abbrev pub production_head : PlaceRow → place.Place
production_head row = record { result = row.result; function = row.function }

-- An argument category.
abbrev pub argument_in : Row → ℕ
argument_in Nothing = 0
argument_in (Category d h p) = 0
argument_in (Function a c n) = 0
argument_in (Constituent s n) = 0
argument_in (Symbol s) = 0
argument_in Empty = 0
argument_in (Place c f a n p) = 0
argument_in (Argument c) = c
argument_in (Token t) = 0
argument_in (Fact f) = 0

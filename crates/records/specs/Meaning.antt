-- The grammar that a row of records spells. Assumes nothing.
use Rattle.std.specs.Prelude.{ℕ, ◌+◌, ◌*◌, Bool, cond, List, [], ◌∷◌, map, take, drop, Some, None, Option, ◌==◌, nat_le}
use Rattle.std.specs.List.{filter, slice_get}
use Rattle.std.specs.Option.{unwrap_or}
use Rattle.grammar.specs.declared.Symbol.{Symbol}
use Rattle.grammar.specs.declared.Symbol.TheVariants.{Token, Argument}
use Rattle.grammar.specs.Grammar.{Grammar, Function, Production}
use Rattle.records.specs.Kinds.{kind_number}
use Rattle.records.specs.Records.{Entry}

abbrev pub is_category : Entry → Bool
is_category e = kind_number e.kind == 2

abbrev pub is_function : Entry → Bool
is_function e = kind_number e.kind == 3

abbrev pub is_constituent : Entry → Bool
is_constituent e = kind_number e.kind == 4

-- A filled or an empty place.
abbrev pub is_place : Entry → Bool
is_place e = nat_le 5 (kind_number e.kind)

-- Every list of a grammar stops at this many entries; what a file has after them is left out.
abbrev pub most : ℕ
most = 4294967295

-- The numbers of 16 bits in a body, one after another.
abbrev pub words_in : List ℕ → List ℕ
words_in [] = []
words_in (a ∷ []) = []
words_in (a ∷ b ∷ bs) = (a + 256 * b) ∷ words_in bs

-- Number i of a record's body, counted from 0.
abbrev pub number_of : Entry → ℕ → ℕ
number_of e i = unwrap_or (slice_get (words_in e.body) i) 0

-- A symbol by its two numbers: 0 and the token, or the argument and the constituent.
abbrev pub symbol_of : ℕ → ℕ → Symbol
symbol_of k l = cond (k == 0) (Token l) (Argument k l)

abbrev pub symbols_in : List ℕ → List Symbol
symbols_in [] = []
symbols_in (k ∷ []) = []
symbols_in (k ∷ l ∷ ns) = symbol_of k l ∷ symbols_in ns

-- The constituents that stand right at the front of a row.
abbrev pub constituents_first : List Entry → List Entry
constituents_first [] = []
constituents_first (e ∷ es) = cond (is_constituent e) (e ∷ constituents_first es) []

abbrev pub symbols_of : Entry → List Symbol
symbols_of e = symbols_in (words_in e.body)

-- Each function record with the constituents that follow it.
abbrev pub functions_of : List Entry → List Function
functions_of [] = []
functions_of (e ∷ es) =
    cond (is_function e)
    (record { arity = number_of e 0; constituents = take most (map symbols_of (constituents_first es)) } ∷ functions_of es)
    (functions_of es)

abbrev pub production_of : Entry → Production
production_of e = record { result = number_of e 0; function = number_of e 1; arguments = drop 2 (words_in e.body) }

abbrev pub place_of : Entry → Option Production
place_of e = cond (kind_number e.kind == 5) (Some (production_of e)) None

-- Number i of the first record.
abbrev pub head_number : List Entry → ℕ → ℕ
head_number [] i = 0
head_number (e ∷ es) i = number_of e i

abbrev pub dimension_of : Entry → ℕ
dimension_of e = number_of e 0

unfoldable pub grammar_of : List Entry → Grammar
grammar_of es = record {
  tokens = head_number es 0;
  start = head_number es 1;
  dimensions = take most (map dimension_of (filter is_category es));
  functions = take most (functions_of es);
  places = take most (map place_of (filter is_place es));
}

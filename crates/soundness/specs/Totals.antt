-- How many constituents, symbols and arguments a grammar has in all. Assumes nothing.
use Rattle.std.specs.Prelude.{ℕ, length, Some, None, sum_by, Option}
use Rattle.std.specs.Option.{unwrap_or}
use Rattle.grammar.specs.Grammar.{Grammar, Function, Production, and_then, place_at, arity_at}

abbrev pub constituents_in : Function → ℕ
constituents_in f = length f.constituents

abbrev pub symbols_in : Function → ℕ
symbols_in f = sum_by (λ α. length α) f.constituents

-- An empty place has no argument.
abbrev pub arguments_in : Option Production → ℕ
arguments_in None = 0
arguments_in (Some q) = length q.arguments

-- As many arguments as the function of place p takes: none where the place is empty.
abbrev pub place_arity : Grammar → ℕ → ℕ
place_arity g p = unwrap_or (and_then (place_at g p) (λ x. arity_at g x.function)) 0

abbrev pub constituent_total : Grammar → ℕ
constituent_total g = sum_by constituents_in g.functions

abbrev pub symbol_total : Grammar → ℕ
symbol_total g = sum_by symbols_in g.functions

abbrev pub argument_total : Grammar → ℕ
argument_total g = sum_by arguments_in g.places

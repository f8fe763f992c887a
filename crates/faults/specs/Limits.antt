-- The most that a grammar may have.
use Rattle.std.specs.Prelude.{ℕ}

abbrev pub most_tokens : ℕ
most_tokens = 1024

abbrev pub most_categories : ℕ
most_categories = 64

-- The dimension of a category is at least 1.
abbrev pub most_dimension : ℕ
most_dimension = 3

abbrev pub most_functions : ℕ
most_functions = 512

-- Of a function: its arguments, its constituents, and the symbols of each constituent.
abbrev pub most_arguments : ℕ
most_arguments = 3

abbrev pub most_constituents : ℕ
most_constituents = 3

abbrev pub most_symbols : ℕ
most_symbols = 16

abbrev pub most_places : ℕ
most_places = 512

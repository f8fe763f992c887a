-- The faults of a grammar, and which comes first. Assumes nothing.
use Rattle.std.specs.Prelude.{ℕ, Bool, false, cond, not, ◌||◌, ltb, List, [], ◌∷◌, ◌++◌, map, length, take, Some, None, Option, ◌==◌, nat_le, nat_lt}
use Rattle.std.specs.List.{slice_get, range_with_len}
use Rattle.grammar.specs.declared.Symbol.{Symbol}
use Rattle.grammar.specs.declared.Symbol.TheVariants.{Token, Argument}
use Rattle.grammar.specs.Grammar.{Grammar, Production, production_at, dimension_at, from_one, and_then}
use Rattle.grammar.specs.Grammar as grammar
use Rattle.faults.specs.declared.refusal.Counted.{Counted}
use Rattle.faults.specs.declared.refusal.Counted.TheVariants.{Tokens, Categories, Functions, Places}
use Rattle.faults.specs.declared.refusal.Thing.{Thing}
use Rattle.faults.specs.declared.refusal.Thing.TheVariants.{Count, Category, Start, Function, Place}
use Rattle.faults.specs.declared.refusal.Fault.{Fault}
use Rattle.faults.specs.declared.refusal.Fault.TheVariants.{OverLimit, NamesNothing, DoesNotFit}
use Rattle.faults.specs.Limits.{most_tokens, most_categories, most_dimension, most_functions, most_arguments, most_constituents, most_symbols, most_places}
use Rattle.faults.specs.Tests.{some_of, there_and, absent_or, first_of}

-- The four counts, and the most that each may be.
abbrev pub count_of : Grammar → Counted → ℕ
count_of g Tokens = g.tokens
count_of g Categories = length g.dimensions
count_of g Functions = length g.functions
count_of g Places = length g.places

abbrev pub most_of : Counted → ℕ
most_of Tokens = most_tokens
most_of Categories = most_categories
most_of Functions = most_functions
most_of Places = most_places

-- In the order in which they are checked.
abbrev pub all_counted : List Counted
all_counted = Tokens ∷ Categories ∷ Functions ∷ Places ∷ []

abbrev pub dimension_over : ℕ → Bool
dimension_over d = d == 0 || nat_lt most_dimension d

-- A constituent has too many symbols.
abbrev pub symbols_over : List Symbol → Bool
symbols_over α = nat_lt most_symbols (length α)

-- A function has too many arguments, or too many constituents, or a constituent with too many symbols.
abbrev pub function_over : grammar.Function → Bool
function_over f = nat_lt most_arguments f.arity || (nat_lt most_constituents (length f.constituents) || some_of symbols_over f.constituents)

-- With so many tokens, in a function of this arity, the symbol names nothing: a token that there is not, an argument that the
-- function does not take, or constituent 0.
abbrev pub symbol_unnamed : ℕ → ℕ → Symbol → Bool
symbol_unnamed tokens arity (Token t) = nat_le tokens t
symbol_unnamed tokens arity (Argument k l) = k == 0 || (nat_lt arity k || l == 0)

abbrev pub function_unnamed : Grammar → grammar.Function → Bool
function_unnamed g f = some_of (some_of (symbol_unnamed g.tokens f.arity)) f.constituents

abbrev pub category_unnamed : Grammar → ℕ → Bool
category_unnamed g c = nat_le (length g.dimensions) c

-- The function of the production names nothing, or its result does, or one of as many arguments as the function takes.
abbrev pub production_unnamed : Grammar → Production → Bool
production_unnamed g q =
    absent_or (λ f. category_unnamed g q.result || some_of (category_unnamed g) (take f.arity q.arguments)) (slice_get g.functions q.function)

-- With these argument categories the symbol asks for a constituent that its argument has not: l is above the dimension.
abbrev pub symbol_unfit : Grammar → List ℕ → Symbol → Bool
symbol_unfit g cs (Token t) = false
symbol_unfit g cs (Argument k l) = there_and (λ d. ltb d l) (and_then (from_one cs k) (dimension_at g))

-- The arguments are not as many as the function takes, or its constituents not as many as the result has, or a symbol
-- asks for more than its argument has.
abbrev pub function_unfit : Grammar → Production → grammar.Function → Bool
function_unfit g q f =
    not (length q.arguments == f.arity)
    || (there_and (λ d. not (length f.constituents == d)) (dimension_at g q.result)
    || some_of (some_of (symbol_unfit g q.arguments)) f.constituents)

abbrev pub production_unfit : Grammar → Production → Bool
production_unfit g q = there_and (function_unfit g q) (slice_get g.functions q.function)

-- The thing is over a limit, or is a dimension of 0.
abbrev pub over_limit : Grammar → Thing → Bool
over_limit g (Count k) = nat_lt (most_of k) (count_of g k)
over_limit g (Category c) = there_and dimension_over (dimension_at g c)
over_limit g Start = false
over_limit g (Function f) = there_and function_over (slice_get g.functions f)
over_limit g (Place p) = false

-- In the thing a number names nothing.
abbrev pub names_nothing : Grammar → Thing → Bool
names_nothing g (Count k) = false
names_nothing g (Category c) = false
names_nothing g Start = category_unnamed g g.start
names_nothing g (Function f) = there_and (function_unnamed g) (slice_get g.functions f)
names_nothing g (Place p) = there_and (production_unnamed g) (production_at g p)

-- The parts of the thing do not fit one another.
abbrev pub does_not_fit : Grammar → Thing → Bool
does_not_fit g (Count k) = false
does_not_fit g (Category c) = false
does_not_fit g Start = there_and (λ d. not (1 == d)) (dimension_at g g.start)
does_not_fit g (Function f) = false
does_not_fit g (Place p) = there_and (production_unfit g) (production_at g p)

-- The fault of a thing that is over a limit, names nothing or does not fit: a limit comes before a name, and a name before a fit.
abbrev pub fault_from : Thing → Bool → Bool → Bool → Option Fault
fault_from x over unnamed unfit = cond over (Some (OverLimit x)) (cond unnamed (Some (NamesNothing x)) (cond unfit (Some (DoesNotFit x)) None))

-- The fault of one single thing.
abbrev pub fault_of : Grammar → Thing → Option Fault
fault_of g x = fault_from x (over_limit g x) (names_nothing g x) (does_not_fit g x)

-- The first n things of one sort.
abbrev pub first_things : (ℕ → Thing) → ℕ → List Thing
first_things x n = map x (range_with_len 0 n)

-- All things in the order in which they are checked: the counts, the categories, the start, the functions, the places.
abbrev pub things : Grammar → List Thing
things g =
    map Count all_counted
    ++ (first_things Category (length g.dimensions)
    ++ ((Start ∷ [])
    ++ (first_things Function (length g.functions)
    ++ first_things Place (length g.places))))

-- The first fault of a grammar, but for the want of a start tree.
abbrev pub first_fault : Grammar → Option Fault
first_fault g = first_of (fault_of g) (things g)

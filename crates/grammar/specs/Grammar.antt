-- What a source of grammars means, and what stands at each number of it. Assumes nothing.
use Rattle.std.specs.Prelude.{ℕ, zero, suc, List, length, Some, None, Option}
use Rattle.std.specs.List.{slice_get}
use Rattle.std.specs.Option.{option_map, option_flatten}
use Rattle.grammar.specs.declared.Place.{Place}
use Rattle.grammar.specs.declared.Symbol.{Symbol}

-- A function: how many arguments it takes, and a list of symbols for each constituent of its result.
pub record Function : Type 0 where
  pub arity : ℕ
  pub constituents : List (List Symbol)

-- A production: its result category, its function, and its argument categories.
pub record Production : Type 0 where
  pub result : ℕ
  pub function : ℕ
  pub arguments : List ℕ

-- A grammar. Tokens are the numbers below `tokens`; each category has a dimension. A place is a numbered position for
-- a production: it holds one, or it is empty.
pub record Grammar : Type 0 where
  pub tokens : ℕ
  pub start : ℕ
  pub dimensions : List ℕ
  pub functions : List Function
  pub places : List (Option Production)

-- What stands at i, counted from 1.
abbrev pub from_one : {X : Type 0} → List X → ℕ → Option X
from_one xs zero = None
from_one xs (suc i) = slice_get xs i

abbrev pub and_then : {X Y : Type 0} → Option X → (X → Option Y) → Option Y
and_then None f = None
and_then (Some x) f = f x

-- The production at place p, if p is a place and is filled.
abbrev pub production_at : Grammar → ℕ → Option Production
production_at g p = option_flatten (slice_get g.places p)

abbrev pub dimension_at : Grammar → ℕ → Option ℕ
dimension_at g c = slice_get g.dimensions c

abbrev pub arity_at : Grammar → ℕ → Option ℕ
arity_at g f = option_map (λ h. h.arity) (slice_get g.functions f)

abbrev pub constituent_count : Grammar → ℕ → Option ℕ
constituent_count g f = option_map (λ h. length h.constituents) (slice_get g.functions f)

-- Constituent l of function f, counted from 1.
abbrev pub constituent_at : Grammar → ℕ → ℕ → Option (List Symbol)
constituent_at g f l = and_then (slice_get g.functions f) (λ h. from_one h.constituents l)

-- Symbol i of constituent l of function f, both counted from 1.
abbrev pub symbol_at : Grammar → ℕ → ℕ → ℕ → Option Symbol
symbol_at g f l i = and_then (constituent_at g f l) (λ s. from_one s i)

-- A production without its arguments.
abbrev pub head_of : Production → Place
head_of q = record { result = q.result; function = q.function }

abbrev pub place_at : Grammar → ℕ → Option Place
place_at g p = option_map head_of (production_at g p)

-- Argument i of place p, counted from 1.
abbrev pub argument_at : Grammar → ℕ → ℕ → Option ℕ
argument_at g p i = and_then (production_at g p) (λ q. from_one q.arguments i)

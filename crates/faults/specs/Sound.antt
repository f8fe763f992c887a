-- A grammar that may be opened, but for its start tree: within the limits, every number names something, everything fits.
use Rattle.std.specs.Prelude.{◌≡◌, ℕ, ◌<◌, ◌≤◌, List, length, Some, None, Option}
use Rattle.std.specs.List.{slice_get, AllByRecursion}
use Rattle.grammar.specs.declared.Symbol.{Symbol}
use Rattle.grammar.specs.declared.Symbol.TheVariants.{Token, Argument}
use Rattle.grammar.specs.Grammar.{Grammar, Function, Production, dimension_at, from_one, and_then}
use Rattle.faults.specs.declared.refusal.Fault.{Fault}
use Rattle.faults.specs.Faults.{first_fault}
use Rattle.faults.specs.Limits.{most_tokens, most_categories, most_dimension, most_functions, most_arguments, most_constituents, most_symbols, most_places}

-- With so many tokens, in a function of this arity: a token is one of them, an argument is one that the function takes, and
-- its constituents count from 1.
abbrev pub SymbolNamed : ℕ → ℕ → Symbol → Type 0
SymbolNamed tokens arity (Token t) = t < tokens
SymbolNamed tokens arity (Argument k l) = (1 ≤ k) × (k ≤ arity) × (1 ≤ l)

pub record SoundConstituent (tokens arity : ℕ) (α : List Symbol) : Type 0 where
  pub few : length α ≤ most_symbols
  pub named : AllByRecursion (SymbolNamed tokens arity) α

pub record SoundFunction (tokens : ℕ) (f : Function) : Type 0 where
  pub arity : f.arity ≤ most_arguments
  pub count : length f.constituents ≤ most_constituents
  pub each : AllByRecursion (SoundConstituent tokens f.arity) f.constituents

-- With these argument categories ⟨k;l⟩ asks for a constituent that argument k has.
abbrev pub SymbolFits : Grammar → List ℕ → Symbol → Type 0
SymbolFits g cs (Token t) = Unit {0}
SymbolFits g cs (Argument k l) = (d : ℕ) × (and_then (from_one cs k) (dimension_at g) ≡ Some d) × (l ≤ d)

-- A production: its function and all its categories are there, with as many arguments as the function takes and as many
-- constituents as the result has.
pub record SoundProduction (g : Grammar) (q : Production) : Type 0 where
  pub its : Function
  pub function : slice_get g.functions q.function ≡ Some its
  pub result : dimension_at g q.result ≡ Some (length its.constituents)
  pub arguments : length q.arguments ≡ its.arity
  pub categories : AllByRecursion (λ c. c < length g.dimensions) q.arguments
  pub fits : AllByRecursion (AllByRecursion (SymbolFits g q.arguments)) its.constituents

abbrev pub SoundPlace : Grammar → Option Production → Type 0
SoundPlace g None = Unit {0}
SoundPlace g (Some q) = SoundProduction g q

pub record Sound (g : Grammar) : Type 0 where
  pub tokens : g.tokens ≤ most_tokens
  pub categories : length g.dimensions ≤ most_categories
  pub functions : length g.functions ≤ most_functions
  pub places : length g.places ≤ most_places
  pub dimensions : AllByRecursion (λ d. (1 ≤ d) × (d ≤ most_dimension)) g.dimensions
  pub start : dimension_at g g.start ≡ Some 1
  pub each_function : AllByRecursion (SoundFunction g.tokens) g.functions
  pub each_place : AllByRecursion (SoundPlace g) g.places

-- r is the first fault of the grammar; there is none just where the grammar is sound.
pub record FirstFault (g : Grammar) (r : Option Fault) : Type 0 where
  pub first : r ≡ first_fault g
  pub sound : r ≡ None → Sound g
  pub faultless : Sound g → r ≡ None

-- Which grammars are sound: what each names exists, and the counts agree. Assumes nothing.
use Rattle.std.specs.Prelude.{◌≡◌, ℕ, ◌<◌, ◌≤◌, length, Some}
use Rattle.std.specs.List.{slice_get, AllByRecursion}
use Rattle.grammar.specs.declared.Symbol.TheVariants.{Token, Argument}
use Rattle.grammar.specs.Grammar.{Grammar, Function, Production, from_one, production_at, dimension_at, symbol_at}

-- Category c exists.
abbrev pub Category : Grammar → ℕ → Type 0
Category g c = (n : ℕ) × (dimension_at g c ≡ Some n)

-- ⟨d;r⟩ names a constituent of an argument of the production q: 1 ≤ d ≤ arity, and 1 ≤ r ≤ the dimension of argument d.
pub record Names (g : Grammar) (q : Production) (d r : ℕ) : Type 0 where
  pub category : ℕ
  pub argument : from_one q.arguments d ≡ Some category
  pub dimension : ℕ
  pub known : dimension_at g category ≡ Some dimension
  pub positive : 1 ≤ r
  pub within : r ≤ dimension

-- A production uses a function that exists and fits: as many arguments as its arity, as many constituents as the
-- result's dimension, and each symbol a known token or a constituent of an argument.
pub record SoundProduction (g : Grammar) (q : Production) : Type 0 where
  pub uses : Function
  pub function : slice_get g.functions q.function ≡ Some uses
  pub arity : length q.arguments ≡ uses.arity
  pub result : dimension_at g q.result ≡ Some (length uses.constituents)
  pub arguments : AllByRecursion (Category g) q.arguments
  pub tokens : (l i t : ℕ) → symbol_at g q.function l i ≡ Some (Token t) → t < g.tokens
  pub pairs : (l i d r : ℕ) → symbol_at g q.function l i ≡ Some (Argument d r) → Names g q d r

-- A sound grammar: the start category has dimension 1, and every filled place holds a sound production.
pub record Sound (g : Grammar) : Type 0 where
  pub start : dimension_at g g.start ≡ Some 1
  pub places : (p : ℕ) (q : Production) → production_at g p ≡ Some q → SoundProduction g q

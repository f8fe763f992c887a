-- The lists that belong to one number of a grammar: empty where it names nothing. Assumes nothing.
use Rattle.std.specs.Prelude.{◌≡◌, ℕ, false, List, []}
use Rattle.std.specs.List.{slice_get}
use Rattle.std.specs.Option.{option_map, unwrap_or}
use Rattle.grammar.specs.declared.Symbol.{Symbol}
use Rattle.grammar.specs.Grammar.{Grammar, production_at, constituent_at}
use Rattle.faults.specs.declared.refusal.Thing.TheVariants.{Function}
use Rattle.faults.specs.Faults.{over_limit}

abbrev pub constituents_of : Grammar → ℕ → List (List Symbol)
constituents_of g f = unwrap_or (option_map (λ h. h.constituents) (slice_get g.functions f)) []

-- The symbols of constituent l, counted from 1.
abbrev pub symbols_of : Grammar → ℕ → ℕ → List Symbol
symbols_of g f l = unwrap_or (constituent_at g f l) []

abbrev pub arguments_of : Grammar → ℕ → List ℕ
arguments_of g p = unwrap_or (option_map (λ q. q.arguments) (production_at g p)) []

-- Every function is within the limits.
abbrev pub FunctionsWithin : Grammar → Type 0
FunctionsWithin g = (f : ℕ) → over_limit g (Function f) ≡ false

-- The first place that holds no production, and a small grammar. Assumes nothing.
use Rattle.std.specs.Prelude.{ℕ, suc, List, [], ◌∷◌, Some, None, Option}
use Rattle.grammar.specs.declared.Symbol.TheVariants.{Token}
use Rattle.grammar.specs.Grammar.{Grammar, Production}

-- Its number, where the places are numbered from n on.
abbrev pub first_empty : ℕ → List (Option Production) → Option ℕ
first_empty n [] = None
first_empty n (None ∷ places) = Some n
first_empty n (Some q ∷ places) = first_empty (suc n) places

-- One category, one function that is the token 0, and two places that use it.
abbrev pub two_places : Grammar
two_places =
    record {
      tokens = 2;
      start = 0;
      dimensions = 1 ∷ [];
      functions = record { arity = 0; constituents = (Token 0 ∷ []) ∷ [] } ∷ [];
      places = Some (record { result = 0; function = 0; arguments = [] }) ∷ Some (record { result = 0; function = 0; arguments = [] }) ∷ [];
    }

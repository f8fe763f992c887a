-- The answers of a source as lists: for each case its number, then its values. Assumes nothing.
use Rattle.std.specs.Prelude.{◌≡◌, ℕ, List, [], ◌∷◌, ◌++◌, Some, None, decimal, Option}
use Rattle.grammar.specs.declared.Place.{Place}
use Rattle.grammar.specs.declared.Symbol.{Symbol}
use Rattle.grammar.specs.declared.Symbol.TheVariants.{Token, Argument}

abbrev pub symbol_listed : Symbol → List ℕ
symbol_listed (Token t) = 0 ∷ t ∷ []
symbol_listed (Argument k l) = 1 ∷ k ∷ l ∷ []

abbrev pub place_listed : Option Place → List ℕ
place_listed None = 0 ∷ []
place_listed (Some p) = 1 ∷ p.result ∷ p.function ∷ []

-- What is written of a symbol: `t`, or `<k;l>`.
abbrev pub symbol_shown : Symbol → List ℕ
symbol_shown (Token t) = decimal t
symbol_shown (Argument k l) = 60 ∷ (decimal k ++ (59 ∷ (decimal l ++ (62 ∷ []))))

-- Equal lists are equal answers: a promise about an answer says the same as one about its list.
abbrev pub ToldApart : Type 0
ToldApart =
    ((x y : Symbol) → symbol_listed x ≡ symbol_listed y → x ≡ y)
    × ((x y : Option Place) → place_listed x ≡ place_listed y → x ≡ y)

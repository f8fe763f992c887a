-- Four small grammars. Assumes nothing.
use Rattle.std.specs.Prelude.{[], ◌∷◌, Some}
use Rattle.grammar.specs.declared.Symbol.TheVariants.{Token, Argument}
use Rattle.grammar.specs.Grammar.{Grammar}
use Rattle.chart.specs.Sound.{Sound}

-- The strings 0ⁿ1ⁿ2ⁿ: S → c[N], N → s[N], N → z[], where c := (⟨1;1⟩⟨1;2⟩⟨1;3⟩), s := (0⟨1;1⟩, 1⟨1;2⟩, 2⟨1;3⟩) and
-- z := (ε, ε, ε).
abbrev pub grammar_k : Grammar
grammar_k = record {
  tokens = 3;
  start = 0;
  dimensions = 1 ∷ 3 ∷ [];
  functions =
      record { arity = 1; constituents = (Argument 1 1 ∷ Argument 1 2 ∷ Argument 1 3 ∷ []) ∷ [] }
      ∷ record { arity = 1; constituents = (Token 0 ∷ Argument 1 1 ∷ []) ∷ (Token 1 ∷ Argument 1 2 ∷ []) ∷ (Token 2 ∷ Argument 1 3 ∷ []) ∷ [] }
      ∷ record { arity = 0; constituents = [] ∷ [] ∷ [] ∷ [] }
      ∷ [];
  places =
      Some (record { result = 0; function = 0; arguments = 1 ∷ [] })
      ∷ Some (record { result = 1; function = 1; arguments = 1 ∷ [] })
      ∷ Some (record { result = 1; function = 2; arguments = [] })
      ∷ [];
}

-- The strings 0x1x for x of 2s and 3s, not empty: S → d[B], B → u[], B → v[], B → j[B, B], where d := (0⟨1;1⟩1⟨1;1⟩),
-- u := (2), v := (3) and j := (⟨1;1⟩⟨2;1⟩).
abbrev pub grammar_d : Grammar
grammar_d = record {
  tokens = 4;
  start = 0;
  dimensions = 1 ∷ 1 ∷ [];
  functions =
      record { arity = 1; constituents = (Token 0 ∷ Argument 1 1 ∷ Token 1 ∷ Argument 1 1 ∷ []) ∷ [] }
      ∷ record { arity = 0; constituents = (Token 2 ∷ []) ∷ [] }
      ∷ record { arity = 0; constituents = (Token 3 ∷ []) ∷ [] }
      ∷ record { arity = 2; constituents = (Argument 1 1 ∷ Argument 2 1 ∷ []) ∷ [] }
      ∷ [];
  places =
      Some (record { result = 0; function = 0; arguments = 1 ∷ [] })
      ∷ Some (record { result = 1; function = 1; arguments = [] })
      ∷ Some (record { result = 1; function = 2; arguments = [] })
      ∷ Some (record { result = 1; function = 3; arguments = 1 ∷ 1 ∷ [] })
      ∷ [];
}

-- The empty string, doubled any number of times: S → f[S], S → z[], where f := (⟨1;1⟩⟨1;1⟩) and z := (ε).
abbrev pub grammar_e : Grammar
grammar_e = record {
  tokens = 0;
  start = 0;
  dimensions = 1 ∷ [];
  functions =
      record { arity = 1; constituents = (Argument 1 1 ∷ Argument 1 1 ∷ []) ∷ [] }
      ∷ record { arity = 0; constituents = [] ∷ [] }
      ∷ [];
  places =
      Some (record { result = 0; function = 0; arguments = 0 ∷ [] })
      ∷ Some (record { result = 0; function = 1; arguments = [] })
      ∷ [];
}

-- The empty string, and a category Q without trees: S → z[], S → g[Q], where g := (0) and z := (ε).
abbrev pub grammar_p : Grammar
grammar_p = record {
  tokens = 1;
  start = 0;
  dimensions = 1 ∷ 1 ∷ [];
  functions =
      record { arity = 1; constituents = (Token 0 ∷ []) ∷ [] }
      ∷ record { arity = 0; constituents = [] ∷ [] }
      ∷ [];
  places =
      Some (record { result = 0; function = 1; arguments = [] })
      ∷ Some (record { result = 0; function = 0; arguments = 1 ∷ [] })
      ∷ [];
}

abbrev pub SamplesSound : Type 0
SamplesSound = Sound grammar_k × Sound grammar_d × Sound grammar_e × Sound grammar_p

-- What the strike layer means, and what marking a place does. Assumes nothing.
use Rattle.std.specs.Prelude.{◌≡◌, ℕ, ◌<◌, Bool, true, false, cond, List, [], ◌∷◌, replicate, None, Option, slice_set}
use Rattle.grammar.specs.Grammar.{Grammar, Production}
use Rattle.strike.specs.declared.strike_layer.Strike.{Strike}

-- The places, with those that are marked emptied. A mark beyond the last place has no effect.
abbrev pub struck : List Bool → List (Option Production) → List (Option Production)
struck [] places = places
struck (mark ∷ marks) [] = []
struck (mark ∷ marks) (place ∷ places) = cond mark None place ∷ struck marks places

abbrev pub with_places : Grammar → List (Option Production) → Grammar
with_places g places =
    record { tokens = g.tokens; start = g.start; dimensions = g.dimensions; functions = g.functions; places = places }

-- Marked places are empty, and all else is as below, where a source means what `below` says.
abbrev pub strike_meaning : {S : Type 0} → (S → Grammar) → Strike S → Grammar
strike_meaning below s = with_places (below s.source) (struck s.marks (below s.source).places)

-- The grammar with place p emptied, if p is a place.
abbrev pub emptied : ℕ → Grammar → Grammar
emptied p g = with_places g (slice_set g.places p None)

-- The layer s lies over a source, with no place marked.
pub record Unmarked {S : Type 0} (below : S → Grammar) (source : S) (s : Strike S) : Type 0 where
  pub over : s.source ≡ source
  pub marks : s.marks ≡ replicate 512 false
  pub means : strike_meaning below s ≡ below source

-- Place p was marked: the layer s became t.
pub record Marked {S : Type 0} (below : S → Grammar) (p : ℕ) (s t : Strike S) : Type 0 where
  pub small : p < 512
  pub over : t.source ≡ s.source
  pub marks : t.marks ≡ slice_set s.marks p true
  pub means : strike_meaning below t ≡ emptied p (strike_meaning below s)

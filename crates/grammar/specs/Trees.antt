-- The trees of a grammar, their heights and their strings. Assumes nothing.
use Rattle.std.specs.Prelude.{◌≡◌, ℕ, suc, max, List, [], ◌∷◌, ◌++◌, map, Some}
use Rattle.std.specs.List.{slice_get}
use Rattle.std.specs.Option.{unwrap_or}
use Rattle.grammar.specs.declared.Symbol.{Symbol}
use Rattle.grammar.specs.declared.Symbol.TheVariants.{Token, Argument}
use Rattle.grammar.specs.Grammar.{Grammar, Production, production_at, from_one, and_then}

-- A tree: the number of a place, and a tree for each argument of its production. Two places, even alike ones, head
-- two trees.
mutual
  pub data Tree : Type 0 where
    node : ℕ → Trees → Tree

  pub data Trees : Type 0 where
    none : Trees
    more : Tree → Trees → Trees

-- t is a tree of category c: its place is filled by a production with that result, and its subtrees are trees of the
-- production's argument categories, one for each.
abbrev mutual
  pub TreeOf : Grammar → Tree → ℕ → Type 0
  TreeOf g (node p ts) c = (q : Production) × (production_at g p ≡ Some q) × (q.result ≡ c) × TreesOf g ts q.arguments

  pub TreesOf : Grammar → Trees → List ℕ → Type 0
  TreesOf g none [] = Unit {0}
  TreesOf g none (c ∷ cs) = ⊥
  TreesOf g (more t ts) [] = ⊥
  TreesOf g (more t ts) (c ∷ cs) = TreeOf g t c × TreesOf g ts cs

-- 1 for a tree with no argument, else 1 more than the highest argument's.
abbrev mutual
  pub height : Tree → ℕ
  height (node p ts) = suc (heights ts)

  pub heights : Trees → ℕ
  heights none = 0
  heights (more t ts) = max (height t) (heights ts)

-- Constituent l of argument k, both counted from 1, in the linearized arguments σ: nothing where there is none.
abbrev pub part : List (List (List ℕ)) → ℕ → ℕ → List ℕ
part σ k l = unwrap_or (and_then (from_one σ k) (λ x. from_one x l)) []

-- The string of a list of symbols: each pair ⟨k;l⟩ is replaced by constituent l of argument k.
abbrev pub substituted : List (List (List ℕ)) → List Symbol → List ℕ
substituted σ [] = []
substituted σ (Token t ∷ α) = t ∷ substituted σ α
substituted σ (Argument k l ∷ α) = part σ k l ++ substituted σ α

-- The constituents of the function that the production at place p uses: none where there is no such function.
abbrev pub constituents_at : Grammar → ℕ → List (List Symbol)
constituents_at g p = unwrap_or (and_then (production_at g p) (λ q. and_then (slice_get g.functions q.function) (λ f. Some f.constituents))) []

-- The linearization of a tree: a string for each constituent of its place's function.
abbrev mutual
  pub linearized : Grammar → Tree → List (List ℕ)
  linearized g (node p ts) = map (substituted (all_linearized g ts)) (constituents_at g p)

  pub all_linearized : Grammar → Trees → List (List (List ℕ))
  all_linearized g none = []
  all_linearized g (more t ts) = linearized g t ∷ all_linearized g ts

-- A start tree is a tree of the start category; its only constituent is its string.
abbrev pub StartTree : Grammar → Tree → Type 0
StartTree g t = TreeOf g t g.start

abbrev pub string : Grammar → Tree → List ℕ
string g t = unwrap_or (from_one (linearized g t) 1) []

-- Some start tree's string begins with w and then t.
abbrev pub GoesOn : Grammar → List ℕ → ℕ → Type 0
GoesOn g w t = (s : Tree) × StartTree g s × ((rest : List ℕ) × (string g s ≡ w ++ (t ∷ rest)))

-- Some start tree's string is w.
abbrev pub Complete : Grammar → List ℕ → Type 0
Complete g w = (s : Tree) × StartTree g s × (string g s ≡ w)

-- What closing leaves, and what weighing answers. Assumes nothing.
use Rattle.std.specs.Prelude.{◌≡◌, ℕ, ◌+◌, ◌*◌, ◌≤◌, List, length, Ok, Err, Result}
use Rattle.grammar.specs.Grammar.{Grammar}
use Rattle.grammar.specs.Trees.{Tree, StartTree, string, height, Complete}
use Rattle.chart.specs.Chart.{Phrase, Bound, grammar_cells}
use Rattle.cells.specs.declared.Cell.{Cell}
use Rattle.weigh.specs.Numbers.{Numbered}
use Rattle.weigh.specs.Weighed.{SumIs, Cleared}
use Rattle.area.specs.declared.numbers.Numbers.{Numbers}
use Rattle.area.specs.Held.{Held}
use Rattle.calls.specs.declared.closed.Closing.{Closing}
use Rattle.calls.specs.declared.weighing_refusal.WeighingRefusal.{WeighingRefusal}
use Rattle.calls.specs.declared.weighing_refusal.WeighingRefusal.TheVariants.{BadDepth, TooFewValues}

-- The area holds g and w, and the different left sides of the made rules are numbered, `count` of them.
pub record Closed (g : Grammar) (w : List ℕ) (cs : List Cell) (n : Numbers) (count : ℕ) : Type 0 where
  pub held : Held g w cs n
  pub phrases : List Phrase
  pub numbered : Numbered g w cs (grammar_cells g) n.end phrases
  pub size : length phrases ≡ count

-- The bound on heights: the categories and the different left sides of made rules.
abbrev pub bound_of : Grammar → ℕ → ℕ
bound_of g count = length g.dimensions + count

-- A complete list of tokens has a start tree no higher than q.
abbrev pub Low : Grammar → List ℕ → ℕ → Type 0
Low g w q = Complete g w → (t : Tree) × StartTree g t × (string g t ≡ w) × (height t ≤ q)

-- After closing.
pub record Closes (g : Grammar) (w : List ℕ) (cs : List Cell) (n : Numbers) (c : Closing) : Type 0 where
  pub closed : Closed g w cs n c.phrases
  pub is_bound : c.bound ≡ bound_of g c.phrases
  pub bound : Bound g w c.bound
  pub low : Low g w c.bound

-- Depths are from 1 to 32.
abbrev pub most_depth : ℕ
most_depth = 32

abbrev pub DepthFits : ℕ → Type 0
DepthFits h = (1 ≤ h) × (h ≤ most_depth)

-- There is a weight for each place, and there are two working values for each of the q phrases.
abbrev pub ValuesFit : Grammar → ℕ → List ℕ → List ℕ → Type 0
ValuesFit g q weights work = (length g.places ≤ length weights) × (2 * q ≤ length work)

-- Weighing to depth h: refused, it leaves the lists as they were; else the answer is the sum over the start trees of height at most h
-- whose string is w, and the working values that it used are the algebra's zero.
abbrev pub Weighed : {A : Type 0} → A → (A → A → A) → (A → A → A) → (ℕ → A) → (A → ℕ) → Grammar → List ℕ → ℕ → ℕ → List ℕ → List ℕ → List ℕ → Result A WeighingRefusal → Type 0
Weighed nought plus times reads writes g w q h weights old new (Err BadDepth) = (DepthFits h → ⊥) × (new ≡ old)
Weighed nought plus times reads writes g w q h weights old new (Err TooFewValues) = DepthFits h × (ValuesFit g q weights old → ⊥) × (new ≡ old)
Weighed nought plus times reads writes g w q h weights old new (Ok v) = DepthFits h × ValuesFit g q weights old × SumIs nought plus times reads g w h weights v × Cleared (2 * q) (writes nought) old new

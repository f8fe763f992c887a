-- What feeding and the questions answer, in an area that holds the grammar g and the tokens w. Assumes nothing.
use Rattle.std.specs.Prelude.{◌≡◌, ℕ, ◌+◌, ◌<◌, ◌≤◌, ◌↔◌, List, [], ◌∷◌, ◌++◌, length, Ok, Err, Option, Result}
use Rattle.grammar.specs.Grammar.{Grammar}
use Rattle.grammar.specs.Trees.{GoesOn}
use Rattle.chart.specs.Chart.{Member, CellsInUse}
use Rattle.cells.specs.declared.Cell.{Cell}
use Rattle.frontier.specs.Listing.{Ascending, Listed}
use Rattle.area.specs.declared.numbers.Numbers.{Numbers}
use Rattle.area.specs.Held.{Held, TooFew, Unmoved, most_tokens}
use Rattle.calls.specs.declared.refusal.FeedingRefusal.{FeedingRefusal}
use Rattle.calls.specs.declared.refusal.FeedingRefusal.TheVariants.{UnknownToken, FullNote, NoTree, TooShort}

-- The cells in use: the facts end at cell `end`, and there is one for each token.
abbrev pub cells_used : Numbers → ℕ
cells_used n = n.end + n.held

-- The token t may be fed after w: it is known, fewer than the most tokens are held, and some start tree's string begins with w and t.
pub record Feedable (g : Grammar) (w : List ℕ) (t : ℕ) : Type 0 where
  pub known : t < g.tokens
  pub room : length w < most_tokens
  pub goes_on : GoesOn g w t

-- Feeding t: refused, for the first reason that there is, it leaves the area as it was; else the area holds w with t, nothing that
-- stood in it moved, and the cells in use are told.
abbrev pub Fed : Grammar → List ℕ → ℕ → List Cell → List Cell → Result Numbers FeedingRefusal → Type 0
Fed g w t cs cs' (Err UnknownToken) = (g.tokens ≤ t) × (cs' ≡ cs)
Fed g w t cs cs' (Err FullNote) = (t < g.tokens) × (most_tokens ≤ length w) × (cs' ≡ cs)
Fed g w t cs cs' (Err NoTree) = (t < g.tokens) × (length w < most_tokens) × (GoesOn g w t → ⊥) × (cs' ≡ cs)
Fed g w t cs cs' (Err TooShort) = Feedable g w t × TooFew g (w ++ (t ∷ [])) (length cs) × (cs' ≡ cs)
Fed g w t cs cs' (Ok n) = Feedable g w t × Held g (w ++ (t ∷ [])) cs' n × CellsInUse g (w ++ (t ∷ [])) (cells_used n) × Unmoved cs cs'

-- The tokens with which some start tree's string goes on from w, ascending, each once, were written over the front of the list; or
-- they are more than it holds, and it is as it was.
pub record NextListed (g : Grammar) (w : List ℕ) (old new : List ℕ) (r : Option ℕ) : Type 0 where
  pub tokens : List ℕ
  pub ascending : Ascending tokens
  pub exactly : (t : ℕ) → Member t tokens ↔ GoesOn g w t
  pub listed : Listed tokens old new r

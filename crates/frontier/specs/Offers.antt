-- The token that an item stands before at the end of the tokens. Assumes nothing.
use Rattle.std.specs.Prelude.{◌≡◌, ℕ, ◌<◌, List, length, Some, Option, MatchOption}
use Rattle.std.specs.List.{slice_get}
use Rattle.grammar.specs.Grammar.{Grammar, from_one}
use Rattle.chart.specs.Chart.{Reads}
use Rattle.cells.specs.declared.Span.TheVariants.{Read}
use Rattle.cells.specs.declared.Phrase.{Phrase}
use Rattle.cells.specs.declared.Item.{Item}
use Rattle.cells.specs.Facts.{list_of}
use Rattle.steps.specs.Nexts.{BeforeToken, BeforeArgument}

-- What is answered is the one number of which P holds: absent just where there is none.
abbrev pub Only : (ℕ → Type 0) → Option ℕ → Type 0
Only P r = MatchOption r ((t : ℕ) → P t → ⊥) (λ t. P t × ((v : ℕ) → P v → v ≡ t))

-- The tokens of w from k to the end repeat those from a to a position before b, and t stands there.
pub record Runs (w : List ℕ) (a b k t : ℕ) : Type 0 where
  pub upto : ℕ
  pub string : List ℕ
  pub once : Reads w a upto string
  pub again : Reads w k (length w) string
  pub inside : upto < b
  pub next : slice_get w upto ≡ Some t

-- The item x offers t: it ends at the end of w and stands before t; or it stands before a constituent read from a to b, the
-- tokens from its end on repeat those from a on, and go on, before b, with t.
pub data Offers (g : Grammar) (w : List ℕ) (x : Item) (t : ℕ) : Type 0 where
  before : x.end ≡ length w → BeforeToken g x t → Offers g w x t
  within : (d s a b : ℕ) (X : Phrase) → BeforeArgument g x d s → from_one (list_of x.rule.arguments) d ≡ Some X
      → from_one (list_of X.spans) s ≡ Some (Read a b) → Runs w a b x.end t → Offers g w x t

abbrev pub Offered : Grammar → List ℕ → Item → Option ℕ → Type 0
Offered g w x r = Only (Offers g w x) r

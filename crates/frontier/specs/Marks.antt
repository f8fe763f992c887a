-- Marks on numbers, and which cells hold items that offer a token. Assumes nothing.
use Rattle.std.specs.Prelude.{◌≡◌, ℕ, ◌<◌, ◌≤◌, Bool, true, false, ◌⊎◌, List, length, Some, Decides, slice_index_or}
use Rattle.grammar.specs.Grammar.{Grammar}
use Rattle.cells.specs.declared.Cell.{Cell}
use Rattle.cells.specs.declared.Item.{Item}
use Rattle.cells.specs.declared.Row.{Row}
use Rattle.cells.specs.declared.Row as row
use Rattle.cells.specs.declared.Fact.TheVariants as fact
use Rattle.fact_log.specs.declared.things.Thing as thing
use Rattle.fact_log.specs.Index.{cell_of, things}
use Rattle.frontier.specs.Offers.{Offers}

-- The marks were `old`, and then each number of which P holds was marked too, as far as the marks go.
abbrev pub Marks : (ℕ → Type 0) → List Bool → List Bool → Type 0
Marks P old new = (t : ℕ) → t < length old → Decides (slice_index_or new t false) ((slice_index_or old t false ≡ true) ⊎ P t)

-- The row holds an item that offers t.
abbrev pub RowOffers : Grammar → List ℕ → Row → ℕ → Type 0
RowOffers g w r t = (x : Item) × (r ≡ row.TheVariants.Fact (fact.Item x)) × Offers g w x t

-- A cell after `low` and before n holds an item that offers t, and is looked up by that many tokens.
pub record DueOffers (g : Grammar) (w : List ℕ) (cs : List Cell) (base n tokens low t : ℕ) : Type 0 where
  pub at : ℕ
  pub from : base ≤ at
  pub past : low < at
  pub upto : at < n
  pub due : things cs 4 at ≡ Some (thing.TheVariants.Due tokens)
  pub offers : RowOffers g w (cell_of cs at).row t

-- The same for some number of tokens from m on and before k.
abbrev pub RangeOffers : Grammar → List ℕ → List Cell → ℕ → ℕ → ℕ → ℕ → ℕ → Type 0
RangeOffers g w cs base n m k t = (tokens : ℕ) × (m ≤ tokens) × (tokens < k) × DueOffers g w cs base n tokens 0 t

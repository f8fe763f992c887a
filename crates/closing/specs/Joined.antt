-- What a step leads to from the facts in two cells. Assumes nothing.
use Rattle.std.specs.Prelude.{◌≡◌, ℕ, ◌<◌, ◌≤◌, Bool, false, List, Some, None, Option, MatchOption, ◌≢◌}
use Rattle.grammar.specs.Grammar.{Grammar, from_one, and_then}
use Rattle.faults.specs.Sound.{Sound}
use Rattle.chart.specs.Chart as chart
use Rattle.chart.specs.Chart.{Join, put}
use Rattle.cells.specs.declared.Cell.{Cell}
use Rattle.cells.specs.declared.Span.{Span}
use Rattle.cells.specs.declared.Span.TheVariants.{Unread, Read}
use Rattle.cells.specs.declared.Short.{Short}
use Rattle.cells.specs.declared.Phrase.{Phrase}
use Rattle.cells.specs.declared.Waiting.{Waiting}
use Rattle.cells.specs.declared.Item.{Item}
use Rattle.cells.specs.declared.Rule.{Rule}
use Rattle.cells.specs.declared.Row.{Row}
use Rattle.cells.specs.declared.Row as row
use Rattle.cells.specs.declared.Fact.{Fact}
use Rattle.cells.specs.declared.Fact.TheVariants as fact
use Rattle.cells.specs.Facts.{list_of, meant}
use Rattle.fact_log.specs.declared.things.Thing.{Thing}
use Rattle.fact_log.specs.declared.things.Thing as thing
use Rattle.fact_log.specs.Index.{things}
use Rattle.fact_log.specs.Log.{FactAt}
use Rattle.fact_log.specs.Things.{slot_of}
use Rattle.steps.specs.Waits.{Told}
use Rattle.closing.specs.State.{Has}

-- The fact that a row holds.
abbrev pub fact_in : Row → Option Fact
fact_in row.TheVariants.Nothing = None
fact_in (row.TheVariants.Category d h p) = None
fact_in (row.TheVariants.Function a c n) = None
fact_in (row.TheVariants.Constituent s n) = None
fact_in (row.TheVariants.Symbol s) = None
fact_in row.TheVariants.Empty = None
fact_in (row.TheVariants.Place c f a n p) = None
fact_in (row.TheVariants.Argument c) = None
fact_in (row.TheVariants.Token t) = None
fact_in (row.TheVariants.Fact f) = Some f

abbrev pub item_of : Fact → Option Item
item_of (fact.Item x) = Some x
item_of (fact.Made q) = None

abbrev pub made_of : Fact → Option Rule
made_of (fact.Item x) = None
made_of (fact.Made q) = Some q

-- The item, or the made rule, that a row holds.
abbrev pub item_in : Row → Option Item
item_in r = and_then (fact_in r) item_of

abbrev pub made_in : Row → Option Rule
made_in r = and_then (fact_in r) made_of

-- The item x waits as its cell says: `r` is the one fact to which a join leads from it and the made rule q; or none leads from them.
abbrev pub JoinedOf : Item → Waiting → Rule → Option Fact → Type 0
JoinedOf x wait q r =
    (g : Grammar) → Sound g → Told g x wait
    → MatchOption r ((z : chart.Fact) → Join g (meant (fact.Item x)) (meant (fact.Made q)) z → ⊥)
    (λ f. Join g (meant (fact.Item x)) (meant (fact.Made q)) (meant f) × ((z : chart.Fact) → Join g (meant (fact.Item x)) (meant (fact.Made q)) z → z ≡ meant f))

-- The facts at i and m, in cs, join to nothing but what stands before e in cs'.
abbrev pub PairIn : Grammar → List Cell → List Cell → ℕ → ℕ → ℕ → ℕ → Type 0
PairIn g cs cs' base i m e =
    (x : Item) (q : Rule) (z : chart.Fact) → FactAt cs i (fact.Item x) → FactAt cs m (fact.Made q) → Join g (meant (fact.Item x)) (meant (fact.Made q)) z → Has cs' base e z

-- The same of the cell `at` and each cell after `low` and up to `at` that is looked up by the thing, whichever of the two is the item.
abbrev pub ChainIn : Grammar → List Cell → List Cell → ℕ → ℕ → Thing → ℕ → ℕ → Type 0
ChainIn g cs cs' base at thing low e =
    (p : ℕ) → base ≤ p → low < p → p ≤ at → things cs (slot_of thing) p ≡ Some thing → PairIn g cs cs' base at p e × PairIn g cs cs' base p at e

-- The key by which the items are looked up that wait for constituent s, from j on, of the phrase with this category and these spans;
-- and by which the made rules are looked up that have it read so.
abbrev pub key_of : Bool → Phrase → ℕ → ℕ → Thing
key_of made X s j = thing.TheVariants.Key (record { made = made; phrase = X; constituent = s; start = j })

-- The key of the items that wait for constituent s of what a made rule has on its left: there is one just where it is read.
abbrev pub WaitingKey : Phrase → ℕ → Option Thing → Type 0
WaitingKey left s r =
    MatchOption r ((j k : ℕ) → from_one (list_of left.spans) s ≢ Some (Read j k))
    (λ t. (j : ℕ) × (k : ℕ) × (sp : Short Span) × (from_one (list_of left.spans) s ≡ Some (Read j k)) × (list_of sp ≡ put (list_of left.spans) s Unread)
    × (t ≡ key_of false (record { category = left.category; spans = sp }) s j))

-- The made rule in the cell `at`, with this left side, was joined with all items up to it that wait for constituent s.
abbrev pub PartIn : Grammar → List Cell → List Cell → ℕ → ℕ → Phrase → ℕ → ℕ → Type 0
PartIn g cs cs' base at left s e = (t : Thing) → WaitingKey left s (Some t) → ChainIn g cs cs' base at t 0 e

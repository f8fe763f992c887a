-- What a cell is looked up by in each of the five indices of the facts, and the hash of it. Assumes nothing.
use Rattle.std.specs.Prelude.{◌≡◌, ◌≢◌, ℕ, Bool, ◌+◌, ◌*◌, ◌/◌, ◌%◌, ◌^◌, true, false, cond, Some, None, Option, MatchOption, ◌==◌, nat_lt}
use Rattle.grammar.specs.Grammar.{from_one}
use Rattle.chart.specs.Chart.{put}
use Rattle.cells.specs.declared.Span.{Span}
use Rattle.cells.specs.declared.Span.TheVariants.{Unread, Read}
use Rattle.cells.specs.declared.Short.{Short}
use Rattle.cells.specs.declared.Short.TheVariants.{Nil, One, Two, Three}
use Rattle.cells.specs.declared.Phrase.{Phrase}
use Rattle.cells.specs.declared.Rule.{Rule}
use Rattle.cells.specs.declared.Fact.{Fact}
use Rattle.cells.specs.declared.Fact.TheVariants.{Item, Made}
use Rattle.cells.specs.declared.Row as row
use Rattle.cells.specs.declared.Row.{Row}
use Rattle.cells.specs.declared.Cell.{Cell}
use Rattle.cells.specs.declared.Item as cell
use Rattle.cells.specs.declared.Waiting.{Waiting}
use Rattle.cells.specs.declared.Waiting.TheVariants.{Idle, Part, Until, Left}
use Rattle.cells.specs.Facts.{list_of}
use Rattle.fact_log.specs.declared.things.Key.{Key}
use Rattle.fact_log.specs.declared.things.Thing as thing
use Rattle.fact_log.specs.declared.things.Thing.{Thing}

-- The key of a phrase alone.
abbrev pub alone : Bool → Phrase → Key
alone made X = record { made = made; phrase = X; constituent = 0; start = 0 }

-- The key for constituent s of the phrase X, which an item waits for at k, or a made rule has read from k on.
abbrev pub waiting : Bool → Phrase → ℕ → ℕ → Key
waiting made X s k = record { made = made; phrase = X; constituent = s; start = k }

-- The key for constituent s, which the phrase X has read: X with it unread, the constituent, and its start. There is one just where
-- it is read.
abbrev pub PartKey : Bool → Phrase → ℕ → Option Key → Type 0
PartKey made X s r =
    MatchOption r ((j k : ℕ) → from_one (list_of X.spans) s ≢ Some (Read j k))
    (λ t. (j : ℕ) × (k : ℕ) × (sp : Short Span) × (from_one (list_of X.spans) s ≡ Some (Read j k)) × (list_of sp ≡ put (list_of X.spans) s Unread)
    × (t ≡ record { made = made; phrase = record { category = X.category; spans = sp }; constituent = s; start = j }))

-- An item that waits for constituent `part` of a phrase at `end`: by the phrase alone in index 4, and with both in index `part`.
abbrev pub waiting_for : Option Phrase → ℕ → ℕ → ℕ → Option Thing
waiting_for None part end slot = None
waiting_for (Some X) part end slot =
    cond (slot == 4) (Some (thing.TheVariants.Key (record { made = false; phrase = X; constituent = 0; start = 0 })))
    (cond (slot == part) (Some (thing.TheVariants.Key (record { made = false; phrase = X; constituent = part; start = end }))) None)

-- The spans with span i unread, counted from 1.
abbrev pub unread_at : Short Span → ℕ → Short Span
unread_at Nil i = Nil
unread_at (One a) i = cond (i == 1) (One Unread) (One a)
unread_at (Two a b) i = cond (i == 1) (Two Unread b) (cond (i == 2) (Two a Unread) (Two a b))
unread_at (Three a b c) i = cond (i == 1) (Three Unread b c) (cond (i == 2) (Three a Unread c) (cond (i == 3) (Three a b Unread) (Three a b c)))

abbrev pub read_from : Phrase → Option Span → ℕ → Option Thing
read_from X None slot = None
read_from X (Some Unread) slot = None
read_from X (Some (Read j k)) slot =
    cond (nat_lt 3 slot) None
    (Some (thing.TheVariants.Key (record { made = true; phrase = record { category = X.category; spans = unread_at X.spans slot }; constituent = slot; start = j })))

-- A made rule with the phrase X on its left, where constituent `slot` of it stands so: by the phrase alone in index 4, and in the
-- index of each constituent that is read by the phrase with it unread, the constituent, and its start.
abbrev pub made_from : Phrase → Option Span → ℕ → Option Thing
made_from X o slot = cond (slot == 4) (Some (thing.TheVariants.Key (record { made = true; phrase = X; constituent = 0; start = 0 }))) (read_from X o slot)

-- An item by what it waits for: an item that moves on when there are so many tokens, by their number in index 4.
abbrev pub awaited_by : cell.Item → Waiting → ℕ → Option Thing
awaited_by x Idle slot = None
awaited_by x (Left n) slot = None
awaited_by x (Part argument part) slot = waiting_for (from_one (list_of x.rule.arguments) argument) part x.end slot
awaited_by x (Until tokens) slot = cond (slot == 4) (Some (thing.TheVariants.Due tokens)) None

abbrev pub fact_at : Fact → Waiting → ℕ → Option Thing
fact_at (Item x) wait slot = awaited_by x wait slot
fact_at (Made r) wait slot = cond (nat_lt 4 slot) None (made_from r.left (from_one (list_of r.left.spans) slot) slot)

abbrev pub row_at : Row → Waiting → ℕ → Option Thing
row_at row.TheVariants.Nothing wait slot = None
row_at (row.TheVariants.Category d h p) wait slot = None
row_at (row.TheVariants.Function a c n) wait slot = None
row_at (row.TheVariants.Constituent s n) wait slot = None
row_at (row.TheVariants.Symbol s) wait slot = None
row_at row.TheVariants.Empty wait slot = None
row_at (row.TheVariants.Place c f a n p) wait slot = None
row_at (row.TheVariants.Argument c) wait slot = None
row_at (row.TheVariants.Token t) wait slot = None
row_at (row.TheVariants.Fact f) wait slot = cond (slot == 0) (Some (thing.TheVariants.Fact f)) (fact_at f wait slot)

-- What a cell is looked up by in index `slot`: in index 0 the fact itself.
unfoldable pub thing_at : Cell → ℕ → Option Thing
thing_at c slot = row_at c.row c.wait slot

-- The index in which a thing is looked up.
abbrev pub slot_of : Thing → ℕ
slot_of (thing.TheVariants.Fact f) = 0
slot_of (thing.TheVariants.Due m) = 4
slot_of (thing.TheVariants.Key k) = cond (k.constituent == 1) 1 (cond (k.constituent == 2) 2 (cond (k.constituent == 3) 3 4))

-- A number taken into a hash, and one shifted into a number.
unfoldable pub mixed : ℕ → ℕ → ℕ
mixed h x = ((h + x) % 2 ^ 64) * 0x9e37_79b9_7f4a_7c15 % 2 ^ 64

unfoldable pub packed : ℕ → ℕ → ℕ
packed code x = (code * 0x2_0000 % 2 ^ 64 + x) % 2 ^ 64

-- A phrase as one number: its category, and 17 binary digits for each span.
abbrev pub span_packed : ℕ → Span → ℕ
span_packed code Unread = packed code 0
span_packed code (Read j k) = packed code (256 * k + j + 1)

abbrev pub spans_packed : ℕ → Short Span → ℕ
spans_packed code Nil = code
spans_packed code (One a) = span_packed code a
spans_packed code (Two a b) = span_packed (span_packed code a) b
spans_packed code (Three a b c) = span_packed (span_packed (span_packed code a) b) c

unfoldable pub phrase_hashed : ℕ → Phrase → ℕ
phrase_hashed h X = mixed h (spans_packed X.category X.spans)

abbrev pub phrases_hashed : ℕ → Short Phrase → ℕ
phrases_hashed h Nil = h
phrases_hashed h (One a) = phrase_hashed h a
phrases_hashed h (Two a b) = phrase_hashed (phrase_hashed h a) b
phrases_hashed h (Three a b c) = phrase_hashed (phrase_hashed (phrase_hashed h a) b) c

unfoldable pub rule_hashed : ℕ → Rule → ℕ
rule_hashed h r = phrases_hashed (phrase_hashed (mixed h r.place) r.left) r.arguments

abbrev pub fact_hashed : Fact → ℕ
fact_hashed (Item x) = mixed (rule_hashed 1 x.rule) (packed (packed (packed x.constituent x.start) x.dot) x.end)
fact_hashed (Made r) = rule_hashed 2 r

unfoldable pub key_hashed : Key → ℕ
key_hashed k = mixed (phrase_hashed (cond k.made 3 4) k.phrase) (packed k.constituent k.start)

-- The hash of a thing, a number of 63 binary digits.
unfoldable pub hash_of : Thing → ℕ
hash_of (thing.TheVariants.Fact f) = fact_hashed f / 2
hash_of (thing.TheVariants.Key k) = key_hashed k / 2
hash_of (thing.TheVariants.Due m) = mixed 5 m / 2

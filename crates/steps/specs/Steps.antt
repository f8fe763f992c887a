-- What each step answers: the fact to which the step of the chart leads, exactly where it leads to one. Assumes nothing.
use Rattle.std.specs.Prelude.{◌≡◌, ℕ, suc, List, Some, Option, MatchOption, ◌≢◌}
use Rattle.std.specs.List.{slice_get}
use Rattle.chart.specs.Chart.{Reads, item, read_as}
use Rattle.cells.specs.declared.Item.{Item}
use Rattle.cells.specs.declared.Phrase.{Phrase}
use Rattle.cells.specs.declared.Fact.TheVariants as fact
use Rattle.cells.specs.Facts.{list_of, phrase_of, rule_of, meant}
use Rattle.cells.specs.declared.Span.{Span}
use Rattle.grammar.specs.Grammar.{from_one, and_then}

-- The item x past one symbol, up to the position k.
abbrev pub Passed : Item → ℕ → Item → Type 0
Passed x k z = meant (fact.Item z) ≡ item (rule_of x.rule) x.constituent x.start (suc x.dot) k

-- The dot passes the token t where t follows the end in w.
abbrev pub Scanned : List ℕ → Item → ℕ → Option Item → Type 0
Scanned w x t r = MatchOption r (slice_get w x.end ≢ Some t) (λ z. (slice_get w x.end ≡ Some t) × Passed x (suc x.end) z)

-- From position k on the tokens from a to b stand once more, up to the position that is answered.
abbrev pub Copied : List ℕ → ℕ → ℕ → ℕ → Option ℕ → Type 0
Copied w a b k r = MatchOption r ((m : ℕ) (u : List ℕ) → Reads w a b u → Reads w k m u → ⊥) (λ m. (u : List ℕ) × Reads w a b u × Reads w k m u)

-- The phrase y is x with constituent s read from k up to the position that is answered.
abbrev pub ReadFrom : Phrase → ℕ → ℕ → Phrase → Option ℕ → Type 0
ReadFrom x s k y r = MatchOption r ((m : ℕ) → phrase_of y ≢ read_as (phrase_of x) s k m) (λ m. phrase_of y ≡ read_as (phrase_of x) s k m)

-- How constituent s of argument d of the item stands, both counted from 1: absent where it has no such constituent.
abbrev pub span_at : Item → ℕ → ℕ → Option Span
span_at x d s = and_then (from_one (list_of x.rule.arguments) d) (λ X. from_one (list_of X.spans) s)

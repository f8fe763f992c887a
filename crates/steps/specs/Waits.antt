-- What an item waits for, if it waits. Assumes nothing.
use Rattle.std.specs.Prelude.{◌≡◌, ℕ, suc, ◌+◌, ◌<◌, Some}
use Rattle.grammar.specs.Grammar.{Grammar, from_one}
use Rattle.cells.specs.declared.Span.TheVariants.{Read}
use Rattle.cells.specs.declared.Phrase.{Phrase}
use Rattle.cells.specs.declared.Item.{Item}
use Rattle.cells.specs.declared.Waiting.{Waiting}
use Rattle.cells.specs.declared.Waiting.TheVariants.{Idle, Part, Until}
use Rattle.cells.specs.Facts.{list_of}
use Rattle.steps.specs.Nexts.{BeforeToken, BeforeArgument, UnreadPart, WaitsForNone}

-- The item waits for a part exactly where it stands before that part and it is unread. Where it stands before a token, or
-- before a part that is read as a span that is not empty, it waits until there are as many tokens as it then ends at. Else it waits for
-- nothing.
pub record Told (g : Grammar) (x : Item) (wait : Waiting) : Type 0 where
  pub part : (d s : ℕ) → wait ≡ Part d s → BeforeArgument g x d s × UnreadPart x d s
  pub parts : (d s : ℕ) → BeforeArgument g x d s → UnreadPart x d s → wait ≡ Part d s
  pub token : (t : ℕ) → BeforeToken g x t → wait ≡ Until (suc x.end)
  pub copy : (d s a b m : ℕ) (X : Phrase) → BeforeArgument g x d s → from_one (list_of x.rule.arguments) d ≡ Some X → from_one (list_of X.spans) s ≡ Some (Read a b)
      → a < b → x.end + b ≡ m + a → wait ≡ Until m
  pub nothing : WaitsForNone g x → ((t : ℕ) → BeforeToken g x t → ⊥)
      → ((d s a b : ℕ) (X : Phrase) → BeforeArgument g x d s → from_one (list_of x.rule.arguments) d ≡ Some X → from_one (list_of X.spans) s ≡ Some (Read a b) → a < b → ⊥)
      → wait ≡ Idle

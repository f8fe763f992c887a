-- What the check before opening answers: the shape of the grammar, or why it is refused. Assumes nothing.
use Rattle.std.specs.Prelude.{◌≡◌, length, Some, None}
use Rattle.grammar.specs.Grammar.{Grammar}
use Rattle.grammar.specs.Trees.{Tree, StartTree}
use Rattle.soundness.specs.declared.opening.Shape.{Shape}
use Rattle.faults.specs.declared.refusal.Fault.{Fault}
use Rattle.faults.specs.declared.refusal.Fault.TheVariants.{OverLimit, NamesNothing, DoesNotFit, NoStartTree}
use Rattle.faults.specs.Faults.{first_fault}
use Rattle.soundness.specs.Heights.{LeastHeights}
use Rattle.faults.specs.Limits.{most_categories}
use Rattle.faults.specs.Sound.{Sound}
use Rattle.soundness.specs.Totals.{constituent_total, symbol_total, argument_total}

-- The grammar may be opened, and this is its shape: its numbers, and for each category the least height of a tree.
pub record Accepted (g : Grammar) (s : Shape) : Type 0 where
  pub faultless : first_fault g ≡ None
  pub sound : Sound g
  pub tree : (t : Tree) × StartTree g t
  pub tokens : s.tokens ≡ g.tokens
  pub start : s.start ≡ g.start
  pub categories : s.categories ≡ length g.dimensions
  pub functions : s.functions ≡ length g.functions
  pub constituents : s.constituents ≡ constituent_total g
  pub symbols : s.symbols ≡ symbol_total g
  pub places : s.places ≡ length g.places
  pub arguments : s.arguments ≡ argument_total g
  pub heights : LeastHeights g s.heights
  pub room : length s.heights ≡ most_categories

-- The grammar is refused for its first fault; where it has none, for the want of a start tree.
abbrev pub Refused : Grammar → Fault → Type 0
Refused g (OverLimit x) = first_fault g ≡ Some (OverLimit x)
Refused g (NamesNothing x) = first_fault g ≡ Some (NamesNothing x)
Refused g (DoesNotFit x) = first_fault g ≡ Some (DoesNotFit x)
Refused g NoStartTree = (first_fault g ≡ None) × ((t : Tree) → StartTree g t → ⊥)

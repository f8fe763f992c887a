-- Faults and things as lists: for each case its number, then its values. Assumes nothing.
use Rattle.std.specs.Prelude.{◌≡◌, ℕ, List, [], ◌∷◌, Some, None, Option}
use Rattle.faults.specs.declared.refusal.Counted.{Counted}
use Rattle.faults.specs.declared.refusal.Counted.TheVariants.{Tokens, Categories, Functions, Places}
use Rattle.faults.specs.declared.refusal.Thing.{Thing}
use Rattle.faults.specs.declared.refusal.Thing.TheVariants.{Count, Category, Start, Function, Place}
use Rattle.faults.specs.declared.refusal.Fault.{Fault}
use Rattle.faults.specs.declared.refusal.Fault.TheVariants.{OverLimit, NamesNothing, DoesNotFit, NoStartTree}

-- The number of a count: 0 tokens, 1 categories, 2 functions, 3 places.
abbrev pub counted_number : Counted → ℕ
counted_number Tokens = 0
counted_number Categories = 1
counted_number Functions = 2
counted_number Places = 3

-- A thing: its sort, in the order in which the sorts are checked, and its number; the start's is 0.
abbrev pub thing_listed : Thing → List ℕ
thing_listed (Count k) = 0 ∷ counted_number k ∷ []
thing_listed (Category c) = 1 ∷ c ∷ []
thing_listed Start = 2 ∷ 0 ∷ []
thing_listed (Function f) = 3 ∷ f ∷ []
thing_listed (Place p) = 4 ∷ p ∷ []

-- A fault: its number, and then its thing.
abbrev pub fault_listed : Fault → List ℕ
fault_listed (OverLimit x) = 4 ∷ thing_listed x
fault_listed (NamesNothing x) = 5 ∷ thing_listed x
fault_listed (DoesNotFit x) = 6 ∷ thing_listed x
fault_listed NoStartTree = 7 ∷ []

abbrev pub thing_of : Fault → Option Thing
thing_of (OverLimit x) = Some x
thing_of (NamesNothing x) = Some x
thing_of (DoesNotFit x) = Some x
thing_of NoStartTree = None

-- Equal lists are equal things, and equal faults: a promise about a fault says the same as one about its list.
abbrev pub ToldApart : Type 0
ToldApart =
    ((x y : Thing) → thing_listed x ≡ thing_listed y → x ≡ y)
    × ((x y : Fault) → fault_listed x ≡ fault_listed y → x ≡ y)

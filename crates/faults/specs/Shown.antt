-- What is written of things and faults. Assumes nothing.
use Rattle.std.specs.Prelude.{ℕ, List, codes}
use Rattle.faults.specs.declared.refusal.Thing.{Thing}
use Rattle.faults.specs.declared.refusal.Thing.TheVariants.{Count, Category, Start, Function, Place}
use Rattle.faults.specs.declared.refusal.Fault.{Fault}
use Rattle.faults.specs.declared.refusal.Fault.TheVariants.{OverLimit, NamesNothing, DoesNotFit, NoStartTree}

-- The sort of the thing.
abbrev pub thing_shown : Thing → List ℕ
thing_shown (Count k) = codes "count"
thing_shown (Category c) = codes "category"
thing_shown Start = codes "start"
thing_shown (Function f) = codes "function"
thing_shown (Place p) = codes "place"

-- The cause of the fault.
abbrev pub fault_shown : Fault → List ℕ
fault_shown (OverLimit x) = codes "over a limit, or of dimension 0"
fault_shown (NamesNothing x) = codes "it names something that is not there"
fault_shown (DoesNotFit x) = codes "its parts do not fit one another"
fault_shown NoStartTree = codes "the start category has no tree"

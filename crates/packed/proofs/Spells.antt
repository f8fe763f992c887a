-- An answer of reading says whether the bytes are records one after another. Assumes nothing.
use Rattle.std.proofs.Common.{◌≡◌, ℕ, List, Ok, Err, Result, sym, arith}
use Rattle.packed.specs.declared.file.Packed.{Packed}
use Rattle.packed.specs.File.{entries_of, Spells}
use Rattle.records.specs.declared.kinds.ReadFault.{ReadFault}
use Rattle.records.specs.Kinds.{fault_listed}
use Rattle.records.specs.Records.{reading}
use Rattle.std.specs.Result.{result_map_both}
use Rattle.walk.proofs.Spelling.{reading_is_spelling}

pub spells : (bs : List ℕ) (r : Result Packed ReadFault) → result_map_both entries_of fault_listed r ≡ reading bs → Spells bs r
spells bs (Ok p) h = (reading_is_spelling bs (entries_of p)).0 (sym h)
spells bs (Err f) h = λ es s. let good = (reading_is_spelling bs es).1 s in let z : ◌≡◌ {A = ℕ} 0 1 = cc in omega arith

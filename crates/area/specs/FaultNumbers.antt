-- The number of each refusal of an opening. Assumes nothing.
use Rattle.std.specs.Prelude.{ℕ, slice_index}
use Rattle.faults.specs.Listed.{fault_listed}
use Rattle.area.specs.declared.fault.OpeningFault.{OpeningFault}
use Rattle.area.specs.declared.fault.OpeningFault.TheVariants.{Unsound, TooShort}

-- A grammar is refused with the number of its fault, 4 to 7.
abbrev pub opening_number : OpeningFault → ℕ
opening_number (Unsound f) = slice_index (fault_listed f) 0
opening_number TooShort = 8

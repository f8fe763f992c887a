-- The kinds of records, the bodies that each may have, and their order. Assumes nothing.
use Rattle.std.specs.Prelude.{ℕ, ◌%◌, Bool, cond, ◌&&◌, List, [], ◌∷◌, Some, None, Option, Result, ◌==◌, nat_le, codes}
use Rattle.std.specs.Option.{ok_or}
use Rattle.records.specs.declared.kinds.Kind.{Kind}
use Rattle.records.specs.declared.kinds.Kind.TheVariants.{Head, Category, Function, Constituent, Filled, Empty}
use Rattle.records.specs.declared.kinds.UnknownKind.{UnknownKind}
use Rattle.records.specs.declared.kinds.ReadFault.{ReadFault}
use Rattle.records.specs.declared.kinds.ReadFault.TheVariants.{PastEnd, Malformed, OutOfOrder}

-- A fault as a list: its number, then the offset of the first bad record.
abbrev pub fault_listed : ReadFault → List ℕ
fault_listed (PastEnd o) = 1 ∷ o ∷ []
fault_listed (Malformed o) = 2 ∷ o ∷ []
fault_listed (OutOfOrder o) = 3 ∷ o ∷ []

-- What is written of a fault: its meaning in words.
abbrev pub fault_shown : ReadFault → List ℕ
fault_shown (PastEnd o) = codes "the record runs past the end of the file"
fault_shown (Malformed o) = codes "the record's length is below 2, its kind is unknown, or its body does not fit its kind"
fault_shown (OutOfOrder o) = codes "the record stands out of order, or there is no head"

-- The number of each kind of record.
abbrev pub kind_number : Kind → ℕ
kind_number Head = 1
kind_number Category = 2
kind_number Function = 3
kind_number Constituent = 4
kind_number Filled = 5
kind_number Empty = 6

-- The kind that a number names, if it names one.
abbrev pub kind_of : ℕ → Option Kind
kind_of n =
    cond (n == 1) (Some Head)
    (cond (n == 2) (Some Category)
    (cond (n == 3) (Some Function)
    (cond (n == 4) (Some Constituent)
    (cond (n == 5) (Some Filled)
    (cond (n == 6) (Some Empty) None)))))

-- The same, or the number that names none.
abbrev pub kind_named : ℕ → Result Kind UnknownKind
kind_named n = ok_or (kind_of n) (record { 0 = n })

-- The lengths, in bytes, that the body of each kind may have: two numbers; one; one; two for each symbol; two, and
-- one for each argument; none.
abbrev pub body_fits : Kind → ℕ → Bool
body_fits Head n = n == 4
body_fits Category n = n == 2
body_fits Function n = n == 2
body_fits Constituent n = n % 4 == 0
body_fits Filled n = nat_le 4 n && n % 2 == 0
body_fits Empty n = n == 0

-- The number of the kind of the record before, 0 where there is none.
abbrev pub number_before : Option Kind → ℕ
number_before None = 0
number_before (Some k) = kind_number k

-- Whether a record of kind k may stand after one whose kind has the number `last`: one head first, then the
-- categories, then each function with its constituents, then the places, filled and empty.
abbrev pub may_follow : ℕ → Kind → Bool
may_follow last Head = last == 0
may_follow last Category = nat_le 1 last && nat_le last 2
may_follow last Function = nat_le 1 last && nat_le last 4
may_follow last Constituent = nat_le 3 last && nat_le last 4
may_follow last Filled = nat_le 1 last
may_follow last Empty = nat_le 1 last

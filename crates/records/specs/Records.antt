-- Packed files: the bytes as a row of records, and the first fault. Assumes nothing.
use Rattle.std.specs.Prelude.{ℕ, zero, suc, ◌+◌, ◌-◌, ◌*◌, ◌≤◌, Bool, true, false, cond, List, [], ◌∷◌, length, Some, None, Ok, Err, Option, Result, ◌==◌, nat_le, nat_lt, slice_index}
use Rattle.std.specs.List.{between}
use Rattle.records.specs.declared.kinds.Kind.{Kind}
use Rattle.records.specs.declared.records.Record.{Record}
use Rattle.records.specs.Kinds.{kind_number, kind_of, body_fits, may_follow}

-- A record: where it begins, its kind and its body.
pub record Entry : Type 0 where
  pub offset : ℕ
  pub kind : Kind
  pub body : List ℕ

-- What a record that was read holds.
abbrev pub viewed : Record → Entry
viewed r = record { offset = r.offset; kind = r.kind; body = r.body.now }

-- The number of 16 bits at an offset, the low byte first.
abbrev pub word_at : List ℕ → ℕ → ℕ
word_at bs o = slice_index bs o + 256 * slice_index bs (o + 1)

-- Where the next record begins.
abbrev pub after_entry : Entry → ℕ
after_entry e = e.offset + 4 + length e.body

-- A record lies within the bytes.
abbrev pub Within : List ℕ → Entry → Type 0
Within bs e = after_entry e ≤ length bs

abbrev pub entry_if : Bool → Entry → ℕ → Result Entry (List ℕ)
entry_if true e o = Ok e
entry_if false e o = Err (2 ∷ o ∷ [])

abbrev pub entry_of : Option Kind → List ℕ → ℕ → Result Entry (List ℕ)
entry_of None bs o = Err (2 ∷ o ∷ [])
entry_of (Some k) bs o = entry_if (body_fits k (word_at bs o - 2)) (record { offset = o; kind = k; body = between (o + 4) (o + 2 + word_at bs o) bs }) o

-- The record at an offset, or the fault. A record is a length (of all that follows it), a kind and a body. 1: it runs
-- past the end of the file. 2: its length is below 2, its kind is unknown, or its body does not fit its kind.
abbrev pub entry_at : List ℕ → ℕ → Result Entry (List ℕ)
entry_at bs o =
    cond (nat_lt (length bs) (o + 2)) (Err (1 ∷ o ∷ []))
    (cond (nat_lt (length bs) (o + 2 + word_at bs o)) (Err (1 ∷ o ∷ []))
    (cond (nat_lt (word_at bs o) 2) (Err (2 ∷ o ∷ []))
    (entry_of (kind_of (word_at bs (o + 2))) bs o)))

abbrev pub row_after : Result Entry (List ℕ) → (Entry → List Entry) → List Entry
row_after (Ok e) rest = e ∷ rest e
row_after (Err f) rest = []

-- The records from an offset on, up to the end of the file or to bytes that are no record. Each record takes at least
-- four bytes, so one turn more than the file has bytes never cuts the row short.
abbrev pub entries_within : ℕ → List ℕ → ℕ → List Entry
entries_within zero bs o = []
entries_within (suc n) bs o = row_after (entry_at bs o) (λ e. entries_within n bs (after_entry e))

unfoldable pub entries_from : List ℕ → ℕ → List Entry
entries_from bs o = entries_within (suc (length bs)) bs o

abbrev pub consed : Entry → Result (List Entry) (List ℕ) → Result (List Entry) (List ℕ)
consed e (Ok es) = Ok (e ∷ es)
consed e (Err f) = Err f

-- The end of the file: 3 where not even a head stands before it.
abbrev pub at_end : ℕ → ℕ → Result (List Entry) (List ℕ)
at_end o last = cond (last == 0) (Err (3 ∷ o ∷ [])) (Ok [])

-- A record, and what follows it: 3 where it may not follow the one before.
abbrev pub read_next : Result Entry (List ℕ) → ℕ → ℕ → (Entry → Result (List Entry) (List ℕ)) → Result (List Entry) (List ℕ)
read_next (Err f) o last rest = Err f
read_next (Ok e) o last rest = cond (may_follow last e.kind) (consed e (rest e)) (Err (3 ∷ o ∷ []))

-- Reading from an offset on, after a record whose kind has the number `last` (0: none): the records to the end of the
-- file, or the first fault.
abbrev pub read_within : ℕ → List ℕ → ℕ → ℕ → Result (List Entry) (List ℕ)
read_within zero bs o last = Err (3 ∷ o ∷ [])
read_within (suc n) bs o last =
    cond (nat_le (length bs) o) (at_end o last) (read_next (entry_at bs o) o last (λ e. read_within n bs (after_entry e) (kind_number e.kind)))

unfoldable pub read_from : List ℕ → ℕ → ℕ → Result (List Entry) (List ℕ)
read_from bs o last = read_within (suc (length bs)) bs o last

-- What reading a whole file comes to: its records, or the number and the offset of its first fault.
abbrev pub reading : List ℕ → Result (List Entry) (List ℕ)
reading bs = read_from bs 0 0

-- What a file that was read holds. Assumes nothing.
use Rattle.std.specs.Prelude.{ℕ, List, Ok, Err, Result}
use Rattle.grammar.specs.Grammar.{Grammar}
use Rattle.packed.specs.declared.file.Packed.{Packed}
use Rattle.records.specs.declared.kinds.ReadFault.{ReadFault}
use Rattle.records.specs.Meaning.{grammar_of}
use Rattle.records.specs.Records.{Entry, entries_from}
use Rattle.walk.specs.Spelled.{Spelled}

-- The bytes of a file.
abbrev pub bytes_of : Packed → List ℕ
bytes_of p = p.bytes.now

-- The records of a file, from its first byte on.
abbrev pub entries_of : Packed → List Entry
entries_of p = entries_from (bytes_of p) 0

-- The grammar that they spell.
abbrev pub file_meaning : Packed → Grammar
file_meaning p = grammar_of (entries_of p)

-- What an answer of reading says of the bytes: they are the file's records, one after another; or they are no such row.
abbrev pub Spells : List ℕ → Result Packed ReadFault → Type 0
Spells bs (Ok p) = Spelled bs 0 0 (entries_of p)
Spells bs (Err f) = (es : List Entry) → Spelled bs 0 0 es → ⊥

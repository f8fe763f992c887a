-- What a catalogue tells of a group of a file's records. Assumes nothing.
use Rattle.std.specs.Prelude.{◌≡◌, ℕ, ◌<◌, List, map, length, Some}
use Rattle.std.specs.List.{slice_get}
use Rattle.walk.specs.declared.catalogue.Catalogue.{Catalogue}
use Rattle.walk.specs.declared.seek.Group.{Group}
use Rattle.walk.specs.Groups.{grouped}
use Rattle.records.specs.Records.{Entry, entries_from}

abbrev pub offset_of : Entry → ℕ
offset_of e = e.offset

-- How many records it counts.
abbrev pub counted : Catalogue → ℕ
counted c = c.count

-- It counts the records of the group, and an offset that it lists is where the record of the same index begins.
abbrev pub Catalogued : Group → List ℕ → Catalogue → Type 0
Catalogued group bs c =
    (counted c ≡ length (grouped group (entries_from bs 0)))
    × ((i o : ℕ) → i < c.count → slice_get c.offsets i ≡ Some o → slice_get (map offset_of (grouped group (entries_from bs 0))) i ≡ Some o)

-- The records that are still to come. Assumes nothing.
use Rattle.std.specs.Prelude.{List}
use Rattle.records.specs.declared.row.Records.{Records}
use Rattle.records.specs.Records.{Entry, entries_from}

-- The records that are left to give, from the next offset on.
abbrev pub entries_left : Records → List Entry
entries_left r = entries_from r.bytes.now r.offset

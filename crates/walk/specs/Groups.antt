-- The groups of records that questions count through. Assumes nothing.
use Rattle.std.specs.Prelude.{Bool, List, ◌==◌, nat_le}
use Rattle.records.specs.declared.kinds.Kind.{Kind}
use Rattle.std.specs.List.{filter}
use Rattle.walk.specs.declared.seek.Group.{Group}
use Rattle.walk.specs.declared.seek.Group.TheVariants.{Only, Places}
use Rattle.records.specs.Kinds.{kind_number}
use Rattle.records.specs.Records.{Entry}

abbrev pub belongs : Group → Kind → Bool
belongs (Only j) k = kind_number k == kind_number j
belongs Places k = nat_le 5 (kind_number k)

-- The records of a group, in their order.
unfoldable pub grouped : Group → List Entry → List Entry
grouped group es = filter (λ e. belongs group e.kind) es

use Rattle.std.proofs.Common.{refl}
use Rattle.note.proofs.Noted.{accepted_as}
use Rattle.note.proofs.accepted.check.Goals as goal

pub returns : goal.returns
returns g c =
    let n = c.in_ok-numbers.numbers in
    accepted_as (g.S.Source.meaning c.args.source.now) c.open_area.new.cells n (record { numbers = n; used = c.cells_in_use.result }) refl c.cells_in_use.ensures (c.in_ok-numbers.ensures).0 (c.in_ok-numbers.ensures).1

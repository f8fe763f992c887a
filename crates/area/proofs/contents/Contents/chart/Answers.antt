use Rattle.std.proofs.Common.{List, ap, ◌∙◌, subst}
use Rattle.cells.specs.declared.Cell.{Cell}
use Rattle.area.specs.declared.numbers.Numbers.{Numbers}
use Rattle.area.specs.Contents.{RoomOf}
use Rattle.area.proofs.Told.{held_in}
use Rattle.area.proofs.contents.Contents.chart.Goals as goal

pub room-requires : goal.room-requires
room-requires c = let r = c.requires in (r.0, r.1, held_in r.0 r.1 r.2 r.3 c.args.self.now r.4 r.5)

pub returns : goal.returns
returns c =
    λ g w cs n h k.
    record {
      source = k.source;
      tokens = c.deref.ensures.0 ∙ k.tokens;
      cells = k.cells;
      room = subst (λ (xs : List Cell). RoomOf g w xs c.room.result) k.cells (c.room.ensures g w (held_in g w cs n c.args.self.now h k));
      end = ap (λ (m : Numbers). m.end) k.numbers;
    }

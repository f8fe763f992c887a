use Rattle.std.proofs.Common.{ℕ, subst}
use Rattle.weigh.specs.Numbers.{Renumbered}
use Rattle.calls.proofs.Closings.{closes, log_there}
use Rattle.calls.proofs.closed.close_in.Goals as goal

pub number_left_sides-phrases-requires : goal.number_left_sides-phrases-requires
number_left_sides-phrases-requires c =
    log_there c.requires.0 c.requires.1 c.args.cells.now c.args.numbers c.room-room.result c.requires.2 (c.room-room.ensures c.requires.0 c.requires.1 c.requires.2)

pub returns-clause-kept : goal.returns-clause-kept
returns-clause-kept c =
    λ g w h.
    subst (λ (b : ℕ). Renumbered c.args.cells.now c.number_left_sides-phrases.new.cells b c.args.numbers.end) (c.room-room.ensures g w h).0 c.number_left_sides-phrases.ensures.kept

pub returns-clause-closes : goal.returns-clause-closes
returns-clause-closes c =
    λ g w h.
    closes g w c.args.cells.now c.number_left_sides-phrases.new.cells c.args.numbers c.room-room.result c.number_left_sides-phrases.result h (c.room-room.ensures g w h) c.number_left_sides-phrases.ensures.kept c.number_left_sides-phrases.ensures.all

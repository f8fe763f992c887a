use Rattle.std.proofs.Common.{◌≡◌, List, [], length, take}
use Rattle.grammar.specs.Grammar.{Grammar}
use Rattle.note.specs.Promises.{Holds}
use Rattle.misuse.specs.WeighedNote.{AcceptedTo}
use Rattle.misuse.proofs.weigh_note.Given as goal

abbrev pub invariant-loop-token : goal.invariant-loop-token
invariant-loop-token g l =
    (l.note.area.ghost_name ≡ l.initial.note.area.ghost_name)
    × (length l.note.area.now ≡ length l.initial.note.area.now)
    × ((v : Grammar) → Holds v [] l.initial.note → Holds v (take l.token-index l.tokens) l.note × AcceptedTo v (length l.initial.note.area.now) l.tokens l.token-index)

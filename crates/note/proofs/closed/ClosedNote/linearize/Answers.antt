use Rattle.std.proofs.Common.{ℕ, List, subst}
use Rattle.grammar.specs.Grammar.{Grammar}
use Rattle.linearize.specs.Linearizes.{Linearizes}
use Rattle.note.specs.Promises.{ClosedState, HoldsClosed}
use Rattle.note.proofs.closed.ClosedNote.linearize.Goals as goal

pub returns : goal.returns
returns c =
    subst (λ (v : ClosedState). (g : Grammar) (w : List ℕ) → HoldsClosed g w v → Linearizes g c.args.list.now c.args.output.now c.linearize_in.new.output c.linearize_in.result) c.self.view_is
    (λ g w h. c.linearize_in.ensures g w h.closed.held)

use Rattle.std.proofs.Common.{ℕ, List, subst}
use Rattle.grammar.specs.Grammar.{Grammar}
use Rattle.linearize.specs.Linearizes.{Linearizes}
use Rattle.note.specs.Promises.{OpenState, Holds}
use Rattle.note.proofs.open.OpenNote.linearize.Goals as goal

pub returns : goal.returns
returns c =
    subst (λ (v : OpenState). (g : Grammar) (w : List ℕ) → Holds g w v → Linearizes g c.args.list.now c.args.output.now c.linearize_in.new.output c.linearize_in.result) c.self.view_is
    c.linearize_in.ensures

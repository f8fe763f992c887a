use Rattle.std.proofs.Common.{ℕ, List, Decides, subst}
use Rattle.grammar.specs.Grammar.{Grammar}
use Rattle.grammar.specs.Trees.{Complete}
use Rattle.note.specs.Promises.{OpenState, Holds}
use Rattle.note.proofs.open.OpenNote.is_complete.Goals as goal

pub returns : goal.returns
returns c = subst (λ (v : OpenState). (g : Grammar) (w : List ℕ) → Holds g w v → Decides c.is_complete.result (Complete g w)) c.self.view_is c.is_complete.ensures

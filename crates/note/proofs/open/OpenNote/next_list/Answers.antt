use Rattle.std.proofs.Common.{ℕ, List, subst}
use Rattle.grammar.specs.Grammar.{Grammar}
use Rattle.note.specs.Promises.{OpenState, Holds, NextTold}
use Rattle.note.proofs.Asked.{next_to}
use Rattle.note.proofs.open.OpenNote.next_list.Goals as goal

pub returns : goal.returns
returns c =
    subst (λ (v : OpenState). (g : Grammar) (w : List ℕ) → Holds g w v → NextTold g w c.args.list.now c.next_list.new.list c.ok_or.result) c.self.view_is
    (λ g w h. rw c.ok_or.ensures.value (next_to g w c.args.list.now c.next_list.new.list c.next_list.result _ (c.next_list.ensures g w h)))

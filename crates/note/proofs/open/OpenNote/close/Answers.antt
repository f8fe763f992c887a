use Rattle.std.proofs.Common.{ℕ, List, ap, subst}
use Rattle.grammar.specs.Grammar.{Grammar}
use Rattle.cells.specs.declared.Cell.{Cell}
use Rattle.area.specs.Held.{Unmoved}
use Rattle.calls.specs.Closed.{Closes}
use Rattle.note.specs.Promises.{OpenState, Holds}
use Rattle.note.proofs.open.OpenNote.close.Goals as goal

pub invariant_of-result : goal.invariant_of-result
invariant_of-result c =
    let i = c.self.invariant in
    (i.0, i.1, c.close_in-closing.ensures.closes i.0 i.1 i.2)

pub returns-clause-closed : goal.returns-clause-closed
returns-clause-closed c =
    subst (λ (v : OpenState). (g : Grammar) (w : List ℕ) → Holds g w v → Closes g w c.close_in-closing.new.cells c.self.inside.numbers c.close_in-closing.result) c.self.view_is c.close_in-closing.ensures.closes

pub returns-clause-unmoved : goal.returns-clause-unmoved
returns-clause-unmoved c =
    let i = c.self.invariant in
    let kept = c.close_in-closing.ensures.kept i.0 i.1 i.2 in
    subst (λ (v : OpenState). Unmoved v.area.now c.close_in-closing.new.cells) c.self.view_is (λ p stands. ap (λ (x : Cell). x.row) (kept.only p))

use Rattle.cells.specs.declared.Item.{Item}
use Rattle.steps.specs.Waits.{Told}
use Rattle.closing.specs.Runs.{grammar_of}
use Rattle.std.proofs.Common.{◌≡◌, sym, subst}
use Rattle.grammar.specs.Grammar.{Grammar}
use Rattle.faults.specs.Sound.{Sound}
use Rattle.closing.proofs.Run.wait_for.Goals as goal

pub wait_of-requires : goal.wait_of-requires
wait_of-requires c = subst (λ (g : Grammar). Sound g) (sym c.rows_in-source.ensures.meant) c.requires.sound

pub returns-in-Item-clause-item : goal.returns-in-Item-clause-item
returns-in-Item-clause-item c =
    λ y e.
    let i = c.in-Item.is in
    let same : c.in-Item.x ≡ y = cc in
    subst (λ (x : Item). Told (grammar_of c.args.self.now c.args.cells.now) x c.wait_of.result) same
    (subst (λ (g : Grammar). Told g c.in-Item.x c.wait_of.result) c.rows_in-source.ensures.meant c.wait_of.ensures)

use Rattle.std.proofs.Common.{sym, subst}
use Rattle.grammar.specs.Grammar.{Grammar}
use Rattle.faults.specs.Sound.{Sound}
use Rattle.steps.specs.Nexts.{NextOf}
use Rattle.closing.proofs.Run.next_for.Goals as goal

pub next_of-requires : goal.next_of-requires
next_of-requires c = record { sound = subst (λ (g : Grammar). Sound g) (sym c.rows_in-source.ensures.meant) c.requires.sound; tokens = c.requires.tokens }

pub returns : goal.returns
returns c = subst (λ (g : Grammar). NextOf g c.args.self.now.tokens.now c.args.x c.next_of.result) c.rows_in-source.ensures.meant c.next_of.ensures

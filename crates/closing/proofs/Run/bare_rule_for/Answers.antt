use Rattle.std.proofs.Common.{sym, subst}
use Rattle.grammar.specs.Grammar.{Grammar}
use Rattle.faults.specs.Sound.{Sound}
use Rattle.steps.specs.Bare.{BareAt}
use Rattle.closing.proofs.Run.bare_rule_for.Goals as goal

pub bare_rule-requires : goal.bare_rule-requires
bare_rule-requires c = subst (λ (g : Grammar). Sound g) (sym c.rows_in-source.ensures.meant) c.requires.sound

pub returns : goal.returns
returns c = subst (λ (g : Grammar). BareAt g c.args.place c.bare_rule.result) c.rows_in-source.ensures.meant c.bare_rule.ensures

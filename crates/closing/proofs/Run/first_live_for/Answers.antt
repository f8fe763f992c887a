use Rattle.std.proofs.Common.{subst}
use Rattle.grammar.specs.Grammar.{Grammar}
use Rattle.steps.specs.Live.{FirstLive}
use Rattle.closing.proofs.Run.first_live_for.Goals as goal

pub returns : goal.returns
returns c = subst (λ (g : Grammar). FirstLive g c.args.category 0 c.first_live.result) c.rows_in-source.ensures.meant c.first_live.ensures

use Rattle.std.proofs.Common.{subst}
use Rattle.grammar.specs.Grammar.{Grammar}
use Rattle.steps.specs.Live.{NextLive}
use Rattle.steps.proofs.Going.{after_live}
use Rattle.closing.specs.Runs.{grammar_of}
use Rattle.closing.proofs.Run.next_live_for.Goals as goal

pub returns : goal.returns
returns c =
    after_live (grammar_of c.args.self.now c.args.cells.now) c.args.place c.next_live.result
    (subst (λ (g : Grammar). NextLive g c.args.place c.next_live.result) c.rows_in-source.ensures.meant c.next_live.ensures)

use Rattle.std.proofs.Common.{sym, subst}
use Rattle.grammar.specs.Grammar.{Grammar}
use Rattle.faults.specs.Sound.{Sound}
use Rattle.linearize.specs.Linearizes.{Linearizes}
use Rattle.calls.proofs.closed.linearize_in.Goals as goal

pub linearize-requires : goal.linearize-requires
linearize-requires c = let h = c.requires.2 in subst (λ (v : Grammar). Sound v) (sym (c.source.ensures c.requires.0 c.requires.1 h).0) h.sound

pub returns : goal.returns
returns c =
    λ g w h.
    subst (λ (v : Grammar). Linearizes v c.args.list.now c.args.output.now c.linearize.new.output c.linearize.result) (c.source.ensures g w h).0 c.linearize.ensures

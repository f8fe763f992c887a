use Rattle.std.proofs.Common.{[], take}
use Rattle.grammar.specs.Grammar.{Grammar}
use Rattle.area.specs.Held.{Held}
use Rattle.area_tests.proofs.fed.Given as goal

abbrev pub invariant-loop-token : goal.invariant-loop-token
invariant-loop-token l = (g : Grammar) → Held g [] l.initial.cells l.initial.reached → Held g (take l.token-index l.tokens) l.cells l.reached

use Rattle.std.proofs.Common.{◌≡◌, suc, ◌-◌}
use Rattle.linearize.specs.Nodes.{skipped}
use Rattle.linearize.proofs.nodes.argument_start.Given as goal

abbrev pub invariant-loop-j : goal.invariant-loop-j
invariant-loop-j l = l.at ≡ skipped l.nodes (suc l.i) (l.j - 1)

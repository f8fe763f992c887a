use Rattle.std.proofs.Common.{◌-◌}
use Rattle.fact_log.specs.Index.{order, Filed}
use Rattle.fact_log.proofs.Entering.{Unlinking}
use Rattle.fact_log.proofs.index.refile.Given as goal

abbrev pub invariant-loop-p : goal.invariant-loop-p
invariant-loop-p l = Unlinking l.fn.cells l.cells l.base l.p

abbrev pub invariant-loop-n : goal.invariant-loop-n
invariant-loop-n l = Filed l.fn.cells l.cells l.base (order (l.end - l.base)) l.end l.n

use Rattle.std.proofs.Common.{ℕ, ◌+◌, ◌^◌, ◌<◌, ◌≤◌}
use Rattle.fact_log.specs.Index.{things, links, Index}
use Rattle.fact_log.proofs.Entering.{Filing}
use Rattle.fact_log.proofs.index.file.Given as goal

abbrev pub invariant-loop-slot : goal.invariant-loop-slot
invariant-loop-slot l =
    (top : ℕ) → l.n < top → l.base + 2 ^ l.order ≤ top → ((s : ℕ) → s < 5 → Index (things l.fn.cells s) (links l.fn.cells s) l.base l.order top l.n) → Filing l.fn.cells l.cells l.base l.order top l.n l.slot

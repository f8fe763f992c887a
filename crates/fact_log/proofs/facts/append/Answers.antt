use Rattle.std.proofs.Common.{set, refl, arith}
use Rattle.fact_log.proofs.Appending.{new_cell, appending, appending_fresh, appended}
use Rattle.fact_log.proofs.facts.append.Goals as goal

pub file_last-requires-clause-indexed : goal.file_last-requires-clause-indexed
file_last-requires-clause-indexed c = appending c.args.cells.now c.args.base c.args.end c.args.limit c.args.fact c.args.wait c.requires.log (omega (arith, c.if-end-limit.false))

pub file_last-requires-clause-fresh : goal.file_last-requires-clause-fresh
file_last-requires-clause-fresh c = appending_fresh c.args.cells.now c.args.base c.args.end c.args.limit c.args.fact c.args.wait c.requires.log (omega (arith, c.if-end-limit.false))

pub returns : goal.returns
returns c =
    (refl, appended c.args.cells.now (set c.args.cells.now c.args.end (new_cell c.args.fact c.args.wait)) c.file_last.new.cells c.args.base c.args.end c.args.limit c.args.fact c.args.wait c.requires.log c.requires.absent (omega (arith, c.if-end-limit.false)) refl c.file_last.ensures.relinked c.file_last.ensures.indexed)

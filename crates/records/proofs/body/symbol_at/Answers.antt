use Rattle.std.proofs.Common.{rules, ap, ◌∙◌}
use Rattle.std.specs.List.{slice_get}
use Rattle.records.proofs.Chunks.{symbol_read, symbols_are, made_of_lent}
use Rattle.records.proofs.body.symbol_at.Goals as goal

pub returns : goal.returns
returns c =
    made_of_lent symbol_read c.as_chunks.result.0.now c.args.index c.get.result c.map.result c.get.ensures.lookup (search rules)
    ∙ ap (λ xs. slice_get xs c.args.index) (search (rules, symbols_are))

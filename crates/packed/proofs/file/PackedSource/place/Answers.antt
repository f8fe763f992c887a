use Rattle.std.proofs.Common.{Some, unwrap_or, ap, ◌∙◌}
use Rattle.std.specs.Option.{option_map}
use Rattle.grammar.specs.Grammar.{head_of}
use Rattle.packed.proofs.file.PackedSource.place.Goals as goal

pub returns-in_err-record : goal.returns-in_err-record
returns-in_err-record c = rw c.from_residual.ensures (ap (option_map head_of) c.in_err-record.ensures)

pub returns : goal.returns
returns c =
    let result = c.unwrap_or.ensures ∙ ap (λ o. unwrap_or o 0) c.number_at.ensures in
    let function = c.unwrap_or-2.ensures ∙ ap (λ o. unwrap_or o 0) c.number_at-2.ensures in
    (λ i. Some (record { result = result i; function = function i })) ∙ ap (option_map head_of) c.in_ok-record.ensures

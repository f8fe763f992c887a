use Rattle.std.proofs.Common.{rules, ◌≡◌, suc, Some, None, ap, ◌∙◌, arith}
use Rattle.std.specs.List.{slice_get}
use Rattle.grammar.specs.Grammar.{and_then}
use Rattle.records.specs.Meaning.{symbols_of, constituents_first}
use Rattle.records.specs.Records.{viewed, entries_from}
use Rattle.walk.proofs.Questions.{symbol_there}
use Rattle.packed.proofs.file.PackedSource.symbol.Goals as goal

pub returns-in_err-record : goal.returns-in_err-record
returns-in_err-record c =
    let k : suc c.in_ok-constituent.constituent ≡ c.args.constituent = search rules in
    let j : suc c.in_ok-index.index ≡ c.args.index = search rules in
    rw c.from_residual-in_err-record.ensures
    (symbol_there c.args.self.now.bytes.now c.args.function c.in_ok-constituent.constituent c.in_ok-index.index c.args.constituent c.args.index None k j (omega (arith, k)) c.in_err-record.ensures.value)

pub returns-in_err-symbols : goal.returns-in_err-symbols
returns-in_err-symbols c =
    let k : suc c.in_ok-constituent.constituent ≡ c.args.constituent = search rules in
    let j : suc c.in_ok-index.index ≡ c.args.index = search rules in
    rw c.from_residual-in_err-symbols.ensures
    (ap (λ o. and_then o (λ x. slice_get (symbols_of x) c.in_ok-index.index)) (c.in_err-symbols.ensures ∙ ap (λ o. slice_get (constituents_first (entries_from c.args.self.now.bytes.now o)) c.in_ok-constituent.constituent) c.end.ensures)
    ∙ symbol_there c.args.self.now.bytes.now c.args.function c.in_ok-constituent.constituent c.in_ok-index.index c.args.constituent c.args.index (Some (viewed c.in_ok-record.record)) k j (omega (arith, k)) c.in_ok-record.ensures.value)

pub returns : goal.returns
returns c =
    let k : suc c.in_ok-constituent.constituent ≡ c.args.constituent = search rules in
    let j : suc c.in_ok-index.index ≡ c.args.index = search rules in
    c.symbol_at.ensures
    ∙ ap (λ o. and_then o (λ x. slice_get (symbols_of x) c.in_ok-index.index)) (c.in_ok-symbols.ensures ∙ ap (λ o. slice_get (constituents_first (entries_from c.args.self.now.bytes.now o)) c.in_ok-constituent.constituent) c.end.ensures)
    ∙ symbol_there c.args.self.now.bytes.now c.args.function c.in_ok-constituent.constituent c.in_ok-index.index c.args.constituent c.args.index (Some (viewed c.in_ok-record.record)) k j (omega (arith, k)) c.in_ok-record.ensures.value

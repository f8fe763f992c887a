use Rattle.std.proofs.Common.{◌≡◌, ℕ, ◌+◌, Bool, true, false, cond, is_some, set, sym, ap, ◌∙◌}
use Rattle.cells.specs.declared.Waiting.TheVariants.{Left}
use Rattle.fact_log.specs.Index.{cell_of}
use Rattle.closing.proofs.Pairs.{made_row}
use Rattle.weigh.specs.Numbers.{with_wait}
use Rattle.weigh.proofs.Numbering.{numbered_one}
use Rattle.weigh.proofs.numbers.number_cell.Goals as goal

pub returns-then-is_some : goal.returns-then-is_some
returns-then-is_some c =
    let at = cell_of c.args.cells.now c.args.p in
    let known : true ≡ is_some c.number_of-known.result = sym c.if-is_some.true ∙ c.is_some.ensures in
    numbered_one c.args.cells.now (set c.args.cells.now c.args.p (with_wait at (Left c.unwrap_or.result))) c.args.base c.args.p c.args.count c.args.count c.in-Some.rule c.number_of-known.result
    (made_row at.row c.in-Some.rule c.in-Some.ensures) c.number_of-known.ensures (ap (λ (k : ℕ). set c.args.cells.now c.args.p (with_wait at (Left k))) c.unwrap_or.ensures)
    (ap (λ (b : Bool). cond b c.args.count (c.args.count + 1)) known)

pub returns-else-is_some : goal.returns-else-is_some
returns-else-is_some c =
    let at = cell_of c.args.cells.now c.args.p in
    let fresh : false ≡ is_some c.number_of-known.result = sym c.if-is_some.false ∙ c.is_some.ensures in
    numbered_one c.args.cells.now (set c.args.cells.now c.args.p (with_wait at (Left c.unwrap_or.result))) c.args.base c.args.p c.args.count (c.args.count + 1) c.in-Some.rule c.number_of-known.result
    (made_row at.row c.in-Some.rule c.in-Some.ensures) c.number_of-known.ensures (ap (λ (k : ℕ). set c.args.cells.now c.args.p (with_wait at (Left k))) c.unwrap_or.ensures)
    (ap (λ (b : Bool). cond b c.args.count (c.args.count + 1)) fresh)

use Rattle.std.proofs.Common.{◌≡◌, ℕ, ◌+◌, ◌-◌, ◌^◌, ◌<◌, ◌≤◌, length, sym, ◌∙◌, subst, arith}
use Rattle.fact_log.specs.Index.{order, things, links, Index, Filed}
use Rattle.fact_log.proofs.Buckets.{order_of, index_longer}
use Rattle.fact_log.proofs.index.file_last.Goals as goal

pub file-requires-clause-range : goal.file-requires-clause-range
file-requires-clause-range c =
    let r = c.requires.range in
    let f = order_of (c.args.n - c.args.base) (omega (arith, c.if-base-n.true)) in
    (r.0, r.1, r.2, subst (λ (m : ℕ). c.args.base + 2 ^ m ≤ length c.args.cells.now) (sym c.order-now.ensures.value) (omega (arith, f.0, r.1, r.2)))

pub returns-then-order-now-clause-relinked : goal.returns-then-order-now-clause-relinked
returns-then-order-now-clause-relinked c =
    let n : ℕ = c.args.n in
    let k : ℕ = order (n - c.args.base) in
    let f = order_of (n - c.args.base) (omega (arith, c.if-base-n.true)) in
    let told : (top : ℕ) → n < top → c.args.base + 2 ^ k ≤ top → ((s : ℕ) → s < 5 → Index (things c.args.cells.now s) (links c.args.cells.now s) c.args.base k top n) → Filed c.args.cells.now c.file.new.cells c.args.base k top (n + 1) =
    subst (λ (m : ℕ). (top : ℕ) → n < top → c.args.base + 2 ^ m ≤ top → ((s : ℕ) → s < 5 → Index (things c.args.cells.now s) (links c.args.cells.now s) c.args.base m top n) → Filed c.args.cells.now c.file.new.cells c.args.base m top (n + 1))
    c.order-now.ensures.value c.file.ensures in
    (told (n + 1) (omega arith) (omega (arith, f.0, c.requires.range.1)) (λ s five. index_longer c.args.cells.now s c.args.base n (omega (arith, c.if-base-n.true)) (c.requires.fresh s five) (c.requires.indexed s five))).relinked

pub returns-then-order-now-clause-indexed : goal.returns-then-order-now-clause-indexed
returns-then-order-now-clause-indexed c =
    let n : ℕ = c.args.n in
    let k : ℕ = order (n - c.args.base) in
    let f = order_of (n - c.args.base) (omega (arith, c.if-base-n.true)) in
    let told : (top : ℕ) → n < top → c.args.base + 2 ^ k ≤ top → ((s : ℕ) → s < 5 → Index (things c.args.cells.now s) (links c.args.cells.now s) c.args.base k top n) → Filed c.args.cells.now c.file.new.cells c.args.base k top (n + 1) =
    subst (λ (m : ℕ). (top : ℕ) → n < top → c.args.base + 2 ^ m ≤ top → ((s : ℕ) → s < 5 → Index (things c.args.cells.now s) (links c.args.cells.now s) c.args.base m top n) → Filed c.args.cells.now c.file.new.cells c.args.base m top (n + 1))
    c.order-now.ensures.value c.file.ensures in
    let filed = told (n + 1) (omega arith) (omega (arith, f.0, c.requires.range.1)) (λ s five. index_longer c.args.cells.now s c.args.base n (omega (arith, c.if-base-n.true)) (c.requires.fresh s five) (c.requires.indexed s five)) in
    let same : k ≡ order (n + 1 - c.args.base) = sym c.order-now.ensures.value ∙ (sym c.if-order-now.true ∙ c.order.ensures.value) in
    λ s five. subst (λ (m : ℕ). Index (things c.file.new.cells s) (links c.file.new.cells s) c.args.base m (n + 1) (n + 1)) same (filed.indexed s five)

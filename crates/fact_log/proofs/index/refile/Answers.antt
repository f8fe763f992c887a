use Rattle.std.proofs.Common.{◌≡◌, ℕ, ◌+◌, ◌-◌, ◌^◌, ◌<◌, ◌≤◌, length, sym, subst, arith}
use Rattle.fact_log.specs.Index.{order, things, links, Index, Filed}
use Rattle.fact_log.proofs.Entering.{Unlinking, refiling_first, refiling_next}
use Rattle.fact_log.proofs.Buckets.{order_of}
use Rattle.fact_log.proofs.index.refile.Goals as goal

pub loop-n-init : goal.loop-n-init
loop-n-init c =
    let r = c.requires.range in
    let e : c.loop-p.p ≡ c.args.end = omega (arith, c.loop-p-test.false, c.loop-p.auto.p-end, r.1) in
    refiling_first c.args.cells.now c.loop-p.cells c.args.base (order (c.args.end - c.args.base)) c.args.end r.1 (subst (Unlinking c.args.cells.now c.loop-p.cells c.args.base) e c.loop-p.invariant)

pub file-requires-clause-range : goal.file-requires-clause-range
file-requires-clause-range c =
    let r = c.requires.range in
    let k : ℕ = order (c.args.end - c.args.base) in
    let f = order_of (c.args.end - c.args.base) (omega (arith, c.loop-n.auto.n, c.loop-n-test.true)) in
    let fits : c.args.base + 2 ^ k ≤ c.args.end = omega (arith, f.0, r.1) in
    let size = c.loop-n.invariant.relinked.len in
    (r.0, omega (arith, c.loop-n.auto.n), omega (arith, c.loop-n-test.true, size, r.2), subst (λ (m : ℕ). c.args.base + 2 ^ m ≤ length c.loop-n.cells) (sym c.order-order.ensures.value) (omega (arith, fits, size, r.2)))

pub loop-n-preserved : goal.loop-n-preserved
loop-n-preserved c =
    let r = c.requires.range in
    let k : ℕ = order (c.args.end - c.args.base) in
    let f = order_of (c.args.end - c.args.base) (omega (arith, c.loop-n.auto.n, c.loop-n-test.true)) in
    let fits : c.args.base + 2 ^ k ≤ c.args.end = omega (arith, f.0, r.1) in
    let told : (top : ℕ) → c.loop-n.n < top → c.args.base + 2 ^ k ≤ top → ((s : ℕ) → s < 5 → Index (things c.loop-n.cells s) (links c.loop-n.cells s) c.args.base k top c.loop-n.n) → Filed c.loop-n.cells c.file.new.cells c.args.base k top (c.loop-n.n + 1) =
    subst (λ (m : ℕ). (top : ℕ) → c.loop-n.n < top → c.args.base + 2 ^ m ≤ top → ((s : ℕ) → s < 5 → Index (things c.loop-n.cells s) (links c.loop-n.cells s) c.args.base m top c.loop-n.n) → Filed c.loop-n.cells c.file.new.cells c.args.base m top (c.loop-n.n + 1))
    c.order-order.ensures.value c.file.ensures in
    refiling_next c.args.cells.now c.loop-n.cells c.file.new.cells c.args.base k c.args.end c.loop-n.n c.loop-n.invariant (told c.args.end (omega (arith, c.loop-n-test.true)) fits c.loop-n.invariant.indexed)

pub returns-clause-indexed : goal.returns-clause-indexed
returns-clause-indexed c =
    let e : c.loop-n.n ≡ c.args.end = omega (arith, c.loop-n-test.false, c.loop-n.auto.n-end, c.requires.range.1) in
    λ s five. subst (Index (things c.loop-n.cells s) (links c.loop-n.cells s) c.args.base (order (c.args.end - c.args.base)) c.args.end) e (c.loop-n.invariant.indexed s five)

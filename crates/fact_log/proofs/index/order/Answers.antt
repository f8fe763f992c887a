use Rattle.std.proofs.Common.{ℕ, ◌*◌, ◌^◌, ◌<◌, ◌≤◌, subst}
use Rattle.fact_log.proofs.Buckets.{order_told}
use Rattle.fact_log.proofs.index.order.Goals as goal

pub returns-clause-value : goal.returns-clause-value
returns-clause-value c =
    order_told c.args.facts c.ilog2.result (subst (λ (m : ℕ). 2 ^ c.ilog2.result ≤ m) c.max.ensures c.ilog2.ensures.power_le) (subst (λ (m : ℕ). m < 2 * 2 ^ c.ilog2.result) c.max.ensures c.ilog2.ensures.next_power_gt)

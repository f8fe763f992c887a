use Rattle.std.proofs.Common.{◌≡◌, ℕ, ◌+◌, ◌-◌, ◌^◌, ◌<◌, ap, ◌∙◌, subst}
use Rattle.fact_log.specs.Index.{LastOf, order, bucket, bucket_in, link_in}
use Rattle.fact_log.proofs.Buckets.{head_inside, link_last}
use Rattle.fact_log.proofs.view.Index.last_in_bucket.Goals as goal

pub head-requires : goal.head-requires
head-requires c =
    let x = c.args.self.now in
    let small : c.bucket.result < 2 ^ order (x.end - x.base) = subst (λ (k : ℕ). c.bucket.result < 2 ^ k) c.order.ensures.value c.bucket.ensures.bound in
    head_inside x.base x.end c.bucket.result c.requires.some small

pub returns : goal.returns
returns c =
    let x = c.args.self.now in
    let k : ℕ = order (x.end - x.base) in
    let small : c.bucket.result < 2 ^ k = subst (λ (m : ℕ). c.bucket.result < 2 ^ m) c.order.ensures.value c.bucket.ensures.bound in
    let is : c.bucket.result ≡ bucket k c.args.thing.now = c.bucket.ensures.value ∙ ap (λ (m : ℕ). bucket m c.args.thing.now) c.order.ensures.value in
    subst (λ (b : ℕ). LastOf (bucket_in x) x.base b x.end c.head.result) is
    (link_last (bucket_in x) x.base c.bucket.result x.end (link_in x (x.base + c.bucket.result)).head c.head.result (c.requires.indexed.heads c.bucket.result small (head_inside x.base x.end c.bucket.result c.requires.some small)) c.head.ensures)

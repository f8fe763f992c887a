use Rattle.std.proofs.lemmas.Bool.Decides.{Decides-eqb}
use Rattle.std.proofs.lemmas.Slice.Eq.{starts_is}
use Rattle.steps.proofs.Copying.{copy_same, copy_differs}
use Rattle.steps.proofs.copied.Goals as goal

pub returns-then-starts_with : goal.returns-then-starts_with
returns-then-starts_with c =
    let part = c.in_ok-part.ensures.lookup.0 in
    let rest = c.in_ok-rest.ensures.lookup.0 in
    let starts = starts_is Decides-eqb c.in_ok-rest.rest.now c.in_ok-part.part.now c.starts_with.result c.starts_with.ensures.value in
    copy_same c.args.tokens.now c.args.a c.args.b c.args.k c.in_ok-part.part.now c.in_ok-rest.rest.now part.0 part.1 part.2 rest.0 rest.2 (c.starts_with.ensures.bound c.if-starts_with.true) (starts.0 c.if-starts_with.true)

pub returns-else-starts_with : goal.returns-else-starts_with
returns-else-starts_with c =
    let part = c.in_ok-part.ensures.lookup.0 in
    let rest = c.in_ok-rest.ensures.lookup.0 in
    let starts = starts_is Decides-eqb c.in_ok-rest.rest.now c.in_ok-part.part.now c.starts_with.result c.starts_with.ensures.value in
    copy_differs c.args.tokens.now c.args.a c.args.b c.args.k c.in_ok-part.part.now c.in_ok-rest.rest.now part.2 rest.2 (λ more e. let t = starts.1 more e in let f = c.if-starts_with.false in cc)

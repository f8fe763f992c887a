use Rattle.std.proofs.Common.{◌≡◌, rules, tests, ltb, get_or, sym, subst}
use Rattle.soundness.specs.Dead.{TreeTold}
use Rattle.soundness.proofs.Useless.{told_at}
use Rattle.soundness.proofs.dead.has_tree.Goals as goal

pub returns-clause-told : goal.returns-clause-told
returns-clause-told c = λ g h.
    let value : c.is_some_and.result ≡ ltb 0 (get_or c.args.heights.now c.args.category 0) = search (rules, tests) in
    subst (TreeTold g c.args.category) (sym value) (told_at g c.args.category c.args.heights.now h)

use Rattle.std.proofs.Common.{ℕ, suc, ◌+◌, ap, ◌∙◌, refl, length, add-one}
use Rattle.std.proofs.lemmas.Option.{slice_get_read}
use Rattle.chart.specs.Chart.{item}
use Rattle.cells.specs.Facts.{rule_of}
use Rattle.steps.proofs.Copying.{token_scanned}
use Rattle.steps.proofs.scanned.Goals as goal

pub returns : goal.returns
returns c =
    token_scanned c.args.tokens.now c.args.x _ c.args.t c.in_ok-next.field-0.now _ (slice_get_read c.args.tokens.now (length c.args.tokens.now) c.args.x.end c.in_ok-next.field-0.now refl c.in_ok-next.ensures.lookup.3.0 c.in_ok-next.ensures.lookup.1)
    (ap (λ (i : ℕ). item (rule_of c.args.x.rule) c.args.x.constituent c.args.x.start i (c.args.x.end + 1)) (add-one c.args.x.dot)
    ∙ ap (item (rule_of c.args.x.rule) c.args.x.constituent c.args.x.start (suc c.args.x.dot)) (add-one c.args.x.end))
    c.then_some.ensures

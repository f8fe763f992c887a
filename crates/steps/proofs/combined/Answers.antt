use Rattle.std.proofs.Common.{◌≡◌, ℕ, ◌+◌, List, map, ap, ◌∙◌, add-one}
use Rattle.chart.specs.Chart as chart
use Rattle.chart.specs.Chart.{put, item, with_argument}
use Rattle.cells.specs.Facts.{list_of, phrase_of}
use Rattle.steps.proofs.Bridge.{map_put}
use Rattle.steps.proofs.combined.Goals as goal

pub returns : goal.returns
returns c =
    let e : map phrase_of (list_of c.with-arguments.result) ≡ put (map phrase_of (list_of c.args.x.rule.arguments)) c.args.d (phrase_of c.args.phrase) =
    ap (map phrase_of) c.with-arguments.ensures ∙ map_put phrase_of (list_of c.args.x.rule.arguments) c.args.d c.args.phrase in
    let fact : List chart.Phrase → ℕ → chart.Fact =
    λ xs i. item (record { left = phrase_of c.args.x.rule.left; place = c.args.x.rule.place; arguments = xs }) c.args.x.constituent c.args.x.start i c.args.end in
    ap (λ (xs : List chart.Phrase). fact xs (c.args.x.dot + 1)) e ∙ ap (fact (put (map phrase_of (list_of c.args.x.rule.arguments)) c.args.d (phrase_of c.args.phrase))) (add-one c.args.x.dot)

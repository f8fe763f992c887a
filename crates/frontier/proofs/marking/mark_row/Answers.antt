use Rattle.frontier.specs.Marks.{RowOffers}
use Rattle.frontier.proofs.Chains.{only_none, only_set}
use Rattle.frontier.proofs.marking.mark_row.Goals as goal

pub returns-in_default : goal.returns-in_default
returns-in_default g c = only_none (RowOffers (g.S.Source.meaning c.args.source.now) c.args.tokens.now c.args.row) c.args.marks.now c.in_default.ensures

pub returns-then-at-marks : goal.returns-then-at-marks
returns-then-at-marks g c =
    only_set (RowOffers (g.S.Source.meaning c.args.source.now) c.args.tokens.now c.args.row) c.args.marks.now c.in-Some.token c.if-at-marks.true c.in-Some.ensures

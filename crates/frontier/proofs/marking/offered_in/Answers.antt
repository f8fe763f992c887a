use Rattle.closing.proofs.Pairs.{item_row}
use Rattle.frontier.proofs.Chains.{row_offered}
use Rattle.frontier.proofs.marking.offered_in.Goals as goal

pub returns : goal.returns
returns g c =
    row_offered (g.S.Source.meaning c.args.source.now) c.args.tokens.now c.args.row c.in_ok-item_in.field-0 c.offered.result (item_row c.args.row c.in_ok-item_in.field-0 c.in_ok-item_in.ensures) c.offered.ensures

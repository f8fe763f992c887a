use Rattle.area_tests.proofs.Opened.{opened_held}
use Rattle.area_tests.proofs.told_after.Goals as goal

pub returns : goal.returns
returns g c =
    let m = g.S.Source.meaning c.args.source.now in
    c.is_complete-complete.ensures m c.args.tokens.now (c.in_ok-numbers.ensures m (opened_held m c.open_area.new.cells c.open_area.result c.in_ok-opened.opened c.in_ok-opened.ensures.value c.open_area.ensures))

use Rattle.std.proofs.Common.{Ok, ap, ◌∙◌}
use Rattle.table.specs.Table.{table_meaning}
use Rattle.sources_tests.specs.Empty.{first_empty}
use Rattle.sources_tests.proofs.Pile.{pile_means, pile_empty}
use Rattle.sources_tests.proofs.first_empty_of_pile.Goals as goal

pub returns : goal.returns
returns c =
    ap Ok (c.first_empty_place.ensures
    ∙ (ap (λ g. first_empty 0 g.places)
    (pile_means table_meaning c.two_places.result 1 (record { category = 0; token = 1 }) _ _ _ _ c.over-strike.ensures c.in_ok-mark.ensures
    c.over-pile.ensures.0 c.over-pile.ensures.1 c.in_ok-add.ensures)
    ∙ pile_empty (table_meaning c.two_places.result) c.two_places.ensures))

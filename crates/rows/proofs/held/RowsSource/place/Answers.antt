use Rattle.rows.specs.Meaning.{cells_of}
use Rattle.rows.proofs.Reading.{place_via}
use Rattle.rows.proofs.held.RowsSource.place.Goals as goal

pub returns : goal.returns
returns c =
    place_via (cells_of c.args.self.now) c.args.self.now.counts c.args.place c.place_row.result c.map.result c.place_row.ensures
    c.map.ensures.cases

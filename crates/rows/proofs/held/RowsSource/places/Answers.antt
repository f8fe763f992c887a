use Rattle.std.proofs.Common.{sym}
use Rattle.rows.specs.Meaning.{cells_of, place_read, place_part}
use Rattle.rows.proofs.Reading.{length_read}
use Rattle.rows.proofs.held.RowsSource.places.Goals as goal

pub returns : goal.returns
returns c = let s = cells_of c.args.self.now in sym (length_read (place_read s) s (place_part c.args.self.now.counts).first _)

use Rattle.std.proofs.Common.{sym}
use Rattle.rows.specs.Sorts.{dimension_in}
use Rattle.rows.specs.Meaning.{cells_of}
use Rattle.rows.proofs.Reading.{length_read}
use Rattle.rows.proofs.held.RowsSource.categories.Goals as goal

pub returns : goal.returns
returns c = sym (length_read dimension_in (cells_of c.args.self.now) 0 _)

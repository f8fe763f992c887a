use Rattle.std.proofs.Common.{sym}
use Rattle.rows.specs.Meaning.{cells_of, function_read}
use Rattle.rows.proofs.Reading.{length_read}
use Rattle.rows.proofs.held.RowsSource.functions.Goals as goal

pub returns : goal.returns
returns c = let s = cells_of c.args.self.now in sym (length_read (function_read s) s c.args.self.now.counts.categories _)

use Rattle.std.proofs.Common.{◌∙◌}
use Rattle.rows.specs.Meaning.{cells_of}
use Rattle.rows.proofs.Reading.{row_counted}
use Rattle.rows.proofs.held.Rows.row_in.Goals as goal

pub returns : goal.returns
returns c = c.then_some.ensures ∙ row_counted (cells_of c.args.self.now) c.args.part c.args.i c.row_after.result c.row_after.ensures

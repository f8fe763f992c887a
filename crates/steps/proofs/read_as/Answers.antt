use Rattle.steps.proofs.Reading.{whole_read}
use Rattle.steps.proofs.read_as.Goals as goal

pub returns : goal.returns
returns c = whole_read c.args.x c.with.result c.args.s c.args.start c.args.end c.with.ensures

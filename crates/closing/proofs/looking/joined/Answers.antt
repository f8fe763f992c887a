use Rattle.std.proofs.Common.{arith}
use Rattle.closing.proofs.Waiting.{joined_idle, joined_far}
use Rattle.closing.proofs.looking.joined.Goals as goal

pub returns-in_default : goal.returns-in_default
returns-in_default c = joined_idle c.args.x c.args.wait c.args.made c.in_default.not-Part

pub returns-then-x-ge-SYMBOLS : goal.returns-then-x-ge-SYMBOLS
returns-then-x-ge-SYMBOLS c = joined_far c.args.x c.args.wait c.in-Part.d c.in-Part.s c.args.made c.in-Part.is (omega arith)

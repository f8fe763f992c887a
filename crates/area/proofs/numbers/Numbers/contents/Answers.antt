use Rattle.std.proofs.Common.{refl}
use Rattle.area.proofs.numbers.Numbers.contents.Goals as goal

pub returns : goal.returns
returns c = λ g w h. record { cells = refl; numbers = refl; source = c.source.ensures g w h; tokens = c.tokens.ensures g w h }

use Rattle.area.proofs.Single.{more_in_use}
use Rattle.area.proofs.theorems.too_short_is_counted.Goals as goal

pub returns : goal.returns
returns c = more_in_use

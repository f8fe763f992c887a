use Rattle.chart.proofs.accepted_is_sound.Goals as goal
use Rattle.chart.proofs.Faultless.{faultless_sound}

pub returns : goal.returns
returns c = faultless_sound

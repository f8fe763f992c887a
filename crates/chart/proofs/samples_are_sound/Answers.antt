use Rattle.std.proofs.Common.{refl}
use Rattle.chart.proofs.samples_are_sound.Goals as goal
use Rattle.chart.specs.Samples.{grammar_k, grammar_d, grammar_e, grammar_p}
use Rattle.chart.proofs.Checking.{sound?, passed}

pub returns : goal.returns
returns c = (passed (sound? grammar_k) refl, passed (sound? grammar_d) refl, passed (sound? grammar_e) refl, passed (sound? grammar_p) refl)

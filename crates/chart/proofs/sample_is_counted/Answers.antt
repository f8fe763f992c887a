use Rattle.std.proofs.Common.{refl}
use Rattle.chart.proofs.sample_is_counted.Goals as goal
use Rattle.chart.specs.Samples.{grammar_e}
use Rattle.chart.proofs.Checking.{sound?, passed}
use Rattle.chart.proofs.SampleFacts.{facts_listed, cells_16, bound_2, trees_5}

pub returns : goal.returns
returns c = (facts_listed, cells_16, bound_2, trees_5 (passed (sound? grammar_e) refl), refl, refl)

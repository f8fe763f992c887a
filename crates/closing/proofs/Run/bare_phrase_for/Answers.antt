use Rattle.std.proofs.Common.{◌≡◌, sym, subst}
use Rattle.grammar.specs.Grammar.{Grammar}
use Rattle.faults.specs.Sound.{Sound}
use Rattle.chart.specs.Chart.{bare}
use Rattle.cells.specs.Facts.{phrase_of}
use Rattle.closing.proofs.Run.bare_phrase_for.Goals as goal

pub bare_phrase-requires : goal.bare_phrase-requires
bare_phrase-requires c = subst (λ (g : Grammar). Sound g) (sym c.rows_in-source.ensures.meant) c.requires.sound

pub returns : goal.returns
returns c = subst (λ (g : Grammar). phrase_of c.bare_phrase.result ≡ bare g c.args.category) c.rows_in-source.ensures.meant c.bare_phrase.ensures

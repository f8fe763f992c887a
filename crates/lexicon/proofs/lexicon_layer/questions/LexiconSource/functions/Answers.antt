use Rattle.std.proofs.Common.{sym, ◌∙◌}
use Rattle.std.proofs.lemmas.List.{length-map}
use Rattle.lexicon.proofs.Words.{length_both}
use Rattle.lexicon.proofs.lexicon_layer.questions.LexiconSource.functions.Goals as goal

pub returns : goal.returns
returns g c =
    length_both _ _ c.functions.result c.count.result c.saturating_add.result c.functions.ensures
    (length-map _ _ ∙ sym c.count.ensures) c.saturating_add.ensures

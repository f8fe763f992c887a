use Rattle.std.proofs.Common.{sym, ◌∙◌}
use Rattle.std.proofs.lemmas.List.{length-map}
use Rattle.lexicon.proofs.Words.{length_both, length_words}
use Rattle.lexicon.proofs.lexicon_layer.questions.LexiconSource.places.Goals as goal

pub returns : goal.returns
returns g c =
    length_both _ _ c.places.result c.count.result c.saturating_add.result (c.places.ensures ∙ sym (length-map _ _))
    (length_words _ _ ∙ sym c.count.ensures) c.saturating_add.ensures

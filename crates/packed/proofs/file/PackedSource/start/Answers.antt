use Rattle.records.specs.Meaning.{grammar_of}
use Rattle.packed.proofs.file.PackedSource.start.Goals as goal

pub returns : goal.returns
unfolding grammar_of
returns c = c.head_number.ensures

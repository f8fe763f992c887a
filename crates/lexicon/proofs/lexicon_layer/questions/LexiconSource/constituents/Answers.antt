use Rattle.std.proofs.Common.{length, Some, None, arith, ◌∙◌}
use Rattle.std.specs.Option.{option_map}
use Rattle.lexicon.specs.Lexicon.{entries_of}
use Rattle.lexicon.proofs.Words.{function_added}
use Rattle.lexicon.proofs.lexicon_layer.questions.LexiconSource.constituents.Goals as goal

pub returns-in-Some : goal.returns-in-Some
returns-in-Some g c =
    function_added (option_map (λ h. length h.constituents)) (entries_of c.args.self.now) (g.S.Source.meaning c.args.self.now.source) c.args.function c.functions.result (Some c.in-Some.field-0)
    c.functions.ensures (omega arith) c.in-Some.ensures

pub returns-in-None : goal.returns-in-None
returns-in-None g c =
    c.constituents.ensures
    ∙ function_added (option_map (λ h. length h.constituents)) (entries_of c.args.self.now) (g.S.Source.meaning c.args.self.now.source) c.args.function c.functions.result None
    c.functions.ensures (omega arith) c.in-None.ensures

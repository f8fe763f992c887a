use Rattle.std.proofs.Common.{Some, None, arith, ◌∙◌}
use Rattle.grammar.specs.Grammar.{and_then, from_one}
use Rattle.lexicon.specs.Lexicon.{entries_of}
use Rattle.lexicon.proofs.Words.{function_added}
use Rattle.lexicon.proofs.lexicon_layer.questions.LexiconSource.symbol.Goals as goal

pub returns-in-Some : goal.returns-in-Some
returns-in-Some g c =
    c.word_symbol.ensures
    ∙ function_added (λ o. and_then (and_then o (λ h. from_one h.constituents c.args.constituent)) (λ s. from_one s c.args.index))
    (entries_of c.args.self.now) (g.S.Source.meaning c.args.self.now.source) c.args.function c.functions.result (Some c.in-Some.entry)
    c.functions.ensures (omega arith) c.in-Some.ensures

pub returns-in-None : goal.returns-in-None
returns-in-None g c =
    c.symbol.ensures
    ∙ function_added (λ o. and_then (and_then o (λ h. from_one h.constituents c.args.constituent)) (λ s. from_one s c.args.index))
    (entries_of c.args.self.now) (g.S.Source.meaning c.args.self.now.source) c.args.function c.functions.result None
    c.functions.ensures (omega arith) c.in-None.ensures

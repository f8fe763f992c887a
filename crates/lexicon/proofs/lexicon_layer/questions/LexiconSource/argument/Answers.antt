use Rattle.std.proofs.Common.{length, Some, None, arith, ◌∙◌}
use Rattle.grammar.specs.Grammar.{and_then, from_one, production_at}
use Rattle.lexicon.specs.Lexicon.{entries_of}
use Rattle.lexicon.proofs.Words.{production_added, no_argument, kept_argument}
use Rattle.lexicon.proofs.lexicon_layer.questions.LexiconSource.argument.Goals as goal

pub returns-in-Some : goal.returns-in-Some
returns-in-Some g c =
    no_argument c.args.index
    ∙ production_added (λ o. and_then o (λ q. from_one q.arguments c.args.index))
    (entries_of c.args.self.now) (g.S.Source.meaning c.args.self.now.source) c.args.place c.places.result (Some c.in-Some.field-0)
    c.places.ensures (omega arith) c.in-Some.ensures

pub returns-in-None : goal.returns-in-None
returns-in-None g c =
    c.argument.ensures
    ∙ (kept_argument (length (g.S.Source.meaning c.args.self.now.source).functions) (production_at (g.S.Source.meaning c.args.self.now.source) c.args.place) c.args.index
    ∙ production_added (λ o. and_then o (λ q. from_one q.arguments c.args.index))
    (entries_of c.args.self.now) (g.S.Source.meaning c.args.self.now.source) c.args.place c.places.result None
    c.places.ensures (omega arith) c.in-None.ensures)

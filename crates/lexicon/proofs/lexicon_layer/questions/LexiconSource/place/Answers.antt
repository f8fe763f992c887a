use Rattle.std.proofs.Common.{rules, tests, length, Some, None, arith, ap, ◌∙◌}
use Rattle.std.specs.Option.{option_map}
use Rattle.grammar.specs.Grammar.{head_of, production_at}
use Rattle.lexicon.specs.Lexicon.{entries_of, kept_head}
use Rattle.lexicon.proofs.Words.{production_added, mapped_answer, kept_head_lem, word_head}
use Rattle.lexicon.proofs.lexicon_layer.questions.LexiconSource.place.Goals as goal

pub returns-in-Some : goal.returns-in-Some
returns-in-Some g c =
    word_head c.in-Some.entry c.args.place
    (length (g.S.Source.meaning c.args.self.now.source).functions) (length (g.S.Source.meaning c.args.self.now.source).places)
    c.functions-functions.result c.places-places.result c.saturating_add.result
    c.saturating_add.ensures c.functions-functions.ensures c.places-places.ensures
    ∙ production_added (option_map head_of)
    (entries_of c.args.self.now) (g.S.Source.meaning c.args.self.now.source) c.args.place c.places-places.result (Some c.in-Some.entry)
    c.places-places.ensures (omega arith) c.in-Some.ensures

pub returns-in-None : goal.returns-in-None
returns-in-None g c =
    mapped_answer (kept_head c.functions-functions.result) c.place.result c.map.result c.map.ensures.cases (λ x y k. search (rules, tests))
    ∙ (ap (λ n. option_map (kept_head n) c.place.result) c.functions-functions.ensures
    ∙ (ap (option_map (kept_head (length (g.S.Source.meaning c.args.self.now.source).functions))) c.place.ensures
    ∙ (kept_head_lem (length (g.S.Source.meaning c.args.self.now.source).functions) (production_at (g.S.Source.meaning c.args.self.now.source) c.args.place)
    ∙ production_added (option_map head_of)
    (entries_of c.args.self.now) (g.S.Source.meaning c.args.self.now.source) c.args.place c.places-places.result None
    c.places-places.ensures (omega arith) c.in-None.ensures)))

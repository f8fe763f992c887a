-- What a pile of two layers means: one place is emptied, and one word is added. Assumes nothing.
use Rattle.std.proofs.Common.{◌≡◌, ℕ, [], Some, ap, ◌∙◌}
use Rattle.grammar.specs.Grammar.{Grammar}
use Rattle.lexicon.specs.declared.lexicon_layer.Entry.{Entry}
use Rattle.lexicon.specs.declared.lexicon_layer.Lexicon.{Lexicon}
use Rattle.strike.specs.declared.strike_layer.Strike.{Strike}
use Rattle.strike.specs.Strike.{strike_meaning, emptied, Unmarked, Marked}
use Rattle.lexicon.specs.Lexicon.{lexicon_meaning, entries_of, with_words, with_word, Added}
use Rattle.sources_tests.specs.Empty.{first_empty, two_places}

pub pile_means : {S : Type 0} (below : S → Grammar) (t : S) (p : ℕ) (e : Entry) (s₀ s₁ : Strike S) (l₀ l₁ : Lexicon (Strike S))
    → Unmarked below t s₀ → Marked below p s₀ s₁ → l₀.source ≡ s₁ → entries_of l₀ ≡ [] → Added (strike_meaning below) e l₀ l₁
    → lexicon_meaning (strike_meaning below) l₁ ≡ with_word e (with_words [] (emptied p (below t)))
pile_means below t p e s₀ s₁ l₀ l₁ unmarked marked over none added =
    added.means
    ∙ ap (with_word e)
    (ap (λ es. with_words es (strike_meaning below l₀.source)) none
    ∙ ap (with_words []) (ap (strike_meaning below) over ∙ (marked.means ∙ ap (emptied p) unmarked.means)))

pub pile_empty : (g : Grammar) → g ≡ two_places
    → first_empty 0 (with_word (record { category = 0; token = 1 }) (with_words [] (emptied 1 g))).places ≡ Some 1
pile_empty g e = ap (λ h. first_empty 0 (with_word (record { category = 0; token = 1 }) (with_words [] (emptied 1 h))).places) e

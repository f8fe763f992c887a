-- What the lexicon layer means, and what adding an entry does. Assumes nothing.
use Rattle.std.specs.Prelude.{◌≡◌, ℕ, suc, ◌-◌, ◌<◌, min, cond, List, [], ◌∷◌, ◌++◌, map, length, Some, None, Option, nat_lt}
use Rattle.std.specs.Option.{option_map}
use Rattle.std.specs.List.{slice_get}
use Rattle.grammar.specs.declared.Place.{Place}
use Rattle.grammar.specs.declared.Symbol.TheVariants.{Token}
use Rattle.grammar.specs.Grammar.{Grammar, Function, Production}
use Rattle.lexicon.specs.declared.lexicon_layer.Entry.{Entry}
use Rattle.lexicon.specs.declared.lexicon_layer.Lexicon.{Lexicon}
use Rattle.table.specs.Rows.{stopped}

-- The function of an entry takes no arguments, and its one constituent is the entry's token.
abbrev pub word_function : Entry → Function
word_function e = record { arity = 0; constituents = (Token e.token ∷ []) ∷ [] }

-- The production of an entry whose function is the one at `function`, or 4,294,967,295 where that was left out for length.
abbrev pub word_production : ℕ → Entry → Production
word_production function e = record { result = e.category; function = min function 4294967295; arguments = [] }

-- The places of the entries, whose functions are those from `next` on.
abbrev pub word_places : ℕ → List Entry → List (Option Production)
word_places next [] = []
word_places next (e ∷ es) = Some (word_production next e) ∷ word_places (suc next) es

-- A function number that stands below, where there are so many functions: one that names none of them is answered as
-- 4,294,967,295, so that it does not come to name the function of an entry.
abbrev pub kept_number : ℕ → ℕ → ℕ
kept_number functions function = cond (nat_lt function functions) function 4294967295

-- A production of the source below, and the same without its arguments.
abbrev pub kept : ℕ → Production → Production
kept functions q = record { result = q.result; function = kept_number functions q.function; arguments = q.arguments }

abbrev pub kept_head : ℕ → Place → Place
kept_head functions q = record { result = q.result; function = kept_number functions q.function }

abbrev pub with_lists : Grammar → List Function → List (Option Production) → Grammar
with_lists g functions places =
    record { tokens = g.tokens; start = g.start; dimensions = g.dimensions; functions = functions; places = places }

-- The functions and the places of the entries come after those below, in the order of the entries.
abbrev pub with_words : List Entry → Grammar → Grammar
with_words entries g =
    with_lists g (stopped (g.functions ++ map word_function entries))
    (stopped (map (option_map (kept (length g.functions))) g.places ++ word_places (length g.functions) entries))

-- The entries that were added.
abbrev pub entries_of : {S : Type 0} → Lexicon S → List Entry
entries_of s = s.entries.items

-- The meaning of the layer, where a source means what `below` says.
abbrev pub lexicon_meaning : {S : Type 0} → (S → Grammar) → Lexicon S → Grammar
lexicon_meaning below s = with_words (entries_of s) (below s.source)

-- The grammar with one more function, and one more place that uses it, for an entry.
abbrev pub with_word : Entry → Grammar → Grammar
with_word e g =
    with_lists g (stopped (g.functions ++ word_function e ∷ []))
    (stopped (g.places ++ Some (record { result = e.category; function = length g.functions; arguments = [] }) ∷ []))

-- An entry was added: the layer s became t.
pub record Added {S : Type 0} (below : S → Grammar) (e : Entry) (s t : Lexicon S) : Type 0 where
  pub room : length (entries_of s) < 64
  pub over : t.source ≡ s.source
  pub entries : entries_of t ≡ entries_of s ++ e ∷ []
  pub means : lexicon_meaning below t ≡ with_word e (lexicon_meaning below s)

-- What stands at `number` of a list of `below` other things and then xs, which stops at 4,294,967,295 entries, if it is
-- one of xs.
abbrev pub added_at : {X : Type 0} → ℕ → List X → ℕ → Option X
added_at below xs number = cond (nat_lt number below) None (cond (nat_lt number 4294967295) (slice_get xs (number - below)) None)

-- The whole chart of a small grammar, the empty string doubled any number of times, at no tokens. Assumes nothing.
use Rattle.std.specs.Prelude.{◌≡◌, List, [], ◌∷◌, length}
use Rattle.grammar.specs.Trees.{Tree}
use Rattle.chart.specs.Chart.{unread, read, Phrase, Rule, Fact, made, item, Chart, Enumerates, grammar_cells, CellsInUse, Bound}
use Rattle.chart.specs.Samples.{grammar_k, grammar_d, grammar_e}
use Rattle.chart.specs.Sums.{TreeUpTo}

-- The start phrase, bare and read.
abbrev pub bare_s : Phrase
bare_s = record { category = 0; readings = unread ∷ [] }

abbrev pub read_s : Phrase
read_s = record { category = 0; readings = read 0 0 ∷ [] }

-- Place 0 makes X of Y, and place 1 makes X of nothing.
abbrev pub doubled : Phrase → Phrase → Rule
doubled X Y = record { left = X; place = 0; arguments = Y ∷ [] }

abbrev pub empty : Phrase → Rule
empty X = record { left = X; place = 1; arguments = [] }

abbrev pub chart_e : List Fact
chart_e =
    item (doubled bare_s bare_s) 1 0 0 0
    ∷ item (empty bare_s) 1 0 0 0
    ∷ made (empty read_s)
    ∷ item (doubled bare_s read_s) 1 0 1 0
    ∷ item (doubled bare_s read_s) 1 0 2 0
    ∷ made (doubled read_s read_s)
    ∷ []

-- These are the facts of the chart; so 16 cells are in use, the bound on heights is 2, and 5 start trees of height at
-- most 5 have no token. And the cells of two larger grammars: categories, functions, constituents, symbols, places and
-- arguments are 2 + 3 + 7 + 9 + 3 + 2, and 2 + 4 + 4 + 8 + 4 + 3.
abbrev pub SampleChart : Type 0
SampleChart = Enumerates (Chart grammar_e []) chart_e × CellsInUse grammar_e [] 16 × Bound grammar_e [] 2
    × ((ts : List Tree) → Enumerates (TreeUpTo grammar_e [] 5) ts → length ts ≡ 5)
    × (grammar_cells grammar_k ≡ 26) × (grammar_cells grammar_d ≡ 25)

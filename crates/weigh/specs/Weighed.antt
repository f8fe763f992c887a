-- Working values for the phrases of a chart: which value is which phrase's, and the sums that they hold. Assumes nothing.
use Rattle.std.specs.Prelude.{◌≡◌, ℕ, suc, ◌+◌, ◌<◌, ◌≤◌, Bool, true, false, ◌&&◌, ◌⊎◌, List, [], ◌++◌, map, length, drop, replicate, Some, slice_index, slice_set}
use Rattle.std.specs.List.{slice_get}
use Rattle.algebra.specs.Sums.{sum_of}
use Rattle.grammar.specs.Grammar.{Grammar, Production}
use Rattle.faults.specs.Sound.{Sound}
use Rattle.grammar.specs.Trees.{Tree}
use Rattle.chart.specs.Chart.{Phrase, Rule, RuleOf, Live, Made, bare, Enumerates, start_read}
use Rattle.chart.specs.Sums.{rule_value, rules_for, value_after, bare_rules, LivePlace, TreeUpTo, tree_product}
use Rattle.cells.specs.declared.Cell.{Cell}
use Rattle.cells.specs.declared.Span.{Span}
use Rattle.cells.specs.declared.Span.TheVariants.{Unread, Read}
use Rattle.cells.specs.declared.Short.{Short}
use Rattle.cells.specs.declared.Short.TheVariants.{Nil, One, Two, Three}
use Rattle.cells.specs.declared.Phrase as cell
use Rattle.cells.specs.declared.Rule as cells
use Rattle.cells.specs.Facts.{phrase_of, rule_of}
use Rattle.fact_log.specs.Index.{cell_of}
use Rattle.closing.specs.State.{State, Whole}
use Rattle.weigh.specs.declared.table.Table.{Table}
use Rattle.weigh.specs.declared.table.Weighing.{Weighing}
use Rattle.weigh.specs.Numbers.{Numbered}

-- The cells hold the whole chart of w, with the left sides of its made rules numbered.
pub record Ready (g : Grammar) (w : List ℕ) (cs : List Cell) (t : Table) (phrases : List Phrase) : Type 0 where
  pub sound : Sound g
  pub limit : ℕ
  pub state : State g w cs t.base t.end limit
  pub whole : Whole g w cs t.base t.end
  pub numbered : Numbered g w cs t.base t.end phrases
  pub categories : t.categories ≡ length g.dimensions
  pub total : t.phrases ≡ length phrases

-- How many working values a row has: one for each category, as a bare phrase, and one for each left side of a made rule.
abbrev pub width : Table → ℕ
width t = t.categories + t.phrases

-- Both rows are there.
abbrev pub TwoRows : Table → List ℕ → Type 0
TwoRows t work = width t + width t ≤ length work

-- The cell is one of the table's.
abbrev pub StandsIn : List Cell → Table → Cell → Type 0
StandsIn cs t c = (p : ℕ) × (t.base ≤ p) × (p < t.end) × (cell_of cs p ≡ c)

-- The phrase is bare, or the left side of a made rule.
abbrev pub Known : Grammar → List ℕ → Phrase → Type 0
Known g w X = ((c : ℕ) × (c < length g.dimensions) × (X ≡ bare g c)) ⊎ Made g w X

-- The phrase has the working value i of a row.
abbrev pub IndexOf : Grammar → List Phrase → Phrase → ℕ → Type 0
IndexOf g phrases X i = ((i < length g.dimensions) × (X ≡ bare g i)) ⊎ ((k : ℕ) × (slice_get phrases k ≡ Some X) × (i ≡ length g.dimensions + k))

-- Nothing is read.
abbrev pub is_unread : Span → Bool
is_unread Unread = true
is_unread (Read a b) = false

abbrev pub all_unread : Short Span → Bool
all_unread Nil = true
all_unread (One a) = is_unread a
all_unread (Two a b) = is_unread a && is_unread b
all_unread (Three a b c) = (is_unread a && is_unread b) && is_unread c

-- The first row of the working values has what f says of each phrase; and so the second.
abbrev pub First : {A : Type 0} → (ℕ → A) → Grammar → List Phrase → List ℕ → (Phrase → A) → Type 0
First reads g phrases work f = (X : Phrase) (i : ℕ) → IndexOf g phrases X i → reads (slice_index work i) ≡ f X

abbrev pub Second : {A : Type 0} → (ℕ → A) → Grammar → List Phrase → ℕ → List ℕ → (Phrase → A) → Type 0
Second reads g phrases q work f = (X : Phrase) (i : ℕ) → IndexOf g phrases X i → reads (slice_index work (q + i)) ≡ f X

-- Each place's weight.
abbrev pub weight_in : {A : Type 0} → (ℕ → A) → List ℕ → ℕ → A
weight_in reads weights p = reads (slice_index weights p)

-- The sum over those of the rules that have X on their left.
abbrev pub sum_for : {A : Type 0} → A → (A → A → A) → (A → A → A) → (ℕ → A) → (Phrase → A) → List Rule → Phrase → A
sum_for nought plus times weight f rules X = sum_of nought plus (map (rule_value times weight f) (rules_for X rules))

-- The first row is as f says, and the second has for each phrase the sum over those of the rules that have it on their left.
pub record Summed {A : Type 0} (nought : A) (plus times : A → A → A) (reads : ℕ → A) (g : Grammar) (phrases : List Phrase) (weights : List ℕ) (q : ℕ) (f : Phrase → A) (work : List ℕ) (rules : List Rule) : Type 0 where
  pub first : First reads g phrases work f
  pub second : Second reads g phrases q work (sum_for nought plus times (weight_in reads weights) f rules)

-- The working values past both rows are as they were.
abbrev pub Past : ℕ → List ℕ → List ℕ → Type 0
Past q before after = (j : ℕ) → q + q ≤ j → slice_index after j ≡ slice_index before j

-- Place p is live, and its result comes before c; or it is c, and p comes before m.
abbrev pub LiveBefore : Grammar → ℕ → ℕ → ℕ → Type 0
LiveBefore g c m p = (q : Production) × Live g p q × ((q.result < c) ⊎ ((q.result ≡ c) × (p < m)))

-- The cells are ready for some note of this grammar.
abbrev pub ReadyFor : Grammar → List Cell → Table → Type 0
ReadyFor g cs t = (w : List ℕ) × (phrases : List Phrase) × Ready g w cs t phrases

-- And there is a weight for each place.
abbrev pub ReadyToWeigh : {S : Type 0} → Grammar → Weighing S → Type 0
ReadyToWeigh g x = ReadyFor g x.chart.now.cells.now x.table × (length g.places ≤ length x.weights.now)

-- The cells are ready, and the phrase is one that has a working value; or, with a weight for each place, the rule is one of the chart.
abbrev pub ReadyPhrase : List Cell → Table → cell.Phrase → Type 0
ReadyPhrase cs t X = (g : Grammar) × (w : List ℕ) × (phrases : List Phrase) × Ready g w cs t phrases × Known g w (phrase_of X)

abbrev pub ReadyRule : List Cell → Table → List ℕ → cells.Rule → Type 0
ReadyRule cs t weights r = (g : Grammar) × (w : List ℕ) × (phrases : List Phrase) × Ready g w cs t phrases × RuleOf g w (rule_of r) × (length g.places ≤ length weights)

abbrev pub ReadyCells : List Cell → Table → List ℕ → Type 0
ReadyCells cs t weights = (g : Grammar) × (w : List ℕ) × (phrases : List Phrase) × Ready g w cs t phrases × (length g.places ≤ length weights)

-- i is the index of the phrase.
abbrev pub Indexed : List Cell → Table → cell.Phrase → ℕ → Type 0
Indexed cs t X i = (g : Grammar) (w : List ℕ) (phrases : List Phrase) → Ready g w cs t phrases → Known g w (phrase_of X) → IndexOf g phrases (phrase_of X) i

-- v is what the first row has for the phrase; or, with the weight of its place, for the rule.
abbrev pub ArgumentIs : {A : Type 0} → (ℕ → A) → List Cell → Table → List ℕ → cell.Phrase → A → Type 0
ArgumentIs {A} reads cs t work X v =
    (g : Grammar) (w : List ℕ) (phrases : List Phrase) (f : Phrase → A) → Ready g w cs t phrases → Known g w (phrase_of X) → First reads g phrases work f → v ≡ f (phrase_of X)

abbrev pub ProductIs : {A : Type 0} → (A → A → A) → (ℕ → A) → List Cell → Table → List ℕ → List ℕ → cells.Rule → A → Type 0
ProductIs {A} times reads cs t weights work r v =
    (g : Grammar) (w : List ℕ) (phrases : List Phrase) (f : Phrase → A) → Ready g w cs t phrases → RuleOf g w (rule_of r) → First reads g phrases work f → v ≡ rule_value times (weight_in reads weights) f (rule_of r)

-- The rule's value was added to the value `index` of the second row.
abbrev pub RuleAdded : {A : Type 0} → (A → A → A) → (A → A → A) → (ℕ → A) → (A → ℕ) → List Cell → Table → List ℕ → List ℕ → List ℕ → cells.Rule → ℕ → Type 0
RuleAdded {A} plus times reads writes cs t weights before after r index =
    (g : Grammar) (w : List ℕ) (phrases : List Phrase) (f : Phrase → A) → Ready g w cs t phrases → RuleOf g w (rule_of r) → First reads g phrases before f
    → after ≡ slice_set before (width t + index) (writes (plus (reads (slice_index before (width t + index))) (rule_value times (weight_in reads weights) f (rule_of r))))

-- Rules were added to the sums: these; or those of the live places of category c; or those of all live places.
abbrev pub RulesAdded : {A : Type 0} → A → (A → A → A) → (A → A → A) → (ℕ → A) → List Cell → Table → List ℕ → List ℕ → List ℕ → List Rule → Type 0
RulesAdded {A} nought plus times reads cs t weights before after rules =
    (g : Grammar) (w : List ℕ) (phrases : List Phrase) (f : Phrase → A) (done : List Rule) → Ready g w cs t phrases → Summed nought plus times reads g phrases weights (width t) f before done
    → Summed nought plus times reads g phrases weights (width t) f after (done ++ rules) × Past (width t) before after

abbrev pub LiveAdded : {A : Type 0} → A → (A → A → A) → (A → A → A) → (ℕ → A) → Grammar → List Cell → Table → List ℕ → List ℕ → List ℕ → ℕ → Type 0
LiveAdded {A} nought plus times reads g cs t weights before after c =
    (w : List ℕ) (phrases : List Phrase) (f : Phrase → A) (places : List ℕ) → Ready g w cs t phrases → Enumerates (LiveBefore g c 0) places
    → Summed nought plus times reads g phrases weights (width t) f before (bare_rules g places)
    → (more : List ℕ) × Enumerates (LiveBefore g (c + 1) 0) more × Summed nought plus times reads g phrases weights (width t) f after (bare_rules g more) × Past (width t) before after

abbrev pub BareAdded : {A : Type 0} → A → (A → A → A) → (A → A → A) → (ℕ → A) → Grammar → List Cell → Table → List ℕ → List ℕ → List ℕ → Type 0
BareAdded {A} nought plus times reads g cs t weights before after =
    (w : List ℕ) (phrases : List Phrase) (f : Phrase → A) → Ready g w cs t phrases → Summed nought plus times reads g phrases weights (width t) f before []
    → (places : List ℕ) × Enumerates (LivePlace g) places × Summed nought plus times reads g phrases weights (width t) f after (bare_rules g places) × Past (width t) before after

-- The values from `from` on and before `to` are v, and the others as they were.
pub record Filled (from to v : ℕ) (before after : List ℕ) : Type 0 where
  pub inside : (j : ℕ) → from ≤ j → j < to → slice_index after j ≡ v
  pub low : (j : ℕ) → j < from → slice_index after j ≡ slice_index before j
  pub high : (j : ℕ) → to ≤ j → slice_index after j ≡ slice_index before j

-- The second row of q values is now the first too.
pub record Copied (q : ℕ) (before after : List ℕ) : Type 0 where
  pub inside : (j : ℕ) → j < q → slice_index after j ≡ slice_index before (q + j)
  pub high : (j : ℕ) → q ≤ j → slice_index after j ≡ slice_index before j

-- One round more, however the rules of the chart are listed.
abbrev pub Rounded : {A : Type 0} → A → (A → A → A) → (A → A → A) → (ℕ → A) → Grammar → List Cell → Table → List ℕ → List ℕ → List ℕ → Type 0
Rounded nought plus times reads g cs t weights before after =
    (w : List ℕ) (phrases : List Phrase) (rules : List Rule) (h : ℕ) → Ready g w cs t phrases → Enumerates (RuleOf g w) rules → First reads g phrases before (value_after nought plus times (weight_in reads weights) rules h)
    → First reads g phrases after (value_after nought plus times (weight_in reads weights) rules (suc h)) × Past (width t) before after

-- Rounds enough: h of them.
abbrev pub RoundedTo : {A : Type 0} → A → (A → A → A) → (A → A → A) → (ℕ → A) → Grammar → List Cell → Table → List ℕ → List ℕ → List ℕ → ℕ → Type 0
RoundedTo nought plus times reads g cs t weights before after h =
    (w : List ℕ) (phrases : List Phrase) (rules : List Rule) → Ready g w cs t phrases → Enumerates (RuleOf g w) rules → First reads g phrases before (λ X. nought)
    → First reads g phrases after (value_after nought plus times (weight_in reads weights) rules h) × Past (width t) before after

-- v is what the start phrase, read as the whole of w, is worth after the rounds that the first row has seen.
abbrev pub StartIs : {A : Type 0} → A → (A → A → A) → (A → A → A) → (ℕ → A) → Grammar → List ℕ → List Cell → Table → List ℕ → List ℕ → A → Type 0
StartIs nought plus times reads g w cs t weights work v =
    (phrases : List Phrase) (rules : List Rule) (h : ℕ) → Ready g w cs t phrases → Enumerates (RuleOf g w) rules → First reads g phrases work (value_after nought plus times (weight_in reads weights) rules h)
    → v ≡ value_after nought plus times (weight_in reads weights) rules h (start_read g w)

-- Some list holds the start trees of height at most `depth` with the string w, each once; and over each such list v is the sum of the
-- trees' products.
abbrev pub SumIs : {A : Type 0} → A → (A → A → A) → (A → A → A) → (ℕ → A) → Grammar → List ℕ → ℕ → List ℕ → A → Type 0
SumIs nought plus times reads g w depth weights v =
    ((ts : List Tree) × Enumerates (TreeUpTo g w depth) ts)
    × ((ts : List Tree) → Enumerates (TreeUpTo g w depth) ts → v ≡ sum_of nought plus (map (tree_product times (weight_in reads weights)) ts))

-- The first n working values are v, and the rest as they were.
abbrev pub Cleared : ℕ → ℕ → List ℕ → List ℕ → Type 0
Cleared n v before after = after ≡ replicate n v ++ drop n before

-- The shape of what the chart of a sound grammar has: a rule's place holds a production of its categories, each phrase has
-- a reading for each constituent, a dot is within its constituent, and every span is within the tokens.
use Rattle.std.proofs.Common.{◌≡◌, ℕ, ◌≤◌, List, [], ◌∷◌, map, length, Some, unwrap_or, sym, ap, ◌∙◌, arith}
use Rattle.std.specs.List.{slice_get, AllByRecursion}
use Rattle.std.proofs.lemmas.List.{length-map}
use Rattle.grammar.specs.Grammar.{Grammar, Production, from_one, and_then, production_at, dimension_at}
use Rattle.grammar.specs.Trees.{Tree, node, Trees, none, more, constituents_at, linearized, all_linearized, substituted}
use Rattle.chart.specs.Sound.{Sound}
use Rattle.chart.specs.Chart.{read, Phrase, Rule, Fact, made, item, reading_at, symbols_of, Begin, begin, Step, scan, predict_bare, finish, copy, Join, predict, combine, Chart, first, one, two}
use Rattle.chart.proofs.Spans.{nth_inside, reads_order}
use Rattle.chart.proofs.Matching.{Matches, MatchAll, category, fit_length, match_read, find}
use Rattle.chart.proofs.Soundness.{Right, sound, right_matches}

-- A phrase has a reading for each constituent of its category.
abbrev pub Sized : Grammar → Phrase → Type 0
Sized g X = dimension_at g X.category ≡ Some (length X.readings)

pub sized : (g : Grammar) (w : List ℕ) → Sound g → (X : Phrase) (t : Tree) → Matches g w X t → Sized g X
sized g w sd X (node p ts) m =
    let q = m.tree.0 in
    let e = m.tree.1 in
    let s = sd.places p q e in
    let known : constituents_at g p ≡ s.uses.constituents = ap (λ o. unwrap_or (and_then o (λ x. and_then (slice_get g.functions x.function) (λ f. Some f.constituents))) []) e ∙ ap (λ o. unwrap_or (and_then o (λ f. Some f.constituents)) []) s.function in
    let size : length X.readings ≡ length s.uses.constituents = fit_length w X.readings (linearized g (node p ts)) m.fits ∙ length-map (constituents_at g p) (substituted (all_linearized g ts)) ∙ ap length known in
    ap (dimension_at g) (sym m.tree.2) ∙ s.result ∙ ap Some (sym size)

pub all_sized : (g : Grammar) (w : List ℕ) → Sound g → (Xs : List Phrase) (ts : Trees) → MatchAll g w Xs ts → AllByRecursion (Sized g) Xs
all_sized g w sd [] none m = tt
all_sized g w sd [] (more t ts) m = absurd m
all_sized g w sd (X ∷ Xs) none m = absurd m
all_sized g w sd (X ∷ Xs) (more t ts) m = (sized g w sd X t m.0, all_sized g w sd Xs ts m.1)

-- A rule has the categories of its place's production, and a reading for each constituent.
pub record Shaped (g : Grammar) (r : Rule) : Type 0 where
  pub production : Production
  pub filled : production_at g r.place ≡ Some production
  pub result : production.result ≡ r.left.category
  pub arguments : map category r.arguments ≡ production.arguments
  pub left : Sized g r.left
  pub each : AllByRecursion (Sized g) r.arguments

pub right_shaped : (g : Grammar) (w : List ℕ) → Sound g → (r : Rule) → Right g w r → Shaped g r
right_shaped g w sd r h = record {
  production = h.production;
  filled = h.filled;
  result = h.result;
  arguments = h.arguments;
  left = sized g w sd r.left (node r.place h.trees) (right_matches h h.trees h.matched);
  each = all_sized g w sd r.arguments h.trees h.matched;
}

pub made_shaped : (g : Grammar) (w : List ℕ) → Sound g → {r : Rule} → Chart g w (made r) → Shaped g r
made_shaped g w sd {r} c = right_shaped g w sd r (sound g w sd c)

pub item_shaped : (g : Grammar) (w : List ℕ) → Sound g → {r : Rule} {l j i k : ℕ} → Chart g w (item r l j i k) → Shaped g r
item_shaped g w sd {r} c = right_shaped g w sd r (sound g w sd c).rule

-- The dot is within its constituent.
abbrev pub DotInside : Grammar → Fact → Type 0
DotInside g (made r) = Unit {0}
DotInside g (item r l j i k) = i ≤ length (symbols_of g r.place l)

dot_begin : {g : Grammar} {z : Fact} → Begin g z → DotInside g z
dot_begin (begin b c) = omega arith

dot_step : {g : Grammar} {w : List ℕ} {x z : Fact} → Step g w x z → DotInside g z
dot_step {g} (scan {r = r} {l = l} {i = i} e n) = nth_inside (symbols_of g r.place l) i _ e
dot_step (predict_bare e a u b) = omega arith
dot_step (finish e) = tt
dot_step {g} (copy {r = r} {l = l} {i = i} e x y ab kn) = nth_inside (symbols_of g r.place l) i _ e

dot_join : {g : Grammar} {x y z : Fact} → Join g x y z → DotInside g z
dot_join (predict e a u) = omega arith
dot_join {g} (combine {r = r} {l = l} {i = i} e x u is) = nth_inside (symbols_of g r.place l) i _ e

pub dot_inside : (g : Grammar) (w : List ℕ) {z : Fact} → Chart g w z → DotInside g z
dot_inside g w (first b) = dot_begin b
dot_inside g w (one c s) = dot_step s
dot_inside g w (two c d s) = dot_join s

-- Spans on the left side and in the arguments of a rule are within the tokens.
pub left_inside : (g : Grammar) (w : List ℕ) (r : Rule) → Right g w r → (l a b : ℕ) → reading_at r.left l ≡ Some (read a b) → (a ≤ b) × (b ≤ length w)
left_inside g w r h l a b e =
    let reads = match_read r.left l a b e (right_matches h h.trees h.matched) in
    (reads_order reads, reads.inside)

pub argument_inside : (g : Grammar) (w : List ℕ) (r : Rule) → Right g w r → (d s a b : ℕ) (X : Phrase) → from_one r.arguments d ≡ Some X
    → reading_at X s ≡ Some (read a b) → (a ≤ b) × (b ≤ length w)
argument_inside g w r h d s a b X x e =
    let f = find r.arguments h.trees d X h.matched x in
    let reads = match_read X s a b e f.matches in
    (reads_order reads, reads.inside)

-- Weighing an area rests on what it holds (`weighable`), and its answer is that of the grammar and the tokens it holds (`summed`).
use Rattle.std.proofs.Common.{◌≡◌, ℕ, ◌+◌, ◌*◌, ◌≤◌, List, length, Some, None, Option, sym, ◌∙◌, subst, arith}
use Rattle.std.specs.Option.{SomeIff}
use Rattle.grammar.specs.Grammar.{Grammar}
use Rattle.chart.specs.Chart.{Phrase, grammar_cells}
use Rattle.cells.specs.declared.Cell.{Cell}
use Rattle.rows.specs.declared.held.Rows.{Rows}
use Rattle.rows.specs.Meaning.{cells_of, rows_meaning}
use Rattle.closing.specs.declared.charted.Chart.{Chart}
use Rattle.weigh.specs.Numbers.{Numbered}
use Rattle.weigh.specs.Weighed.{SumIs, Cleared}
use Rattle.area.specs.declared.numbers.Numbers.{Numbers}
use Rattle.area.specs.Contents.{ChartOf}
use Rattle.calls.specs.Closed.{Closed, bound_of}

-- What weighing rests on, beside the chart.
pub record Weighable (m : Grammar) (tokens : List ℕ) (cs : List Cell) (base n count : ℕ) (weights work : List ℕ) : Type 0 where
  pub phrases : List Phrase
  pub numbered : Numbered m tokens cs base n phrases
  pub size : length phrases ≡ count
  pub weights_fit : length m.places ≤ length weights
  pub work_fits : 2 * (length m.dimensions + count) ≤ length work

pub weighable : (g : Grammar) (w : List ℕ) (cs : List Cell) (n : Numbers) (count : ℕ) → Closed g w cs n count → (c : Chart Rows) → ChartOf g w cs n c → (weights work : List ℕ) → n.counts.places ≤ length weights → 2 * (n.counts.categories + count) ≤ length work
    → Weighable (rows_meaning (cells_of c.source.now) c.source.now.counts) c.tokens.now c.cells.now c.room.base c.end count weights work
weighable g w cs n count k c o weights work fit room =
    let h = k.held in
    let places = h.counted.places in
    subst (λ (v : Grammar). Weighable v c.tokens.now c.cells.now c.room.base c.end count weights work) (sym o.source.0)
    (subst (λ (v : List ℕ). Weighable g v c.cells.now c.room.base c.end count weights work) (sym o.tokens)
    (subst (λ (v : List Cell). Weighable g w v c.room.base c.end count weights work) (sym o.cells)
    (subst (λ (b : ℕ). Weighable g w cs b c.end count weights work) (sym o.room.0)
    (subst (λ (e : ℕ). Weighable g w cs (grammar_cells g) e count weights work) (sym o.end)
    (record { phrases = k.phrases; numbered = k.numbered; size = k.size; weights_fit = omega arith; work_fits = subst (λ (j : ℕ). 2 * (j + count) ≤ length work) h.counted.categories room })))))

-- the sum, and the working values, with the grammar and the tokens that the area holds
pub summed : {A : Type 0} (nought : A) (plus times : A → A → A) (reads : ℕ → A) (v : A) (m g : Grammar) (tokens w : List ℕ) (depth : ℕ) (weights : List ℕ) → m ≡ g → tokens ≡ w → SumIs nought plus times reads m tokens depth weights v
    → SumIs nought plus times reads g w depth weights v
summed nought plus times reads v m g tokens w depth weights e ts k =
    subst (λ (x : List ℕ). SumIs nought plus times reads g x depth weights v) ts (subst (λ (x : Grammar). SumIs nought plus times reads x tokens depth weights v) e k)

pub cleared_at : (m g : Grammar) (count z : ℕ) (old new : List ℕ) → m ≡ g → Cleared (2 * (length m.dimensions + count)) z old new → Cleared (2 * bound_of g count) z old new
cleared_at m g count z old new e k = subst (λ (x : Grammar). Cleared (2 * (length x.dimensions + count)) z old new) e k

-- a sum that fits is the sum
pub sum_is : (P : Type 0) (o : Option ℕ) (s q : ℕ) → SomeIff o P s → o ≡ Some q → q ≡ s
sum_is P None s q k e = absurd (let y : ◌≡◌ {A = ℕ} 0 1 = cc in omega arith)
sum_is P (Some r) s q k e = let same : r ≡ q = cc in sym same ∙ k.1

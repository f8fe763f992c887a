-- What is asked of an area rests on what it holds (`asked`, `stands`), and its answers are those of the grammar's trees (`next_told`,
-- `verdict_told`).
use Rattle.std.proofs.Common.{◌≡◌, ℕ, ◌≤◌, Bool, ◌⊎◌, List, length, Decides, sym, subst, inl, inr, arith}
use Rattle.grammar.specs.Grammar.{Grammar}
use Rattle.grammar.specs.Trees.{GoesOn, Complete}
use Rattle.faults.specs.Sound.{Sound}
use Rattle.chart.specs.Chart.{Frontier, Accepts, grammar_cells}
use Rattle.chart.proofs.Completeness.{goes_on_frontier, complete_accepts}
use Rattle.chart.proofs.Faultless.{faultless_sound}
use Rattle.chart.proofs.Soundness.{frontier_goes_on, accepts_complete}
use Rattle.cells.specs.declared.Cell.{Cell}
use Rattle.rows.specs.declared.held.Rows.{Rows}
use Rattle.rows.specs.Meaning.{cells_of, rows_meaning}
use Rattle.closing.specs.declared.charted.Chart.{Chart}
use Rattle.closing.specs.Charts.{Stands}
use Rattle.closing.specs.State.{State, Whole}
use Rattle.frontier.specs.Marks.{Marks}
use Rattle.area.specs.declared.numbers.Numbers.{Numbers}
use Rattle.area.specs.declared.contents.Contents.{Contents}
use Rattle.area.specs.Held.{Held}
use Rattle.area.specs.Contents.{ContentsOf, ChartOf}

-- What the questions of the facts rest on.
pub record Asked (m : Grammar) (tokens : List ℕ) (cs : List Cell) (base n limit : ℕ) : Type 0 where
  pub sound : Sound m
  pub few : length tokens ≤ 200
  pub state : State m tokens cs base n limit
  pub whole : Whole m tokens cs base n

pub asked : (g : Grammar) (w : List ℕ) (cs : List Cell) (n : Numbers) (c : Chart Rows) → Held g w cs n → ChartOf g w cs n c → Asked (rows_meaning (cells_of c.source.now) c.source.now.counts) c.tokens.now c.cells.now c.room.base c.end c.room.limit
asked g w cs n c h k =
    let few = h.few in
    let m = rows_meaning (cells_of c.source.now) c.source.now.counts in
    subst (λ (v : Grammar). Asked v c.tokens.now c.cells.now c.room.base c.end c.room.limit) (sym k.source.0)
    (subst (λ (v : List ℕ). Asked g v c.cells.now c.room.base c.end c.room.limit) (sym k.tokens)
    (subst (λ (v : List Cell). Asked g w v c.room.base c.end c.room.limit) (sym k.cells)
    (subst (λ (b : ℕ). Asked g w cs b c.end c.room.limit) (sym k.room.0)
    (subst (λ (e : ℕ). Asked g w cs (grammar_cells g) e c.room.limit) (sym k.end)
    (subst (λ (l : ℕ). Asked g w cs (grammar_cells g) n.end l) (sym k.room.1) (record { sound = h.sound; few = omega arith; state = h.charted.state; whole = h.charted.whole }))))))

pub stands : (g : Grammar) (w : List ℕ) (cs : List Cell) (n : Numbers) (c : Chart Rows) → Held g w cs n → ChartOf g w cs n c → Stands (rows_meaning (cells_of c.source.now) c.source.now.counts) c
stands g w cs n c h k = let a = asked g w cs n c h k in record { tokens = a.few; state = a.state; whole = a.whole }

-- the contents have the cells and the numbers that they were read of
pub held_in : (g : Grammar) (w : List ℕ) (cs : List Cell) (n : Numbers) (v : Contents) → Held g w cs n → ContentsOf g w cs n v → Held g w v.cells.now v.numbers
held_in g w cs n v h k = subst (λ (xs : List Cell). Held g w xs v.numbers) (sym k.cells) (subst (λ (m : Numbers). Held g w cs m) (sym k.numbers) h)

either_so : {A B C : Type 0} → (B → C) → A ⊎ B → A ⊎ C
either_so f (inl a) = inl a
either_so f (inr b) = inr (f b)

pub next_told : (g m : Grammar) (w tokens : List ℕ) (old new : List Bool) → Sound g → m ≡ g → tokens ≡ w → Marks (Frontier m tokens) old new → Marks (GoesOn g w) old new
next_told g m w tokens old new sd e ts k t lt =
    let k' : Marks (Frontier g w) old new = subst (λ (v : List ℕ). Marks (Frontier g v) old new) ts (subst (λ (v : Grammar). Marks (Frontier v tokens) old new) e k) in
    let d = k' t lt in
    let s = faultless_sound g sd in
    (λ is. either_so (frontier_goes_on g w t s) (d.0 is), λ h. d.1 (either_so (goes_on_frontier g w t s) h))

pub verdict_told : (g m : Grammar) (w tokens : List ℕ) (r : Bool) → Sound g → m ≡ g → tokens ≡ w → Decides r (Accepts m tokens) → Decides r (Complete g w)
verdict_told g m w tokens r sd e ts d =
    let d' : Decides r (Accepts g w) = subst (λ (v : List ℕ). Decides r (Accepts g v)) ts (subst (λ (v : Grammar). Decides r (Accepts v tokens)) e d) in
    let s = faultless_sound g sd in
    (λ is. accepts_complete g w s (d'.0 is), λ c. d'.1 (complete_accepts g w s c))

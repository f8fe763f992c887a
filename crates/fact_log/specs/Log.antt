-- The log: facts of a chart in cells, one after another, each once, with five indices. Assumes nothing.
use Rattle.std.specs.Prelude.{◌≡◌, ℕ, ◌+◌, ◌<◌, ◌≤◌, ◌⊎◌, List, length}
use Rattle.cells.specs.declared.Fact.{Fact}
use Rattle.cells.specs.declared.Row as row
use Rattle.cells.specs.declared.Cell.{Cell}
use Rattle.cells.specs.declared.Waiting.{Waiting}
use Rattle.cells.specs.Facts.{zero_cell}
use Rattle.fact_log.specs.Index.{cell_of, Indexed}

-- The cell at p holds the fact f.
abbrev pub FactAt : List Cell → ℕ → Fact → Type 0
FactAt cs p f = (cell_of cs p).row ≡ row.TheVariants.Fact f

-- The fact f is in the log.
abbrev pub Logged : List Cell → ℕ → ℕ → Fact → Type 0
Logged cs base n f = (p : ℕ) × (base ≤ p) × (p < n) × FactAt cs p f

-- The facts stand from base on and before n, and may go on up to the limit, before which the cells are zero.
pub record Log (cs : List Cell) (base n limit : ℕ) : Type 0 where
  pub positive : 0 < base
  pub begun : base ≤ n
  pub within : n ≤ limit
  pub inside : limit ≤ length cs
  pub facts : (p : ℕ) → base ≤ p → p < n → (f : Fact) × FactAt cs p f
  pub apart : (p q : ℕ) (f : Fact) → base ≤ p → p < n → base ≤ q → q < n → FactAt cs p f → FactAt cs q f → p ≡ q
  pub indexed : (s : ℕ) → s < 5 → Indexed cs s base n
  pub zero : (p : ℕ) → n ≤ p → p < limit → cell_of cs p ≡ zero_cell

-- cs' is a later state of a log that ended at m in cs: only facts were added since.
pub record Later (cs cs' : List Cell) (base m limit : ℕ) : Type 0 where
  pub len : length cs' ≡ length cs
  pub outside : (p : ℕ) → (p < base) ⊎ (limit ≤ p) → cell_of cs' p ≡ cell_of cs p
  pub rows : (p : ℕ) → p < m → ((cell_of cs' p).row ≡ (cell_of cs p).row) × ((cell_of cs' p).wait ≡ (cell_of cs p).wait)

-- The fact f, which waits for that, was appended at n.
pub record Appended (cs cs' : List Cell) (base n limit : ℕ) (f : Fact) (wait : Waiting) : Type 0 where
  pub log : Log cs' base (n + 1) limit
  pub fact : FactAt cs' n f
  pub waits : (cell_of cs' n).wait ≡ wait
  pub later : Later cs cs' base n limit

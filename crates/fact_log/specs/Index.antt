-- An index of the facts: a table of buckets by hash. The heads of the buckets stand in the first cells of the facts, and each cell is
-- linked to the one before it in its bucket. Assumes nothing.
use Rattle.std.specs.Prelude.{◌≡◌, ℕ, zero, suc, ◌+◌, ◌-◌, ◌*◌, ◌/◌, ◌^◌, ◌<◌, ◌≤◌, cond, ◌⊎◌, List, Some, None, Option, MatchOption, ◌≢◌, nat_lt, slice_index_or, length}
use Rattle.std.specs.Option.{option_map}
use Rattle.cells.specs.declared.Link.{Link}
use Rattle.cells.specs.declared.Cell.{Cell}
use Rattle.cells.specs.Facts.{zero_cell}
use Rattle.fact_log.specs.declared.things.Thing.{Thing}
use Rattle.fact_log.specs.declared.view.Index as view
use Rattle.fact_log.specs.Links.{link_at, with_link}
use Rattle.fact_log.specs.Things.{thing_at, hash_of}

-- Of the cells from base on and before n, r is the last that is looked up by x (a thing, or a bucket), or 0 where none is.
pub record Last {X : Type 0} (found_by : ℕ → Option X) (base : ℕ) (x : X) (n r : ℕ) : Type 0 where
  pub after : (p : ℕ) → base ≤ p → r < p → p < n → found_by p ≢ Some x
  pub found : 0 < r → (base ≤ r) × (r < n) × (found_by r ≡ Some x)

-- Of the cells from base on and before n, r is the last that is looked up by x, if one is. (No cell of the log is cell 0.)
abbrev pub LastOf : {X : Type 0} → (ℕ → Option X) → ℕ → X → ℕ → Option ℕ → Type 0
LastOf found_by base x n r = MatchOption r (Last found_by base x n 0) (λ p. (0 < p) × Last found_by base x n p)

-- How many buckets so many facts have: 2 to the power of this. It doubles as often as the facts do.
unfoldable pub order : ℕ → ℕ
order zero = 0
order (suc n) = cond (nat_lt (suc n) (2 * 2 ^ order n)) (order n) (suc (order n))

-- The bucket of a thing among 2 ^ k: the first k of the 63 binary digits of its hash.
abbrev pub bucket : ℕ → Thing → ℕ
bucket k t = hash_of t / 2 ^ (63 - k)

-- The buckets of cells, where a cell is looked up by these things.
abbrev pub buckets : ℕ → (ℕ → Option Thing) → ℕ → Option ℕ
buckets k thing p = option_map (bucket k) (thing p)

-- Of the cells from base on and before n each is in its bucket, of 2 ^ k whose heads stand from base on; before `top` no other head
-- stands, and from n on no cell is in a bucket.
pub record Index (thing : ℕ → Option Thing) (link : ℕ → Link) (base k top n : ℕ) : Type 0 where
  pub heads : (b : ℕ) → b < 2 ^ k → base + b < top → Last (buckets k thing) base b n (link (base + b)).head
  pub plain : (p : ℕ) → base + 2 ^ k ≤ p → p < top → (link p).head ≡ 0
  pub nexts : (p b : ℕ) → base ≤ p → p < n → buckets k thing p ≡ Some b → Last (buckets k thing) base b p (link p).next
  pub idle : (p : ℕ) → base ≤ p → p < n → thing p ≡ None → (link p).next ≡ 0
  pub free : (p : ℕ) → base ≤ p → n ≤ p → p < top → (link p).next ≡ 0

-- The cell at a position, what it is looked up by in index s, and its link there.
abbrev pub cell_of : List Cell → ℕ → Cell
cell_of cs p = slice_index_or cs p zero_cell

abbrev pub things : List Cell → ℕ → ℕ → Option Thing
things cs s p = thing_at (cell_of cs p) s

abbrev pub links : List Cell → ℕ → ℕ → Link
links cs s p = link_at (cell_of cs p) s

-- Index s of the cells from base on and before n, which have as many buckets as goes with their number.
abbrev pub Indexed : List Cell → ℕ → ℕ → ℕ → Type 0
Indexed cs s base n = Index (things cs s) (links cs s) base (order (n - base)) n n

-- The same of the cells and the index that are lent together.
abbrev pub thing_in : view.Index → ℕ → Option Thing
thing_in x = things x.cells.now x.slot

abbrev pub link_in : view.Index → ℕ → Link
link_in x = links x.cells.now x.slot

abbrev pub bucket_in : view.Index → ℕ → Option ℕ
bucket_in x = buckets (order (x.end - x.base)) (thing_in x)

abbrev pub IsIndexed : view.Index → Type 0
IsIndexed x = Indexed x.cells.now x.slot x.base x.end

-- What a way down a bucket knows at cell c: it is in the bucket of t, and none between it and `before` is looked up by t.
pub record Down (x : view.Index) (t : Thing) (before c : ℕ) : Type 0 where
  pub low : x.base ≤ c
  pub high : c < x.end
  pub same : bucket_in x c ≡ Some (bucket (order (x.end - x.base)) t)
  pub between : (p : ℕ) → x.base ≤ p → c < p → p < before → thing_in x p ≢ Some t

-- Cell n was entered in index s: no more than links of that index changed, of the cells from base on and before `top`.
pub record Entered (cs cs' : List Cell) (s base k top n : ℕ) : Type 0 where
  pub indexed : Index (things cs' s) (links cs' s) base k top (n + 1)
  pub outside : (p : ℕ) → (p < base) ⊎ (top ≤ p) → cell_of cs' p ≡ cell_of cs p
  pub only : (p : ℕ) → cell_of cs' p ≡ with_link (cell_of cs p) s (links cs' s p)

-- No more than links changed, of the cells from base on and before `top`.
pub record Relinked (cs cs' : List Cell) (base top : ℕ) : Type 0 where
  pub len : length cs' ≡ length cs
  pub outside : (p : ℕ) → (p < base) ⊎ (top ≤ p) → cell_of cs' p ≡ cell_of cs p
  pub rows : (p : ℕ) → ((cell_of cs' p).row ≡ (cell_of cs p).row) × ((cell_of cs' p).wait ≡ (cell_of cs p).wait)

-- Then the cells before n are indexed in all five.
pub record Filed (cs cs' : List Cell) (base k top n : ℕ) : Type 0 where
  pub relinked : Relinked cs cs' base top
  pub indexed : (s : ℕ) → s < 5 → Index (things cs' s) (links cs' s) base k top n

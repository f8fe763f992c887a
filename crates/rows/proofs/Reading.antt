-- What stands at a number of the rows that are read from cells, and the live place that the row of a place names. Assumes nothing.
use Rattle.std.proofs.Common.{◌≡◌, ℕ, zero, suc, ◌+◌, ◌<◌, ◌≤◌, Bool, true, false, nat_lt, Decides, List, length, Some, None, Option, sym, refl, ap, ◌∙◌, subst, ⊎_elim, add-zero, arith}
use Rattle.std.proofs.lemmas.List.{get_or_past}
use Rattle.std.proofs.lemmas.Bool.{cases_lt}
use Rattle.std.proofs.lemmas.Bool.Decides.{Decides-ltb, not_from_Decides}
use Rattle.std.specs.Bool.{then_some}
use Rattle.std.specs.List.{slice_get}
use Rattle.std.specs.Option.{MatchOption, IsSomeAnd, option_map, option_flatten}
use Rattle.grammar.specs.declared.Place.{Place}
use Rattle.grammar.specs.Grammar.{Function, Production, from_one, and_then, production_at, symbol_at, place_at, argument_at, head_of}
use Rattle.cells.specs.declared.Cell.{Cell}
use Rattle.cells.specs.declared.Row.{Row}
use Rattle.cells.specs.Facts.{zero_cell}
use Rattle.rows.specs.declared.counts.Counts.{Counts}
use Rattle.rows.specs.declared.sorts.Part.{Part}
use Rattle.rows.specs.declared.sorts.FunctionRow.{FunctionRow}
use Rattle.rows.specs.declared.sorts.PlaceRow.{PlaceRow}
use Rattle.rows.specs.Sorts.{function_in, constituent_in, symbol_in, place_in, production_head, argument_in}
use Rattle.rows.specs.Meaning.{row_at, read_from, read_part, rows_in, constituent_read, function_read, production_read, place_read, function_part, place_part, rows_meaning}
use Rattle.steps.specs.Live.{FirstLive, NextLive}
use Rattle.rows.specs.Links.{place_of_cell, place_row_at, next_named, Linked}

-- a cell past the end may be taken for another
pub row_near : (cells : List Cell) (i j : ℕ) → (i < length cells → j ≡ i) → (length cells ≤ i → length cells ≤ j) → row_at cells j ≡ row_at cells i
row_near cells i j near far =
    ⊎_elim (λ l. ap (row_at cells) (near l)) (λ l. ap (λ (x : Cell). x.row) (get_or_past cells j zero_cell (far l) ∙ sym (get_or_past cells i zero_cell l))) (cases_lt i (length cells))

pub length_read : {X : Type 0} (f : Row → X) (cells : List Cell) (first n : ℕ) → length (read_from f cells first n) ≡ n
length_read f cells first zero = refl
length_read f cells first (suc n) = ap suc (length_read f cells (suc first) n)

pub read_at : {X : Type 0} (f : Row → X) (cells : List Cell) (first n i : ℕ) → i < n → Some (f (row_at cells (first + i))) ≡ slice_get (read_from f cells first n) i
read_at f cells first zero i l = absurd (omega arith)
read_at f cells first (suc n) zero l = ap (λ (k : ℕ). Some (f (row_at cells k))) (add-zero first)
read_at f cells first (suc n) (suc i) l =
    let e : first + suc i ≡ suc first + i = omega arith in
    ap (λ (k : ℕ). Some (f (row_at cells k))) e ∙ read_at f cells (suc first) n i (omega arith)

pub read_past : {X : Type 0} (f : Row → X) (cells : List Cell) (first n i : ℕ) → n ≤ i → None ≡ slice_get (read_from f cells first n) i
read_past f cells first zero i l = refl
read_past f cells first (suc n) zero l = absurd (omega arith)
read_past f cells first (suc n) (suc i) l = read_past f cells (suc first) n i (omega arith)

counted_by : (cells : List Cell) (part : Part) (i : ℕ) (r : Row) (b : Bool) → Decides b (i < part.count) → r ≡ row_at cells (part.first + i) → then_some b r ≡ slice_get (rows_in cells part) i
counted_by cells part i r true d e = ap Some e ∙ read_at (λ x. x) cells part.first part.count i (d.0 refl)
counted_by cells part i r false d e = read_past (λ x. x) cells part.first part.count i (let no = not_from_Decides false d refl in omega (arith, no))

-- row i of a part, where the part has as many
pub row_counted : (cells : List Cell) (part : Part) (i : ℕ) (r : Row) → r ≡ row_at cells (part.first + i) → then_some (nat_lt i part.count) r ≡ slice_get (rows_in cells part) i
row_counted cells part i r e = counted_by cells part i r (nat_lt i part.count) (Decides-ltb i part.count) e

pub nth_read : {X : Type 0} (f : Row → X) (cells : List Cell) (first n i : ℕ) → option_map f (slice_get (read_from (λ r. r) cells first n) i) ≡ slice_get (read_from f cells first n) i
nth_read f cells first zero i = refl
nth_read f cells first (suc n) zero = refl
nth_read f cells first (suc n) (suc i) = nth_read f cells (suc first) n i

-- an answer G to what stands in what a part says, given the row that stands there
pub nth_via : {X Z : Type 0} (f : Row → X) (G : Option X → Z) (cells : List Cell) (part : Part) (i : ℕ) (o : Option Row) → o ≡ slice_get (rows_in cells part) i
    → G (option_map f o) ≡ G (slice_get (read_part f cells part) i)
nth_via f G cells part i o e = ap (λ p. G (option_map f p)) e ∙ ap G (nth_read f cells part.first part.count i)

pub from_one_via : {X Z : Type 0} (f : Row → X) (G : Option X → Z) (cells : List Cell) (part : Part) (i : ℕ) (o : Option Row) → o ≡ from_one (rows_in cells part) i
    → G (option_map f o) ≡ G (from_one (read_part f cells part) i)
from_one_via f G cells part zero o e = ap (λ p. G (option_map f p)) e
from_one_via f G cells part (suc i) o e = nth_via f G cells part i o e

-- a function, from what its row says
abbrev pub function_from : List Cell → FunctionRow → Function
function_from cells row = record { arity = row.arity; constituents = read_part (constituent_read cells) cells row.constituents }

pub function_via : {Z : Type 0} (G : Option Function → Z) (cells : List Cell) (n : Counts) (f : ℕ) (o : Option FunctionRow)
    → o ≡ option_map function_in (slice_get (rows_in cells (function_part n)) f) → G (option_map (function_from cells) o) ≡ G (slice_get (rows_meaning cells n).functions f)
function_via G cells n f o e =
    ap (λ p. G (option_map (function_from cells) p)) e
    ∙ (ap G (twice (slice_get (rows_in cells (function_part n)) f)) ∙ ap G (nth_read (function_read cells) cells n.categories n.functions f))
  where
    twice : (x : Option Row) → option_map (function_from cells) (option_map function_in x) ≡ option_map (function_read cells) x
    twice None = refl
    twice (Some r) = refl

-- symbol i of a constituent whose row is known, of a function whose row is known
pub symbol_via : (cells : List Cell) (n : Counts) (f l i : ℕ) (row : FunctionRow) (o : Option Row)
    → Some row ≡ option_map function_in (slice_get (rows_in cells (function_part n)) f) → o ≡ from_one (rows_in cells row.constituents) l
    → and_then (option_map (constituent_read cells) o) (λ s. from_one s i) ≡ symbol_at (rows_meaning cells n) f l i
symbol_via cells n f l i row o e d =
    from_one_via (constituent_read cells) (λ q. and_then q (λ s. from_one s i)) cells row.constituents l o d
    ∙ function_via (λ q. and_then (and_then q (λ h. from_one h.constituents l)) (λ s. from_one s i)) cells n f (Some row) e

-- the same where the row of the symbol is known
pub symbol_in_via : (cells : List Cell) (n : Counts) (f l i : ℕ) (row : FunctionRow) (r : Row) (part : Part) (o : Option Row)
    → Some row ≡ option_map function_in (slice_get (rows_in cells (function_part n)) f) → Some r ≡ from_one (rows_in cells row.constituents) l
    → part ≡ constituent_in r → o ≡ from_one (rows_in cells part) i → option_map symbol_in o ≡ symbol_at (rows_meaning cells n) f l i
symbol_in_via cells n f l i row r part o e d k s =
    from_one_via symbol_in (λ q. q) cells (constituent_in r) i o (s ∙ ap (λ x. from_one (rows_in cells x) i) k) ∙ symbol_via cells n f l i row (Some r) e d

-- a production, from what the row of its place says
pub production_via : {Z : Type 0} (G : Option Production → Z) (cells : List Cell) (n : Counts) (p : ℕ) (o : Option PlaceRow)
    → o ≡ place_row_at cells n p → G (option_map (production_read cells) o) ≡ G (production_at (rows_meaning cells n) p)
production_via G cells n p o e =
    ap (λ q. G (option_map (production_read cells) q)) e
    ∙ (ap G (inside (slice_get (rows_in cells (place_part n)) p)) ∙ ap (λ q. G (option_flatten q)) (nth_read (place_read cells) cells (place_part n).first n.places p))
  where
    inside : (x : Option Row) → option_map (production_read cells) (option_flatten (option_map place_in x)) ≡ option_flatten (option_map (place_read cells) x)
    inside None = refl
    inside (Some r) = refl

pub place_via : (cells : List Cell) (n : Counts) (p : ℕ) (o : Option PlaceRow) (r : Option Place) → o ≡ place_row_at cells n p
    → MatchOption o (r ≡ None) (λ row. IsSomeAnd r (λ place. place ≡ production_head row)) → r ≡ place_at (rows_meaning cells n) p
place_via cells n p None r e k = k ∙ production_via (option_map head_of) cells n p None e
place_via cells n p (Some row) None e k = elim k [ ]
place_via cells n p (Some row) (Some place) e k = ap Some k ∙ production_via (option_map head_of) cells n p (Some row) e

-- argument i of a place whose row is known
pub argument_via : (cells : List Cell) (n : Counts) (p i : ℕ) (row : PlaceRow) (o : Option Row)
    → Some row ≡ place_row_at cells n p → o ≡ from_one (rows_in cells row.arguments) i
    → option_map argument_in o ≡ argument_at (rows_meaning cells n) p i
argument_via cells n p i row o e d =
    from_one_via argument_in (λ q. q) cells row.arguments i o d
    ∙ production_via (λ q. and_then q (λ x. from_one x.arguments i)) cells n p (Some row) e

-- an empty place has no row that is read
row_of_empty : (cells : List Cell) (n : Counts) (p : ℕ) (o : Option PlaceRow) → o ≡ place_row_at cells n p → production_at (rows_meaning cells n) p ≡ None → o ≡ None
row_of_empty cells n p None e k = refl
row_of_empty cells n p (Some row) e k =
    let f : Some (production_read cells row) ≡ None = production_via (λ (q : Option Production). q) cells n p (Some row) e ∙ k in
    absurd (let z : ◌≡◌ {A = ℕ} 0 1 = cc in omega arith)

-- the place that the row of a place names, where the live places are named
pub next_told : (cells : List Cell) (n : Counts) (p : ℕ) (r : Option ℕ) → Linked cells n → r ≡ next_named cells n p → NextLive (rows_meaning cells n) p r
next_told cells n p r h e =
    record {
      filled = λ q f. subst (FirstLive (rows_meaning cells n) q.result (suc p)) (sym e) (h.next p q f);
      empty = λ f. e ∙ ap (λ (o : Option PlaceRow). and_then o (λ x. place_of_cell n x.next)) (row_of_empty cells n p (place_row_at cells n p) refl f);
    }

-- Rows written into cells, one after another. Assumes nothing.
use Rattle.std.proofs.Common.{◌≡◌, ℕ, zero, suc, ◌+◌, ◌<◌, ◌≤◌, ◌≢◌, List, [], ◌∷◌, ◌++◌, map, length, drop, set, Some, None, sym, refl, ap, ◌∙◌, subst, add-zero, arith}
use Rattle.std.proofs.lemmas.List.{length-set, set_comm, drop_all}
use Rattle.std.specs.List.{slice_get}
use Rattle.cells.specs.declared.Cell.{Cell}
use Rattle.cells.specs.declared.Row.{Row}
use Rattle.copying.specs.Written.{plain, written}

pub length_written : (rows : List Row) (cell : ℕ) (cs : List Cell) → length (written cell rows cs) ≡ length cs
length_written [] cell cs = refl
length_written (r ∷ rs) cell cs = length_written rs (suc cell) (set cs cell (plain r)) ∙ length-set cs cell (plain r)

pub written_append : (xs ys : List Row) (cell : ℕ) (cs : List Cell) → written cell (xs ++ ys) cs ≡ written (cell + length xs) ys (written cell xs cs)
written_append [] ys cell cs = ap (λ (n : ℕ). written n ys cs) (sym (add-zero cell))
written_append (x ∷ xs) ys cell cs =
    let e : suc cell + length xs ≡ cell + suc (length xs) = omega arith in
    written_append xs ys (suc cell) (set cs cell (plain x)) ∙ ap (λ (n : ℕ). written n ys (written (suc cell) xs (set cs cell (plain x)))) e

-- a cell before the rows
pub written_set : (rows : List Row) (cell j : ℕ) (x : Cell) (cs : List Cell) → j < cell → set (written cell rows cs) j x ≡ written cell rows (set cs j x)
written_set [] cell j x cs l = refl
written_set (r ∷ rs) cell j x cs l =
    let ne : cell ≢ j = omega arith in
    written_set rs (suc cell) j x (set cs cell (plain r)) (omega arith) ∙ ap (written (suc cell) rs) (set_comm cs cell j (plain r) x ne)

-- rows before other rows
pub written_apart : (xs ys : List Row) (a b : ℕ) (cs : List Cell) → a + length xs ≤ b → written a xs (written b ys cs) ≡ written b ys (written a xs cs)
written_apart [] ys a b cs l = refl
written_apart (x ∷ xs) ys a b cs l =
    ap (written (suc a) xs) (written_set ys b a (plain x) cs (omega arith)) ∙ written_apart xs ys (suc a) b (set cs a (plain x)) (omega arith)

written_later : (rows : List Row) (cell : ℕ) (c : Cell) (cs : List Cell) → written (suc cell) rows (c ∷ cs) ≡ c ∷ written cell rows cs
written_later [] cell c cs = refl
written_later (r ∷ rs) cell c cs = written_later rs (suc cell) c (set cs cell (plain r))

-- rows from the first cell on
pub written_whole : (rows : List Row) (cs : List Cell) → length rows ≤ length cs → written 0 rows cs ≡ map plain rows ++ drop (length rows) cs
written_whole [] cs l = refl
written_whole (r ∷ rs) [] l = absurd (omega arith)
written_whole (r ∷ rs) (c ∷ cs) l = written_later rs 0 (plain r) cs ∙ ap (λ (xs : List Cell). plain r ∷ xs) (written_whole rs cs (omega arith))

pub drop_there : {X : Type 0} (xs : List X) (i : ℕ) (x : X) → slice_get xs i ≡ Some x → drop i xs ≡ x ∷ drop (i + 1) xs
drop_there [] i x e = absurd (let z : ◌≡◌ {A = ℕ} 0 1 = cc in omega arith)
drop_there (y ∷ ys) zero x e = cc
drop_there (y ∷ ys) (suc i) x e =
    let n : suc i + 1 ≡ suc (i + 1) = omega arith in
    drop_there ys i x e ∙ ap (λ (k : ℕ). x ∷ drop k (y ∷ ys)) (sym n)

-- one more row of a list, and the end
pub row_step : (rows : List Row) (i cell : ℕ) (r : Row) (cs after target : List Cell) → slice_get rows i ≡ Some r → after ≡ set cs (cell + i) (plain r) → written (cell + i) (drop i rows) cs ≡ target
    → written (cell + (i + 1)) (drop (i + 1) rows) after ≡ target
row_step rows i cell r cs after target e w t =
    let n : cell + (i + 1) ≡ suc (cell + i) = omega arith in
    let here : written (cell + i) (r ∷ drop (i + 1) rows) cs ≡ target = subst (λ ys. written (cell + i) ys cs ≡ target) (drop_there rows i r e) t in
    ap (λ (k : ℕ). written k (drop (i + 1) rows) after) n ∙ (ap (written (suc (cell + i)) (drop (i + 1) rows)) w ∙ here)

pub row_end : (rows : List Row) (i cell : ℕ) (cs target : List Cell) → length rows ≤ i → written (cell + i) (drop i rows) cs ≡ target → cs ≡ target
row_end rows i cell cs target l t = subst (λ ys. written (cell + i) ys cs ≡ target) (drop_all i rows l) t

pub none_end : {X : Type 0} (xs : List X) (i : ℕ) → slice_get xs i ≡ None → length xs ≤ i
none_end [] i h = omega arith
none_end (x ∷ xs) zero h = absurd (let z : ◌≡◌ {A = ℕ} 0 1 = cc in omega arith)
none_end (x ∷ xs) (suc i) h = let l = none_end xs i h in omega arith

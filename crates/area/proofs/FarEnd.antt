-- The tokens at the far end of an area: reading them (`read_again`, `read_done`), and one more (`tokens_more`).
use Rattle.std.proofs.Common.{◌≡◌, ℕ, zero, suc, ◌+◌, ◌-◌, ◌<◌, ◌≤◌, List, [], ◌∷◌, ◌++◌, length, get_or, take, set, reverse, sym, refl, ap, ◌∙◌, inl, inr, arith, length-append, length-set, get_or-set_other, get_or-set_same}
use Rattle.std.proofs.lemmas.Bool.{cases_lt}
use Rattle.std.specs.List.{AllByRecursion, enumerate_from}
use Rattle.std.proofs.lemmas.List.{length-take-le, length-reverse, get_or-take, get_or-reverse, get_or_default}
use Rattle.std.proofs.lemmas.List.FromFn.{length-enumerate_from, get_or-enumerate_from}
use Rattle.cells.specs.declared.Cell.{Cell}
use Rattle.cells.specs.declared.Row.TheVariants.{Token}
use Rattle.cells.specs.Facts.{zero_cell}
use Rattle.copying.specs.Written.{plain}
use Rattle.fact_log.specs.Index.{cell_of}
use Rattle.area.specs.Held.{TokensIn}

-- so many cells from the last on
abbrev pub from_last : List Cell → ℕ → List Cell
from_last cs held = take held (reverse cs)

pub from_last_length : (cs : List Cell) (held : ℕ) → held ≤ length cs → length (from_last cs held) ≡ held
from_last_length cs held le = length-take-le held (reverse cs) (omega (arith, length-reverse cs))

pub from_last_turn : (cs : List Cell) (held k : ℕ) (x : Cell) → held ≤ length cs → (k < length (from_last cs held)) × (x ≡ get_or (from_last cs held) k x) → (k < held) × (x ≡ cell_of cs (length cs - suc k))
from_last_turn cs held k x le t =
    let lt : k < held = omega (arith, t.0, from_last_length cs held le) in
    let inside : k < length cs = omega (arith, lt, le) in
    let back : length cs - 1 - k < length cs = omega (arith, inside) in
    let at : length cs - 1 - k ≡ length cs - suc k = omega arith in
    (lt, t.1 ∙ (get_or-take held (reverse cs) k x lt ∙ (get_or-reverse cs k x inside ∙ (get_or_default cs (length cs - 1 - k) x zero_cell back ∙ ap (λ (p : ℕ). cell_of cs p) at))))

-- the same of each cell with its index
pub from_last_at : (cs : List Cell) (held k i : ℕ) (x : Cell) → held ≤ length cs → (k < length (enumerate_from 0 (from_last cs held))) × ((i, x) ≡ get_or (enumerate_from 0 (from_last cs held)) k (i, x)) → (k < held) × (i ≡ k) × (x ≡ cell_of cs (length cs - suc k))
from_last_at cs held k i x le t =
    let lt : k < length (from_last cs held) = omega (arith, t.0, length-enumerate_from 0 (from_last cs held)) in
    let e : (i, x) ≡ (0 + k, get_or (from_last cs held) k x) = t.1 ∙ get_or-enumerate_from 0 (from_last cs held) k (i, x) lt in
    let u = from_last_turn cs held k x le (lt, ap (λ (p : ℕ × Cell). p.1) e) in
    (u.0, omega (arith, ap (λ (p : ℕ × Cell). p.0) e), u.1)

-- the first k of the list are the first k of w
abbrev pub ReadTo : List ℕ → List ℕ → ℕ → Type 0
ReadTo w ts k = (i : ℕ) → i < k → get_or ts i 0 ≡ get_or w i 0

-- after the first k tokens, the next
pub read_again : (w ts : List ℕ) (k i t n : ℕ) → n ≡ k + 1 → i ≡ k → k < length ts → get_or w k 0 ≡ t → ReadTo w ts k → ReadTo w (set ts i t) n
read_again w ts k i t n more at lt is h j jn = elim (cases_lt j k) [
  | inl less ↦ get_or-set_other ts i j t 0 (λ e. omega (arith, e)) ∙ h j less
  | inr last ↦
      let here : j ≡ i = omega arith in
      let there : k ≡ j = omega arith in
      ap (λ (m : ℕ). get_or (set ts i t) m 0) here ∙ (get_or-set_same ts i t 0 (omega arith) ∙ (sym is ∙ ap (λ (m : ℕ). get_or w m 0) there))
]

take_get_d : (w ts : List ℕ) → length w ≤ length ts → ((i : ℕ) → i < length w → get_or ts i 0 ≡ get_or w i 0) → take (length w) ts ≡ w
take_get_d [] ts le h = refl
take_get_d (x ∷ w) [] le h = absurd (omega arith)
take_get_d (x ∷ w) (y ∷ ts) le h = let a : y ≡ x = h 0 (omega arith) in let b = take_get_d w ts (omega arith) (λ i lt. h (suc i) (omega arith)) in cc

pub read_done : (w ts : List ℕ) (k n : ℕ) → length w ≡ k → n ≡ k → k ≤ length ts → ReadTo w ts n → take k ts ≡ w
read_done w ts k n e all le h = ap (λ (m : ℕ). take m ts) (sym e) ∙ take_get_d w ts (omega (arith, e)) (λ i lt. h i (omega (arith, e, all)))

-- a token of the area is the one read
pub token_there : (cs : List Cell) (w : List ℕ) (k t : ℕ) (x : Cell) → TokensIn cs w → k < length w → x ≡ cell_of cs (length cs - suc k) → ((u : ℕ) → x.row ≡ Token u → t ≡ u) → get_or w k 0 ≡ t
token_there cs w k t x h lt e f = sym (f (get_or w k 0) (ap (λ (c : Cell). c.row) (e ∙ h k lt)))

get_d_front : (w v : List ℕ) (i : ℕ) → i < length w → get_or (w ++ v) i 0 ≡ get_or w i 0
get_d_front [] v i lt = absurd (omega arith)
get_d_front (x ∷ w) v zero lt = refl
get_d_front (x ∷ w) v (suc i) lt = get_d_front w v i (omega arith)

get_d_last : (w : List ℕ) (t : ℕ) → get_or (w ++ (t ∷ [])) (length w) 0 ≡ t
get_d_last [] t = refl
get_d_last (x ∷ w) t = get_d_last w t

pub one_longer : (w : List ℕ) (t : ℕ) → length (w ++ (t ∷ [])) ≡ suc (length w)
one_longer w t = omega (arith, length-append w (t ∷ []))

-- one token more, in the cell before the others
pub tokens_more : (cs c₁ : List Cell) (w : List ℕ) (t at : ℕ) → length c₁ ≡ length cs → at + suc (length w) ≡ length cs → ((p : ℕ) → at ≤ p → cell_of c₁ p ≡ cell_of cs p) → TokensIn cs w → TokensIn (set c₁ at (plain (Token t))) (w ++ (t ∷ []))
tokens_more cs c₁ w t at len is same h i lt =
    let c₂ = set c₁ at (plain (Token t)) in
    let len₂ : length c₂ ≡ length cs = length-set c₁ at (plain (Token t)) ∙ len in
    let longer = one_longer w t in
    elim (cases_lt i (length w)) [
      | inl less ↦
          ap (λ (n : ℕ). cell_of c₂ (n - suc i)) len₂
          ∙ (get_or-set_other c₁ at (length cs - suc i) (plain (Token t)) zero_cell (λ e. omega (arith, e))
          ∙ (same (length cs - suc i) (omega arith) ∙ (h i less ∙ ap (λ (v : ℕ). plain (Token v)) (sym (get_d_front w (t ∷ []) i less)))))
      | inr more ↦
          let last : i ≡ length w = omega (arith, longer) in
          let there : length c₂ - suc i ≡ at = omega (arith, len₂, last) in
          ap (cell_of c₂) there ∙ (get_or-set_same c₁ at (plain (Token t)) zero_cell (omega (arith, len)) ∙ ap (λ (v : ℕ). plain (Token v)) (sym (ap (λ (j : ℕ). get_or (w ++ (t ∷ [])) j 0) last ∙ get_d_last w t)))
    ]

pub all_more : (P : ℕ → Type 0) (w : List ℕ) (t : ℕ) → AllByRecursion P w → P t → AllByRecursion P (w ++ (t ∷ []))
all_more P [] t h p = (p, tt)
all_more P (x ∷ w) t h p = (h.0, all_more P w t h.1 p)

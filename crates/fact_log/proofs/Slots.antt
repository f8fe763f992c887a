-- A link of a cell is in one of five indices: to change one changes no other, nor what the cell is looked up by.
use Rattle.std.proofs.Common.{◌≡◌, ℕ, zero, suc, ◌<◌, refl, arith}
use Rattle.cells.specs.declared.Link.{Link}
use Rattle.cells.specs.declared.Cell.{Cell}
use Rattle.fact_log.specs.Links.{link_at, with_link}
use Rattle.fact_log.specs.Things.{thing_at}

-- what holds of each of the five holds of any
pub slot_cases : (P : ℕ → Type 0) → P 0 → P 1 → P 2 → P 3 → P 4 → (s : ℕ) → s < 5 → P s
slot_cases P a b c d e zero h = a
slot_cases P a b c d e (suc zero) h = b
slot_cases P a b c d e (suc (suc zero)) h = c
slot_cases P a b c d e (suc (suc (suc zero))) h = d
slot_cases P a b c d e (suc (suc (suc (suc zero)))) h = e
slot_cases P a b c d e (suc (suc (suc (suc (suc s))))) h = absurd (omega arith)

pub link_with : (c : Cell) (l : Link) (s : ℕ) → s < 5 → link_at (with_link c s l) s ≡ l
unfolding link_at with_link
link_with c l = slot_cases (λ s. link_at (with_link c s l) s ≡ l) refl refl refl refl refl

pub link_other : (c : Cell) (l : Link) (s : ℕ) → s < 5 → (r : ℕ) → r < 5 → (s ≡ r → ⊥) → link_at (with_link c s l) r ≡ link_at c r
unfolding link_at with_link
link_other c l =
    slot_cases (λ s. (r : ℕ) → r < 5 → (s ≡ r → ⊥) → link_at (with_link c s l) r ≡ link_at c r)
    (slot_cases (λ r. (0 ≡ r → ⊥) → link_at (with_link c 0 l) r ≡ link_at c r) (λ n. absurd (n refl)) (λ n. refl) (λ n. refl) (λ n. refl) (λ n. refl))
    (slot_cases (λ r. (1 ≡ r → ⊥) → link_at (with_link c 1 l) r ≡ link_at c r) (λ n. refl) (λ n. absurd (n refl)) (λ n. refl) (λ n. refl) (λ n. refl))
    (slot_cases (λ r. (2 ≡ r → ⊥) → link_at (with_link c 2 l) r ≡ link_at c r) (λ n. refl) (λ n. refl) (λ n. absurd (n refl)) (λ n. refl) (λ n. refl))
    (slot_cases (λ r. (3 ≡ r → ⊥) → link_at (with_link c 3 l) r ≡ link_at c r) (λ n. refl) (λ n. refl) (λ n. refl) (λ n. absurd (n refl)) (λ n. refl))
    (slot_cases (λ r. (4 ≡ r → ⊥) → link_at (with_link c 4 l) r ≡ link_at c r) (λ n. refl) (λ n. refl) (λ n. refl) (λ n. refl) (λ n. absurd (n refl)))

pub thing_with : (c : Cell) (l : Link) (r s : ℕ) → s < 5 → thing_at (with_link c s l) r ≡ thing_at c r
unfolding thing_at with_link
thing_with c l r = slot_cases (λ s. thing_at (with_link c s l) r ≡ thing_at c r) refl refl refl refl refl

pub with_same : (c : Cell) (s : ℕ) → s < 5 → with_link c s (link_at c s) ≡ c
unfolding link_at with_link
with_same c = slot_cases (λ s. with_link c s (link_at c s) ≡ c) refl refl refl refl refl

pub row_with : (c : Cell) (l : Link) (s : ℕ) → s < 5 → ((with_link c s l).row ≡ c.row) × ((with_link c s l).wait ≡ c.wait)
unfolding with_link
row_with c l = slot_cases (λ s. ((with_link c s l).row ≡ c.row) × ((with_link c s l).wait ≡ c.wait)) (refl, refl) (refl, refl) (refl, refl) (refl, refl) (refl, refl)

pub with_twice : (c : Cell) (l m : Link) (s : ℕ) → s < 5 → with_link (with_link c s l) s m ≡ with_link c s m
unfolding with_link
with_twice c l m = slot_cases (λ s. with_link (with_link c s l) s m ≡ with_link c s m) refl refl refl refl refl

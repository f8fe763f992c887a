-- The marked numbers one by one (`count_more`, `written_more`), and which they are (`members`, `ascends`).
use Rattle.std.proofs.Common.{◌≡◌, ℕ, zero, suc, ◌+◌, ◌<◌, ◌≤◌, Bool, true, false, cond, List, [], ◌∷◌, ◌++◌, length, get_or, take, drop, set, sym, refl, ap, ◌∙◌, subst, inl, inr, zero-add, add-one, arith}
use Rattle.std.specs.List.{AllByRecursion, count_by}
use Rattle.std.proofs.lemmas.List.Sums.{sum_by-cons}
use Rattle.std.proofs.ByRecursion.{All-weaker}
use Rattle.std.proofs.lemmas.List.{append_assoc, drop_more, length_push, set_at}
use Rattle.chart.specs.Chart.{Member}
use Rattle.frontier.specs.Listing.{marked_from, marked_of, Ascending}

-- one more mark
from_more : (i : ℕ) (marks : List Bool) (t : ℕ) → t < length marks → get_or marks t false ≡ true → marked_from i (take (suc t) marks) ≡ marked_from i (take t marks) ++ ((i + t) ∷ [])
from_more i [] t l e = absurd (omega arith)
from_more i (true ∷ marks) zero l e = let z : i ≡ i + 0 = omega arith in ap (λ (n : ℕ). n ∷ []) z
from_more i (false ∷ marks) zero l e = cc
from_more i (true ∷ marks) (suc t) l e =
    let z : suc i + t ≡ i + suc t = omega arith in
    ap (λ (xs : List ℕ). i ∷ xs) (from_more (suc i) marks t (omega arith) e ∙ ap (λ (n : ℕ). marked_from (suc i) (take t marks) ++ (n ∷ [])) z)
from_more i (false ∷ marks) (suc t) l e =
    let z : suc i + t ≡ i + suc t = omega arith in
    from_more (suc i) marks t (omega arith) e ∙ ap (λ (n : ℕ). marked_from (suc i) (take t marks) ++ (n ∷ [])) z

marked_more : (marks : List Bool) (t : ℕ) → t < length marks → get_or marks t false ≡ true → marked_of (take (t + 1) marks) ≡ marked_of (take t marks) ++ (t ∷ [])
marked_more marks t l e =
    ap (λ (n : ℕ). marked_of (take n marks)) (add-one t) ∙ (from_more 0 marks t l e ∙ ap (λ (n : ℕ). marked_of (take t marks) ++ (n ∷ [])) (zero-add t))

-- no mark there
from_same : (i : ℕ) (marks : List Bool) (t : ℕ) → t < length marks → get_or marks t false ≡ false → marked_from i (take (suc t) marks) ≡ marked_from i (take t marks)
from_same i [] t l e = absurd (omega arith)
from_same i (true ∷ marks) zero l e = cc
from_same i (false ∷ marks) zero l e = refl
from_same i (true ∷ marks) (suc t) l e = ap (λ (xs : List ℕ). i ∷ xs) (from_same (suc i) marks t (omega arith) e)
from_same i (false ∷ marks) (suc t) l e = from_same (suc i) marks t (omega arith) e

marked_same : (marks : List Bool) (t : ℕ) → t < length marks → get_or marks t false ≡ false → marked_of (take (t + 1) marks) ≡ marked_of (take t marks)
marked_same marks t l e = ap (λ (n : ℕ). marked_of (take n marks)) (add-one t) ∙ from_same 0 marks t l e

-- the numbers before a marked one are fewer than all
from_fewer : (i : ℕ) (marks : List Bool) (t : ℕ) → t < length marks → get_or marks t false ≡ true → length (marked_from i (take t marks)) < length (marked_from i marks)
from_fewer i [] t l e = absurd (omega arith)
from_fewer i (true ∷ marks) zero l e = omega arith
from_fewer i (false ∷ marks) zero l e = absurd (let z : ◌≡◌ {A = ℕ} 0 1 = cc in omega arith)
from_fewer i (true ∷ marks) (suc t) l e = omega (arith, from_fewer (suc i) marks t (omega arith) e)
from_fewer i (false ∷ marks) (suc t) l e = from_fewer (suc i) marks t (omega arith) e

pub marked_fewer : (marks : List Bool) (t : ℕ) → t < length marks → get_or marks t false ≡ true → length (marked_of (take t marks)) < length (marked_of marks)
marked_fewer marks t l e = from_fewer 0 marks t l e

-- how many they are
from_counted : (i : ℕ) (marks : List Bool) → length (marked_from i marks) ≡ count_by (λ m. m) marks
from_counted i [] = refl
from_counted i (true ∷ marks) =
    let rest = from_counted (suc i) marks in
    let more : count_by (λ m. m) (true ∷ marks) ≡ 1 + count_by (λ m. m) marks = sum_by-cons (λ (m : Bool). cond m 1 0) true marks in
    omega (arith, rest, more)
from_counted i (false ∷ marks) =
    let rest = from_counted (suc i) marks in
    let more : count_by (λ m. m) (false ∷ marks) ≡ 0 + count_by (λ m. m) marks = sum_by-cons (λ (m : Bool). cond m 1 0) false marks in
    omega (arith, rest, more)

pub counted : (marks : List Bool) → length (marked_of marks) ≡ count_by (λ m. m) marks
counted marks = from_counted 0 marks

pub count_more : (marks : List Bool) (t n : ℕ) → t < length marks → get_or marks t false ≡ true → n ≡ length (marked_of (take t marks)) → n + 1 ≡ length (marked_of (take (t + 1) marks))
count_more marks t n l e is = ap (λ (k : ℕ). k + 1) is ∙ (sym (length_push (marked_of (take t marks)) t) ∙ sym (ap length (marked_more marks t l e)))

pub count_same : (marks : List Bool) (t n : ℕ) → t < length marks → get_or marks t false ≡ false → n ≡ length (marked_of (take t marks)) → n ≡ length (marked_of (take (t + 1) marks))
count_same marks t n l e is = is ∙ sym (ap length (marked_same marks t l e))

-- written over the front of a list
pub written_more : (marks : List Bool) (old new : List ℕ) (t n : ℕ) → t < length marks → get_or marks t false ≡ true → n ≡ length (marked_of (take t marks)) → n < length old
    → new ≡ marked_of (take t marks) ++ drop n old → set new n t ≡ marked_of (take (t + 1) marks) ++ drop (n + 1) old
written_more marks old new t n l e is room was =
    let numbers : List ℕ = marked_of (take t marks) in
    let rest : List ℕ = drop (n + 1) old in
    let split : new ≡ numbers ++ (get_or old n 0 ∷ rest) = was ∙ ap (λ (xs : List ℕ). numbers ++ xs) (drop_more old n 0 room) in
    let put : set new n t ≡ numbers ++ (t ∷ rest) = ap (λ (xs : List ℕ). set xs n t) split ∙ set_at numbers (get_or old n 0) rest t n (sym is) in
    put ∙ (sym (append_assoc numbers (t ∷ []) rest) ∙ ap (λ (xs : List ℕ). xs ++ rest) (sym (marked_more marks t l e)))

pub written_same : (marks : List Bool) (old new : List ℕ) (t n : ℕ) → t < length marks → get_or marks t false ≡ false → new ≡ marked_of (take t marks) ++ drop n old → new ≡ marked_of (take (t + 1) marks) ++ drop n old
written_same marks old new t n l e was = was ∙ ap (λ (xs : List ℕ). xs ++ drop n old) (sym (marked_same marks t l e))

-- which they are
from_member : (i : ℕ) (marks : List Bool) (v : ℕ) → Member v (marked_from i marks) → (k : ℕ) × (v ≡ i + k) × (get_or marks k false ≡ true)
from_member i [] v m = absurd m
from_member i (true ∷ marks) v (inl e) = (0, (omega (arith, e)), refl)
from_member i (true ∷ marks) v (inr m) = let h = from_member (suc i) marks v m in (suc h.0, (omega (arith, h.1)), h.2)
from_member i (false ∷ marks) v m = let h = from_member (suc i) marks v m in (suc h.0, (omega (arith, h.1)), h.2)

member_from : (i : ℕ) (marks : List Bool) (k : ℕ) → get_or marks k false ≡ true → Member (i + k) (marked_from i marks)
member_from i [] k e = absurd (let z : ◌≡◌ {A = ℕ} 0 1 = cc in omega arith)
member_from i (true ∷ marks) zero e = inl (omega arith)
member_from i (false ∷ marks) zero e = absurd (let z : ◌≡◌ {A = ℕ} 0 1 = cc in omega arith)
member_from i (true ∷ marks) (suc k) e = let z : suc i + k ≡ i + suc k = omega arith in inr (subst (λ (v : ℕ). Member v (marked_from (suc i) marks)) z (member_from (suc i) marks k e))
member_from i (false ∷ marks) (suc k) e = let z : suc i + k ≡ i + suc k = omega arith in subst (λ (v : ℕ). Member v (marked_from (suc i) marks)) z (member_from (suc i) marks k e)

pub members : (marks : List Bool) (t : ℕ) → (Member t (marked_of marks) → get_or marks t false ≡ true) × (get_or marks t false ≡ true → Member t (marked_of marks))
members marks t = (
  λ m. let h = from_member 0 marks t m in let z : h.0 ≡ t = omega (arith, h.1) in subst (λ (k : ℕ). get_or marks k false ≡ true) z h.2,
  λ e. subst (λ (v : ℕ). Member v (marked_of marks)) (zero-add t) (member_from 0 marks t e),
)

from_above : (i : ℕ) (marks : List Bool) → AllByRecursion (λ m. i ≤ m) (marked_from i marks)
from_above i [] = tt
from_above i (true ∷ marks) = (omega arith, All-weaker (λ (m : ℕ). suc i ≤ m) (λ (m : ℕ). i ≤ m) (λ m l. omega arith) (marked_from (suc i) marks) (from_above (suc i) marks))
from_above i (false ∷ marks) = All-weaker (λ (m : ℕ). suc i ≤ m) (λ (m : ℕ). i ≤ m) (λ m l. omega arith) (marked_from (suc i) marks) (from_above (suc i) marks)

from_ascends : (i : ℕ) (marks : List Bool) → Ascending (marked_from i marks)
from_ascends i [] = tt
from_ascends i (true ∷ marks) = (All-weaker (λ (m : ℕ). suc i ≤ m) (λ (m : ℕ). i < m) (λ m l. omega arith) (marked_from (suc i) marks) (from_above (suc i) marks), from_ascends (suc i) marks)
from_ascends i (false ∷ marks) = from_ascends (suc i) marks

pub ascends : (marks : List Bool) → Ascending (marked_of marks)
ascends marks = from_ascends 0 marks

-- Parts of the tokens: `Reads` joined, split, grown and told apart; `Cut`, where the tokens end inside a string.
use Rattle.std.proofs.Common.{◌≡◌, ℕ, zero, suc, ◌+◌, ◌<◌, ◌≤◌, ◌⊎◌, List, [], ◌∷◌, ◌++◌, length, drop, Some, sym, refl, ap, ◌∙◌, inl, inr, append_assoc, arith}
use Rattle.std.specs.List.{slice_get}
use Rattle.std.proofs.lemmas.List.{append-nil, append_cancel_left, length-append, length-drop, drop-drop, drop_at, drop-append-le, drop_all}
use Rattle.chart.specs.Chart.{Reads}

pub reads_nil : (w : List ℕ) (k : ℕ) → k ≤ length w → Reads w k k []
reads_nil w k h = record { inside = h; ends = omega arith; tokens = refl }

pub reads_join : {w : List ℕ} {j k m : ℕ} {u v : List ℕ} → Reads w j k u → Reads w k m v → Reads w j m (u ++ v)
reads_join {w} {j} {k} {m} {u} {v} a b = record {
  inside = b.inside;
  ends = simp length-append (omega (arith, a.ends, b.ends));
  tokens = a.tokens ∙ ap (λ x. u ++ x) b.tokens ∙ sym (append_assoc u v (drop m w));
}

pub reads_split : {w : List ℕ} {j m : ℕ} (u v : List ℕ) → Reads w j m (u ++ v)
    → Reads w j (j + length u) u × Reads w (j + length u) m v
reads_split {w} {j} {m} u v a =
    let rest : drop (j + length u) w ≡ v ++ drop m w = sym (drop-drop (length u) j w) ∙ ap (drop (length u)) (a.tokens ∙ append_assoc u v (drop m w)) ∙ drop_at u (v ++ drop m w) (length u) refl in
    let sum : j + (length u + length v) ≡ m = simp length-append at a.ends in (
      record { inside = omega (arith, a.inside); ends = refl; tokens = a.tokens ∙ append_assoc u v (drop m w) ∙ ap (λ x. u ++ x) (sym rest) },
      record { inside = a.inside; ends = omega arith; tokens = rest },
    )

pub nth_drop : {X : Type 0} (w : List X) (k : ℕ) (t : X) → slice_get w k ≡ Some t → drop k w ≡ t ∷ drop (suc k) w
nth_drop [] k t e = cc
nth_drop (x ∷ w) zero t e = cc
nth_drop (x ∷ w) (suc k) t e = nth_drop w k t e

pub drop_nth : {X : Type 0} (w : List X) (k : ℕ) (t : X) (v : List X) → drop k w ≡ t ∷ v → slice_get w k ≡ Some t
drop_nth [] zero t v e = cc
drop_nth [] (suc k) t v e = cc
drop_nth (x ∷ w) zero t v e = cc
drop_nth (x ∷ w) (suc k) t v e = drop_nth w k t v e

pub nth_inside : {X : Type 0} (w : List X) (k : ℕ) (t : X) → slice_get w k ≡ Some t → k < length w
nth_inside [] k t e = let z : ◌≡◌ {A = ℕ} 0 1 = cc in omega arith
nth_inside (x ∷ w) zero t e = omega arith
nth_inside (x ∷ w) (suc k) t e = omega (arith, nth_inside w k t e)

pub nth_append : {X : Type 0} (w v : List X) (k : ℕ) (t : X) → slice_get w k ≡ Some t → slice_get (w ++ v) k ≡ Some t
nth_append [] v k t e = cc
nth_append (x ∷ w) v zero t e = e
nth_append (x ∷ w) v (suc k) t e = nth_append w v k t e

pub nth_append_inside : {X : Type 0} (w v : List X) (k : ℕ) → k < length w → slice_get (w ++ v) k ≡ slice_get w k
nth_append_inside [] v k h = absurd (omega arith)
nth_append_inside (x ∷ w) v zero h = refl
nth_append_inside (x ∷ w) v (suc k) h = nth_append_inside w v k (omega arith)

pub reads_one : (w : List ℕ) (k t : ℕ) → slice_get w k ≡ Some t → Reads w k (suc k) (t ∷ [])
reads_one w k t e = record { inside = nth_inside w k t e; ends = omega arith; tokens = nth_drop w k t e }

pub reads_head : {w : List ℕ} {k m : ℕ} {t : ℕ} {u : List ℕ} → Reads w k m (t ∷ u) → slice_get w k ≡ Some t
reads_head {w} {k} {m} {t} {u} a = drop_nth w k t (u ++ drop m w) a.tokens

pub reads_order : {w : List ℕ} {j k : ℕ} {u : List ℕ} → Reads w j k u → j ≤ k
reads_order a = omega (arith, a.ends)

same_front : {X : Type 0} (u v a b : List X) → length u ≡ length v → u ++ a ≡ v ++ b → u ≡ v
same_front [] [] a b h e = refl
same_front [] (y ∷ v) a b h e = absurd (omega arith)
same_front (x ∷ u) [] a b h e = absurd (omega arith)
same_front (x ∷ u) (y ∷ v) a b h e =
    let tail : u ++ a ≡ v ++ b = cc in
    let l : length u ≡ length v = omega arith in
    let t : u ≡ v = same_front u v a b l tail in
    let s : x ≡ y = cc in
    cc

-- The part from j to k is one string.
pub reads_same : {w : List ℕ} {j k : ℕ} {u v : List ℕ} → Reads w j k u → Reads w j k v → u ≡ v
reads_same {w} {j} {k} {u} {v} a b =
    let h : length u ≡ length v = omega (arith, a.ends, b.ends) in
    same_front u v (drop k w) (drop k w) h (sym a.tokens ∙ b.tokens)

pub reads_grow : {w : List ℕ} {j k : ℕ} {u : List ℕ} (v : List ℕ) → Reads w j k u → Reads (w ++ v) j k u
reads_grow {w} {j} {k} {u} v a =
    let o : j ≤ k = reads_order a in
    record {
      inside = simp length-append (omega (arith, a.inside));
      ends = a.ends;
      tokens = drop-append-le j w v (omega (arith, a.inside)) ∙ ap (λ x. x ++ v) a.tokens ∙ append_assoc u (drop k w) v
          ∙ ap (λ x. u ++ x) (sym (drop-append-le k w v a.inside));
    }

pub reads_shrink : {j k : ℕ} {u : List ℕ} (w v : List ℕ) → Reads (w ++ v) j k u → k ≤ length w → Reads w j k u
reads_shrink {j} {k} {u} w v a h =
    let o : j ≤ k = reads_order a in
    record {
      inside = h;
      ends = a.ends;
      tokens = cut (drop j w) (u ++ drop k w) v (sym (drop-append-le j w v (omega arith)) ∙ a.tokens ∙ ap (λ x. u ++ x) (drop-append-le k w v h) ∙ sym (append_assoc u (drop k w) v));
    }
  where
    cut : (a b v : List ℕ) → a ++ v ≡ b ++ v → a ≡ b
    cut a b v e = Rattle.std.proofs.lemmas.List.append_cancel_right a b v e

-- The tokens from position j on end inside the string u, before x.
pub record Cut (w : List ℕ) (x j : ℕ) (u : List ℕ) : Type 0 where
  pub seen : List ℕ
  pub rest : List ℕ
  pub reads : Reads w j (length w) seen
  pub parts : u ≡ seen ++ (x ∷ rest)

compared : (u v s : List ℕ) (x : ℕ) (r : List ℕ) → u ++ v ≡ s ++ (x ∷ r)
    → ((r' : List ℕ) × (u ≡ s ++ (x ∷ r'))) ⊎ ((s' : List ℕ) × (s ≡ u ++ s') × (v ≡ s' ++ (x ∷ r)))
compared [] v s x r e = inr (s, refl, e)
compared (y ∷ u) v [] x r e = inl (u, (cc))
compared (y ∷ u) v (z ∷ s) x r e =
    let tail : u ++ v ≡ s ++ (x ∷ r) = cc in
    let head : y ≡ z = cc in
    elim (compared u v s x r tail) [ inl a ↦ inl (a.0, (let h = a.1 in cc)) | inr b ↦ inr (b.0, (let h = b.1 in cc), b.2) ]

pub cut_split : {w : List ℕ} {x j : ℕ} (u v : List ℕ) → Cut w x j (u ++ v)
    → Cut w x j u ⊎ ((k : ℕ) × Reads w j k u × Cut w x k v)
cut_split {w} {x} {j} u v c = elim (compared u v c.seen x c.rest c.parts) [
  | inl a ↦ inl (record { seen = c.seen; rest = a.0; reads = c.reads; parts = a.1 })
  | inr b ↦
      let whole : Reads w j (length w) (u ++ b.0) = rw b.1 at c.reads in
      let two = reads_split u b.0 whole in
      inr (j + length u, two.0, record { seen = b.0; rest = c.rest; reads = two.1; parts = b.2 })
]

-- No tokens end inside the empty string.
pub cut_nil : {w : List ℕ} {x j : ℕ} → Cut w x j [] → ⊥
cut_nil {w} {x} {j} c = none c.seen (sym c.parts)
  where
    none : (s : List ℕ) → s ++ (x ∷ c.rest) ≡ [] → ⊥
    none [] e = let z : ◌≡◌ {A = ℕ} 0 1 = cc in omega arith
    none (y ∷ s) e = let z : ◌≡◌ {A = ℕ} 0 1 = cc in omega arith

-- The part from 0 to the end is the whole.
pub reads_whole : {w : List ℕ} {u : List ℕ} → Reads w 0 (length w) u → u ≡ w
reads_whole {w} {u} a = sym (append-nil u) ∙ ap (λ x. u ++ x) (sym (drop_all (length w) w (omega arith))) ∙ sym a.tokens

pub whole_reads : (w : List ℕ) → Reads w 0 (length w) w
whole_reads w = record { inside = omega arith; ends = omega arith; tokens = sym (append-nil w) ∙ ap (λ x. w ++ x) (sym (drop_all (length w) w (omega arith))) }

-- A part goes on with the token that follows a shorter part from the same start.
pub reads_front : {w : List ℕ} {a b c : ℕ} {u v : List ℕ} {t : ℕ} → Reads w a b v → Reads w a c u → c < b → slice_get w c ≡ Some t → (v' : List ℕ) × (v ≡ u ++ (t ∷ v'))
reads_front {w} {a} {b} {c} {u} {v} {t} h k lt e = elim (compared v (drop b w) u t (drop (suc c) w) (sym h.tokens ∙ k.tokens ∙ ap (λ x. u ++ x) (nth_drop w c t e))) [
  | inl x ↦ x
  | inr y ↦ let n : length u ≡ length v + length y.0 = ap length y.1 ∙ length-append v y.0 in absurd (omega (arith, h.ends, k.ends))
]

-- The tokens from one position stand once more from another on.
use Rattle.std.proofs.Common.{◌≡◌, ℕ, suc, ◌+◌, ◌-◌, ◌≤◌, Bool, true, false, ◌==◌, List, ◌++◌, length, take, drop, Some, Option, Decides, refl, sym, ap, ◌∙◌, subst, arith}
use Rattle.std.specs.Bool.{then_some}
use Rattle.std.proofs.lemmas.Bool.Decides.{Decides-eqb}
use Rattle.std.proofs.lemmas.List.{length-drop, length-take-le, take-append-drop, drop-drop, take_all}
use Rattle.std.proofs.Math.Seq.{take-append_seam}
use Rattle.std.specs.List.{slice_get}
use Rattle.chart.specs.Chart.{Reads}
use Rattle.cells.specs.declared.Item.{Item}
use Rattle.steps.specs.Steps.{Passed, Scanned}

-- the part is what is read
part_is : (w : List ℕ) (a b : ℕ) (u : List ℕ) → Reads w a b u → take (b - a) (drop a w) ≡ u
part_is w a b u r =
    let e = r.ends in
    let n : b - a ≡ length u = omega (arith, e) in
    (ap (λ (x : ℕ). take x (drop a w)) n ∙ ap (take (length u)) r.tokens) ∙ take-append_seam u (drop b w)

all_of : (w : List ℕ) (k : ℕ) → take (length w - k) (drop k w) ≡ drop k w
all_of w k = take_all (length w - k) (drop k w) (let d = length-drop k w in omega (arith, d))

-- the rest begins with the part
pub copy_same : (w : List ℕ) (a b k : ℕ) (part rest : List ℕ) → a ≤ b → b ≤ length w → part ≡ take (b - a) (drop a w) → k ≤ length w → rest ≡ take (length w - k) (drop k w) → length part ≤ length rest → rest ≡ part ++ drop (length part) rest
    → (u : List ℕ) × Reads w a b u × Reads w k (k + (b - a)) u
copy_same w a b k part rest ab bw p kw r fits starts =
    let n : length part ≡ b - a = ap length p ∙ length-take-le (b - a) (drop a w) (let d = length-drop a w in omega (arith, d)) in
    let whole : rest ≡ drop k w = r ∙ all_of w k in
    let m : length rest ≡ length w - k = ap length whole ∙ length-drop k w in (
      part,
      record {
        inside = bw;
        ends = omega (arith, n);
        tokens = sym (take-append-drop (b - a) (drop a w)) ∙ (ap (λ (x : List ℕ). x ++ drop (b - a) (drop a w)) (sym p) ∙ ap (λ (x : List ℕ). part ++ x) (drop-drop (b - a) a w ∙ ap (λ (i : ℕ). drop i w) (let i : a + (b - a) ≡ b = omega arith in i)));
      },
      record {
        inside = omega (arith, n, m);
        ends = ap (λ (i : ℕ). k + i) n;
        tokens = sym whole ∙ (starts ∙ ap (λ (x : List ℕ). part ++ x) ((ap (λ (i : ℕ). drop i rest) n ∙ ap (drop (b - a)) whole) ∙ drop-drop (b - a) k w));
      },
    )

-- it does not
pub copy_differs : (w : List ℕ) (a b k : ℕ) (part rest : List ℕ) → part ≡ take (b - a) (drop a w) → rest ≡ take (length w - k) (drop k w) → ((more : List ℕ) → rest ≡ part ++ more → ⊥) → (m : ℕ) (u : List ℕ) → Reads w a b u → Reads w k m u → ⊥
copy_differs w a b k part rest p r other m u ra rk =
    let whole : rest ≡ drop k w = r ∙ all_of w k in
    let same : part ≡ u = p ∙ part_is w a b u ra in
    other (drop m w) (whole ∙ (rk.tokens ∙ ap (λ (x : List ℕ). x ++ drop m w) (sym same)))

-- the token after the end of an item is t, or it is not
scanned_by : (w : List ℕ) (x z : Item) (t v : ℕ) (same : Bool) → Decides same (v ≡ t) → slice_get w x.end ≡ Some v → Passed x (suc x.end) z → Scanned w x t (then_some same z)
scanned_by w x z t v true d at p = (at ∙ ap Some (d.0 refl), p)
scanned_by w x z t v false d at p = λ e. let same : v ≡ t = (let s : Some v ≡ Some t = sym at ∙ e in cc) in let no = d.1 same in cc

pub token_scanned : (w : List ℕ) (x z : Item) (t v : ℕ) (r : Option Item) → slice_get w x.end ≡ Some v → Passed x (suc x.end) z → r ≡ then_some (v == t) z → Scanned w x t r
token_scanned w x z t v r at p e = subst (Scanned w x t) (sym e) (scanned_by w x z t v (v == t) (Decides-eqb v t) at p)

-- A symbol of a constituent (`symbols_in_lem`), how many symbols a constituent has at most (`few_at`), and `put` under a map.
use Rattle.std.proofs.Common.{◌≡◌, ℕ, zero, suc, ◌≤◌, List, [], map, length, Some, None, Option, unwrap_or, refl, arith}
use Rattle.std.specs.List.{slice_get, AllByRecursion}
use Rattle.std.proofs.lemmas.List.{map-set}
use Rattle.grammar.specs.declared.Symbol.{Symbol}
use Rattle.grammar.specs.Grammar.{Grammar, Function, Production, from_one, and_then}
use Rattle.chart.specs.Chart.{put}
use Rattle.faults.specs.Sound.{Sound, SoundFunction, SoundConstituent}
use Rattle.faults.proofs.Made.{all_at}

from_at : {X : Type 0} (P : X → Type 0) (xs : List X) (i : ℕ) (x : X) → AllByRecursion P xs → from_one xs i ≡ Some x → P x
from_at P xs zero x h e = absurd (let z : ◌≡◌ {A = ℕ} 0 1 = cc in omega arith)
from_at P xs (suc i) x h e = all_at P xs i x h e

in_constituent : (o : Option (List Symbol)) (i : ℕ) → and_then o (λ s. from_one s (suc i)) ≡ slice_get (unwrap_or o []) i
in_constituent None i = refl
in_constituent (Some α) i = refl

symbols_in_lem : (o : Option Function) (l i : ℕ)
    → and_then (and_then o (λ h. from_one h.constituents l)) (λ s. from_one s (suc i)) ≡ slice_get (unwrap_or (from_one (unwrap_or (and_then o (λ f. Some f.constituents)) []) l) []) i
symbols_in_lem None zero i = refl
symbols_in_lem None (suc l) i = refl
symbols_in_lem (Some f) l i = in_constituent (from_one f.constituents l) i

-- no constituent of a sound grammar has more than 16 symbols
few_one : (g : Grammar) → Sound g → (f : ℕ) (h : Function) (l : ℕ) → slice_get g.functions f ≡ Some h → (o : Option (List Symbol)) → from_one h.constituents l ≡ o → length (unwrap_or o []) ≤ 16
few_one g sd f h l eh None e = omega arith
few_one g sd f h l eh (Some α) e =
    (from_at (SoundConstituent g.tokens h.arity) h.constituents l α (all_at (SoundFunction g.tokens) g.functions f h sd.each_function eh).each e).few

few_in : (g : Grammar) → Sound g → (f l : ℕ) (o : Option Function) → slice_get g.functions f ≡ o → length (unwrap_or (from_one (unwrap_or (and_then o (λ h. Some h.constituents)) []) l) []) ≤ 16
few_in g sd f zero None e = omega arith
few_in g sd f (suc l) None e = omega arith
few_in g sd f l (Some h) e = few_one g sd f h l e (from_one h.constituents l) refl

pub few_at : (g : Grammar) → Sound g → (l : ℕ) (o : Option Production) → length (unwrap_or (from_one (unwrap_or (and_then o (λ q. and_then (slice_get g.functions q.function) (λ f. Some f.constituents))) []) l) []) ≤ 16
few_at g sd zero None = omega arith
few_at g sd (suc l) None = omega arith
few_at g sd l (Some q) = few_in g sd q.function l (slice_get g.functions q.function) refl

pub map_put : {X Y : Type 0} (f : X → Y) (xs : List X) (i : ℕ) (y : X) → map f (put xs i y) ≡ put (map f xs) i (f y)
map_put f xs zero y = refl
map_put f xs (suc i) y = map-set f xs i y

-- A tree matches a phrase: it is of the phrase's category, and each constituent that is read has the string of its span.
-- Taking one argument out of a list of matched phrases and putting another in.
use Rattle.std.proofs.Common.{◌≡◌, ℕ, zero, suc, List, [], ◌∷◌, ◌++◌, map, length, take, drop, set, replicate, Some, None, unwrap_or, sym, refl, ap, ◌∙◌, subst, append_assoc, arith}
use Rattle.std.specs.List.{slice_get}
use Rattle.grammar.specs.declared.Symbol.{Symbol}
use Rattle.grammar.specs.declared.Symbol.TheVariants.{Token, Argument}
use Rattle.grammar.specs.Grammar.{Grammar, from_one}
use Rattle.grammar.specs.Trees.{Tree, node, Trees, none, more, TreeOf, TreesOf, part, substituted, constituents_at, linearized, all_linearized}
use Rattle.chart.specs.Chart.{Reading, unread, read, Phrase, Reads, put, reading_at, read_as, symbols_of}

-- A string fits a reading.
abbrev pub Fits : List ℕ → Reading → List ℕ → Type 0
Fits w unread u = Unit {0}
Fits w (read a b) u = Reads w a b u

-- The strings fit the readings, one for each.
abbrev pub FitAll : List ℕ → List Reading → List (List ℕ) → Type 0
FitAll w [] [] = Unit {0}
FitAll w [] (u ∷ us) = ⊥
FitAll w (m ∷ ms) [] = ⊥
FitAll w (m ∷ ms) (u ∷ us) = Fits w m u × FitAll w ms us

pub record Matches (g : Grammar) (w : List ℕ) (X : Phrase) (t : Tree) : Type 0 where
  pub tree : TreeOf g t X.category
  pub fits : FitAll w X.readings (linearized g t)

abbrev pub MatchAll : Grammar → List ℕ → List Phrase → Trees → Type 0
MatchAll g w [] none = Unit {0}
MatchAll g w [] (more t ts) = ⊥
MatchAll g w (X ∷ Xs) none = ⊥
MatchAll g w (X ∷ Xs) (more t ts) = Matches g w X t × MatchAll g w Xs ts

-- Constituent l of the tree t, counted from 1: nothing where there is none.
abbrev pub constituent : Grammar → Tree → ℕ → List ℕ
constituent g t l = unwrap_or (from_one (linearized g t) l) []

abbrev pub category : Phrase → ℕ
category X = X.category

pub fit_length : (w : List ℕ) (ms : List Reading) (us : List (List ℕ)) → FitAll w ms us → length ms ≡ length us
fit_length w [] [] f = refl
fit_length w [] (u ∷ us) f = absurd f
fit_length w (m ∷ ms) [] f = absurd f
fit_length w (m ∷ ms) (u ∷ us) f = ap suc (fit_length w ms us f.1)

fit_nth : (w : List ℕ) (ms : List Reading) (us : List (List ℕ)) (i : ℕ) (m : Reading) → FitAll w ms us → slice_get ms i ≡ Some m
    → (u : List ℕ) × (slice_get us i ≡ Some u) × Fits w m u
fit_nth w [] [] i m f e = absurd (let z : ◌≡◌ {A = ℕ} 0 1 = cc in omega arith)
fit_nth w [] (u ∷ us) i m f e = absurd f
fit_nth w (x ∷ ms) [] i m f e = absurd f
fit_nth w (x ∷ ms) (u ∷ us) zero m f e = let h : x ≡ m = cc in (u, refl, rw h at f.0)
fit_nth w (x ∷ ms) (u ∷ us) (suc i) m f e = fit_nth w ms us i m f.1 e

-- What is read stands in the linearization.
pub fit_at : (w : List ℕ) (ms : List Reading) (us : List (List ℕ)) (s : ℕ) (m : Reading) → FitAll w ms us → from_one ms s ≡ Some m
    → (u : List ℕ) × (from_one us s ≡ Some u) × Fits w m u
fit_at w ms us zero m f e = absurd (let z : ◌≡◌ {A = ℕ} 0 1 = cc in omega arith)
fit_at w ms us (suc i) m f e = fit_nth w ms us i m f e

fit_set : (w : List ℕ) (ms : List Reading) (us : List (List ℕ)) (i a b : ℕ) (u : List ℕ) → FitAll w ms us → slice_get us i ≡ Some u
    → Reads w a b u → FitAll w (set ms i (read a b)) us
fit_set w [] [] i a b u f e h = f
fit_set w [] (v ∷ us) i a b u f e h = absurd f
fit_set w (m ∷ ms) [] i a b u f e h = absurd f
fit_set w (m ∷ ms) (v ∷ us) zero a b u f e h = let q : u ≡ v = cc in (rw q at h, f.1)
fit_set w (m ∷ ms) (v ∷ us) (suc i) a b u f e h = (f.0, fit_set w ms us i a b u f.1 e h)

pub fit_put : (w : List ℕ) (ms : List Reading) (us : List (List ℕ)) (s a b : ℕ) (u : List ℕ) → FitAll w ms us → from_one us s ≡ Some u
    → Reads w a b u → FitAll w (put ms s (read a b)) us
fit_put w ms us zero a b u f e h = f
fit_put w ms us (suc i) a b u f e h = fit_set w ms us i a b u f e h

fit_unset : (w : List ℕ) (ms : List Reading) (us : List (List ℕ)) (i a b : ℕ) → slice_get ms i ≡ Some unread → FitAll w (set ms i (read a b)) us
    → FitAll w ms us × ((u : List ℕ) × (slice_get us i ≡ Some u) × Reads w a b u)
fit_unset w [] us i a b e f = absurd (let z : ◌≡◌ {A = ℕ} 0 1 = cc in omega arith)
fit_unset w (m ∷ ms) [] zero a b e f = absurd f
fit_unset w (m ∷ ms) [] (suc i) a b e f = absurd f
fit_unset w (m ∷ ms) (u ∷ us) zero a b e f =
    let q : unread ≡ m = cc in
    ((subst (λ x. Fits w x u) q tt, f.1), (u, refl, f.0))
fit_unset w (m ∷ ms) (u ∷ us) (suc i) a b e f =
    let rest = fit_unset w ms us i a b e f.1 in
    ((f.0, rest.0), rest.1)

pub fit_unput : (w : List ℕ) (ms : List Reading) (us : List (List ℕ)) (s a b : ℕ) → from_one ms s ≡ Some unread → FitAll w (put ms s (read a b)) us
    → FitAll w ms us × ((u : List ℕ) × (from_one us s ≡ Some u) × Reads w a b u)
fit_unput w ms us zero a b e f = absurd (let z : ◌≡◌ {A = ℕ} 0 1 = cc in omega arith)
fit_unput w ms us (suc i) a b e f = fit_unset w ms us i a b e f

pub fit_bare : (w : List ℕ) (n : ℕ) (us : List (List ℕ)) → length us ≡ n → FitAll w (replicate n unread) us
fit_bare w zero [] e = tt
fit_bare w zero (u ∷ us) e = absurd (omega arith)
fit_bare w (suc n) [] e = absurd (omega arith)
fit_bare w (suc n) (u ∷ us) e = (tt, fit_bare w n us (omega arith))

-- A tree that matches the phrase with one more constituent read matches the phrase, and has the string of the span there.
pub match_less : {g : Grammar} {w : List ℕ} {t : Tree} (X : Phrase) (s a b : ℕ) → reading_at X s ≡ Some unread → Matches g w (read_as X s a b) t
    → Matches g w X t × Reads w a b (constituent g t s)
match_less {g} {w} {t} X s a b e m =
    let f = fit_unput w X.readings (linearized g t) s a b e m.fits in
    let same : constituent g t s ≡ f.1.0 = ap (λ o. unwrap_or o []) f.1.1 in
    (record { tree = m.tree; fits = f.0 }, rw same f.1.2)

pub match_more : {g : Grammar} {w : List ℕ} {t : Tree} (X : Phrase) (s a b : ℕ) → reading_at X s ≡ Some unread → Matches g w X t
    → Reads w a b (constituent g t s) → Matches g w (read_as X s a b) t
match_more {g} {w} {t} X s a b e m h =
    let f = fit_at w X.readings (linearized g t) s unread m.fits e in
    let same : constituent g t s ≡ f.0 = ap (λ o. unwrap_or o []) f.1 in
    let h' : Reads w a b f.0 = rw same at h in
    record { tree = m.tree; fits = fit_put w X.readings (linearized g t) s a b f.0 m.fits f.1 h' }

pub match_read : {g : Grammar} {w : List ℕ} {t : Tree} (X : Phrase) (s a b : ℕ) → reading_at X s ≡ Some (read a b) → Matches g w X t
    → Reads w a b (constituent g t s)
match_read {g} {w} {t} X s a b e m =
    let f = fit_at w X.readings (linearized g t) s (read a b) m.fits e in
    let same : constituent g t s ≡ f.0 = ap (λ o. unwrap_or o []) f.1 in
    rw same f.2

-- The matched argument d, in its place.
pub record Found (g : Grammar) (w : List ℕ) (X : Phrase) (ts : Trees) (d : ℕ) : Type 0 where
  pub tree : Tree
  pub matches : Matches g w X tree
  pub there : from_one (all_linearized g ts) d ≡ Some (linearized g tree)

find_nth : {g : Grammar} {w : List ℕ} (Xs : List Phrase) (ts : Trees) (i : ℕ) (X : Phrase) → MatchAll g w Xs ts → slice_get Xs i ≡ Some X
    → (t : Tree) × Matches g w X t × (slice_get (all_linearized g ts) i ≡ Some (linearized g t))
find_nth [] ts i X m e = absurd (let z : ◌≡◌ {A = ℕ} 0 1 = cc in omega arith)
find_nth (Y ∷ Xs) none i X m e = absurd m
find_nth {g} {w} (Y ∷ Xs) (more t ts) zero X m e = let q : Y ≡ X = cc in (t, rw q at m.0, refl)
find_nth (Y ∷ Xs) (more t ts) (suc i) X m e = find_nth Xs ts i X m.1 e

pub find : {g : Grammar} {w : List ℕ} (Xs : List Phrase) (ts : Trees) (d : ℕ) (X : Phrase) → MatchAll g w Xs ts → from_one Xs d ≡ Some X
    → Found g w X ts d
find Xs ts zero X m e = absurd (let z : ◌≡◌ {A = ℕ} 0 1 = cc in omega arith)
find Xs ts (suc i) X m e = let f = find_nth Xs ts i X m e in record { tree = f.0; matches = f.1; there = f.2 }

replace_nth : {g : Grammar} {w : List ℕ} (Xs : List Phrase) (ts : Trees) (i : ℕ) (X Y : Phrase) (t : Tree) → MatchAll g w Xs ts → slice_get Xs i ≡ Some X
    → Matches g w Y t → (ts' : Trees) × MatchAll g w (set Xs i Y) ts' × (slice_get (all_linearized g ts') i ≡ Some (linearized g t))
replace_nth [] ts i X Y t m e h = absurd (let z : ◌≡◌ {A = ℕ} 0 1 = cc in omega arith)
replace_nth (Z ∷ Xs) none i X Y t m e h = absurd m
replace_nth (Z ∷ Xs) (more s ts) zero X Y t m e h = (more t ts, (h, m.1), refl)
replace_nth (Z ∷ Xs) (more s ts) (suc i) X Y t m e h =
    let f = replace_nth Xs ts i X Y t m.1 e h in
    (more s f.0, (m.0, f.1), f.2)

-- Another tree, of another phrase, for argument d.
pub replace : {g : Grammar} {w : List ℕ} (Xs : List Phrase) (ts : Trees) (d : ℕ) (X Y : Phrase) (t : Tree) → MatchAll g w Xs ts → from_one Xs d ≡ Some X
    → Matches g w Y t → (ts' : Trees) × MatchAll g w (put Xs d Y) ts' × (from_one (all_linearized g ts') d ≡ Some (linearized g t))
replace Xs ts zero X Y t m e h = absurd (let z : ◌≡◌ {A = ℕ} 0 1 = cc in omega arith)
replace Xs ts (suc i) X Y t m e h = replace_nth Xs ts i X Y t m e h

set_nth : {A : Type 0} (xs : List A) (i : ℕ) (x : A) → slice_get xs i ≡ Some x → set xs i x ≡ xs
set_nth [] i x e = refl
set_nth (y ∷ xs) zero x e = cc
set_nth (y ∷ xs) (suc i) x e = ap (λ zs. y ∷ zs) (set_nth xs i x e)

pub put_same : {A : Type 0} (xs : List A) (d : ℕ) (x : A) → from_one xs d ≡ Some x → put xs d x ≡ xs
put_same xs zero x e = refl
put_same xs (suc i) x e = set_nth xs i x e

nth_set : {A : Type 0} (xs : List A) (i : ℕ) (x y : A) → slice_get xs i ≡ Some x → slice_get (set xs i y) i ≡ Some y
nth_set [] i x y e = cc
nth_set (z ∷ xs) zero x y e = refl
nth_set (z ∷ xs) (suc i) x y e = nth_set xs i x y e

pub put_here : {A : Type 0} (xs : List A) (d : ℕ) (x y : A) → from_one xs d ≡ Some x → from_one (put xs d y) d ≡ Some y
put_here xs zero x y e = cc
put_here xs (suc i) x y e = nth_set xs i x y e

set_set_nth : {A : Type 0} (xs : List A) (i : ℕ) (x y : A) → slice_get xs i ≡ Some x → set (set xs i y) i x ≡ xs
set_set_nth [] i x y e = refl
set_set_nth (z ∷ xs) zero x y e = cc
set_set_nth (z ∷ xs) (suc i) x y e = ap (λ zs. z ∷ zs) (set_set_nth xs i x y e)

pub put_back : {A : Type 0} (xs : List A) (d : ℕ) (x y : A) → from_one xs d ≡ Some x → put (put xs d y) d x ≡ xs
put_back xs zero x y e = refl
put_back xs (suc i) x y e = set_set_nth xs i x y e

weaken_nth : {g : Grammar} {w : List ℕ} (Xs : List Phrase) (ts : Trees) (i : ℕ) (X Y : Phrase) → slice_get Xs i ≡ Some X
    → ((t : Tree) → Matches g w Y t → Matches g w X t) → MatchAll g w (set Xs i Y) ts → MatchAll g w Xs ts
weaken_nth [] ts i X Y e f m = absurd (let z : ◌≡◌ {A = ℕ} 0 1 = cc in omega arith)
weaken_nth (Z ∷ Xs) none zero X Y e f m = absurd m
weaken_nth (Z ∷ Xs) none (suc i) X Y e f m = absurd m
weaken_nth {g} {w} (Z ∷ Xs) (more t ts) zero X Y e f m = let q : X ≡ Z = cc in (rw q at (f t m.0), m.1)
weaken_nth (Z ∷ Xs) (more t ts) (suc i) X Y e f m = (m.0, weaken_nth Xs ts i X Y e f m.1)

-- What matches with Y for argument d matches with X there, if Y says more than X.
pub weaken : {g : Grammar} {w : List ℕ} (Xs : List Phrase) (ts : Trees) (d : ℕ) (X Y : Phrase) → from_one Xs d ≡ Some X
    → ((t : Tree) → Matches g w Y t → Matches g w X t) → MatchAll g w (put Xs d Y) ts → MatchAll g w Xs ts
weaken Xs ts zero X Y e f m = m
weaken Xs ts (suc i) X Y e f m = weaken_nth Xs ts i X Y e f m

pub match_trees : (g : Grammar) (w : List ℕ) (Xs : List Phrase) (ts : Trees) → MatchAll g w Xs ts → TreesOf g ts (map category Xs)
match_trees g w [] none m = tt
match_trees g w [] (more t ts) m = absurd m
match_trees g w (X ∷ Xs) none m = absurd m
match_trees g w (X ∷ Xs) (more t ts) m = (m.0.tree, match_trees g w Xs ts m.1)

-- Symbols one after another.
pub substituted_append : (σ : List (List (List ℕ))) (α β : List Symbol) → substituted σ (α ++ β) ≡ substituted σ α ++ substituted σ β
substituted_append σ [] β = refl
substituted_append σ (Token t ∷ α) β = ap (λ x. t ∷ x) (substituted_append σ α β)
substituted_append σ (Argument k l ∷ α) β = ap (λ x. part σ k l ++ x) (substituted_append σ α β) ∙ sym (append_assoc (part σ k l) (substituted σ α) (substituted σ β))

pub take_next : {A : Type 0} (xs : List A) (i : ℕ) (x : A) → slice_get xs i ≡ Some x → take (suc i) xs ≡ take i xs ++ (x ∷ [])
take_next [] i x e = cc
take_next (y ∷ xs) zero x e = cc
take_next (y ∷ xs) (suc i) x e = ap (λ zs. y ∷ zs) (take_next xs i x e)

pub around_next : {A : Type 0} (xs : List A) (i : ℕ) (x : A) → slice_get xs i ≡ Some x → xs ≡ take i xs ++ (x ∷ drop (suc i) xs)
around_next [] i x e = cc
around_next (y ∷ xs) zero x e = cc
around_next (y ∷ xs) (suc i) x e = ap (λ zs. y ∷ zs) (around_next xs i x e)

pub take_end : {A : Type 0} (xs : List A) (i : ℕ) → slice_get xs i ≡ None → take i xs ≡ xs
take_end [] zero e = refl
take_end [] (suc i) e = refl
take_end (y ∷ xs) zero e = cc
take_end (y ∷ xs) (suc i) e = ap (λ zs. y ∷ zs) (take_end xs i e)

pub part_at : (g : Grammar) (σ : List (List (List ℕ))) (d s : ℕ) (t : Tree) → from_one σ d ≡ Some (linearized g t) → part σ d s ≡ constituent g t s
part_at g σ d s t e = simp e

nth_map : (f : List Symbol → List ℕ) → f [] ≡ [] → (xs : List (List Symbol)) (i : ℕ) → unwrap_or (slice_get (map f xs) i) [] ≡ f (unwrap_or (slice_get xs i) [])
nth_map f z [] i = sym z
nth_map f z (x ∷ xs) zero = refl
nth_map f z (x ∷ xs) (suc i) = nth_map f z xs i

-- A constituent of a tree is its symbols' string.
pub constituent_node : (g : Grammar) (p : ℕ) (ts : Trees) (l : ℕ) → constituent g (node p ts) l ≡ substituted (all_linearized g ts) (symbols_of g p l)
constituent_node g p ts zero = refl
constituent_node g p ts (suc l) = nth_map (substituted (all_linearized g ts)) refl (constituents_at g p) l

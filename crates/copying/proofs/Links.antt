-- Places written with their links.
use Rattle.std.proofs.Common.{◌≡◌, ℕ, zero, suc, ◌<◌, Bool, true, false, cond, not, ◌&&◌, ◌||◌, eqb, ◌≢◌, List, [], ◌∷◌, length, get_or, set, replicate, Some, Option, unwrap_or, sym, refl, ap, ◌∙◌, subst, arith}
use mathlib.Core.Bool.{Bool-set}
use mathlib.Core.Logic.{∥∥₁_elim}
use native.Mathlib.Decide.{ℕ_discrete}
use Rattle.std.proofs.lemmas.List.{length-set, get_or-set_same, get_or-set_other, get_or-replicate}
use Rattle.std.proofs.lemmas.Bool.{eq-eqb, ne_eqb}
use Rattle.std.specs.List.{slice_get, AllByRecursion}
use Rattle.grammar.specs.Grammar.{Grammar, Production, production_at, place_at, arity_at}
use Rattle.grammar.specs.declared.Place as filled
use Rattle.faults.specs.Limits.{most_categories}
use Rattle.faults.specs.Parts.{arguments_of}
use Rattle.faults.specs.Sound.{Sound}
use Rattle.faults.specs.Tests.{some_of}
use Rattle.faults.proofs.Asked.{same_some, none_some}
use Rattle.faults.proofs.Made.{result_inside}
use Rattle.faults.proofs.Single.{production_there}
use Rattle.soundness.specs.Dead.{TreeTold, DeadTold}
use Rattle.soundness.specs.Heights.{LeastHeight, LeastHeights}
use Rattle.soundness.specs.Totals.{arguments_in}
use Rattle.soundness.proofs.Summed.{place_summand}
use Rattle.cells.specs.declared.Cell.{Cell}
use Rattle.cells.specs.declared.Row.{Row}
use Rattle.cells.specs.declared.Row.TheVariants.{Place}
use Rattle.copying.specs.Layout.{treeless, first_cell, place_row}
use Rattle.copying.specs.Places.{Firsts}
use Rattle.copying.specs.Written.{plain}
use Rattle.copying.proofs.Steps.{arguments_count}

-- whether a category has a tree, by its least height
pub treeless_told : (g : Grammar) (hs : List ℕ) (c : ℕ) (b : Bool) → LeastHeights g hs → TreeTold g c b → treeless hs c ≡ not b
treeless_told g hs c true least t = go (get_or hs c 0) (least c)
  where
    go : (h : ℕ) → LeastHeight g c h → eqb h 0 ≡ false
    go zero l = absurd (l.none refl t.0 t.1)
    go (suc h) l = ne_eqb (suc h) 0 (λ e. omega (arith, e))
treeless_told g hs c false least t = go (get_or hs c 0) (least c)
  where
    go : (h : ℕ) → LeastHeight g c h → eqb h 0 ≡ true
    go zero l = refl
    go (suc h) l = let s = l.some (omega arith) in absurd (t s.0 s.1)

pub some_at : {X : Type 0} (p : X → Bool) (xs : List X) (i : ℕ) (x : X) → slice_get xs i ≡ Some x → p x ≡ true → some_of p xs ≡ true
some_at p [] i x e h = absurd (none_some x (sym e))
some_at p (y ∷ ys) zero x e h = ap (λ (b : Bool). b || some_of p ys) (ap p (same_some y x e) ∙ h)
some_at p (y ∷ ys) (suc i) x e h = ap (λ (b : Bool). p y || b) (some_at p ys i x e h) ∙ or_true (p y)
  where
    or_true : (b : Bool) → (b || true) ≡ true
    or_true true = refl
    or_true false = refl

pub none_of : {X : Type 0} (p : X → Bool) (P : X → Type 0) → ((x : X) → P x → p x ≡ false) → (xs : List X) → AllByRecursion P xs → some_of p xs ≡ false
none_of p P h [] a = refl
none_of p P h (x ∷ xs) a = ap (λ (b : Bool). b || some_of p xs) (h x a.0) ∙ none_of p P h xs a.1

-- whether a place is dead, by the least heights
dead_told : (g : Grammar) (hs : List ℕ) (p : ℕ) (q : Production) (b : Bool) → LeastHeights g hs → production_at g p ≡ Some q → DeadTold g p b
    → some_of (treeless hs) q.arguments ≡ b
dead_told g hs p q true least e d =
    let same : d.0 ≡ q = same_some d.0 q (sym d.1 ∙ e) in
    let there : slice_get q.arguments d.2.0 ≡ Some d.2.1 = subst (λ (x : Production). slice_get x.arguments d.2.0 ≡ Some d.2.1) same d.2.2 in
    some_at (treeless hs) q.arguments d.2.0 d.2.1 there (treeless_told g hs d.2.1 false least d.2.3)
dead_told g hs p q false least e d = none_of (treeless hs) (λ c. TreeTold g c true) (λ c t. treeless_told g hs c true least t) q.arguments (d q e)

-- the same, where it is told by the least heights, and only known that they are the least
pub dead_by_heights : (g : Grammar) (hs : List ℕ) (p : ℕ) (q : Production) (b : Bool) → ∥ LeastHeights g hs ∥₁ → production_at g p ≡ Some q → (LeastHeights g hs → DeadTold g p b)
    → some_of (treeless hs) q.arguments ≡ b
dead_by_heights g hs p q b known e d = ∥∥₁_elim known (Bool-set _ _) (λ least. dead_told g hs p q b least e (d least))

-- the first places of each category, before a place that is live, and before one that is dead
pub firsts_live : (hs firsts : List ℕ) (cell : ℕ) (q : Production) (ps : List (Option Production)) → Firsts hs (suc cell) ps firsts → q.result < most_categories
    → some_of (treeless hs) q.arguments ≡ false → Firsts hs cell (Some q ∷ ps) (set firsts q.result cell)
firsts_live hs firsts cell q ps f l e = record { room = length-set firsts q.result cell ∙ f.room; each = at }
  where
    at : (c : ℕ) → c < most_categories → get_or (set firsts q.result cell) c 0 ≡ first_cell hs c cell (Some q ∷ ps)
    at c k = by (ℕ_discrete c q.result)
      where
        by : Dec (c ≡ q.result) → get_or (set firsts q.result cell) c 0 ≡ first_cell hs c cell (Some q ∷ ps)
        by (yes same) =
            let room : q.result < length firsts = omega (arith, f.room) in
            ap (λ (i : ℕ). get_or (set firsts q.result cell) i 0) same ∙ (get_or-set_same firsts q.result cell 0 room
            ∙ sym (ap (λ (b : Bool). cond (b && not (some_of (treeless hs) q.arguments)) cell (first_cell hs c (suc cell) ps)) (eq-eqb q.result c (sym same))
            ∙ ap (λ (b : Bool). cond (true && not b) cell (first_cell hs c (suc cell) ps)) e))
        by (no other) =
            let apart : c ≢ q.result = other in
            get_or-set_other firsts q.result c cell 0 apart ∙ (f.each c k
            ∙ sym (ap (λ (b : Bool). cond (b && not (some_of (treeless hs) q.arguments)) cell (first_cell hs c (suc cell) ps)) (ne_eqb q.result c (λ x. other (sym x)))))

pub firsts_dead : (hs firsts : List ℕ) (cell : ℕ) (q : Production) (ps : List (Option Production)) → Firsts hs (suc cell) ps firsts
    → some_of (treeless hs) q.arguments ≡ true → Firsts hs cell (Some q ∷ ps) firsts
firsts_dead hs firsts cell q ps f e = record { room = f.room; each = at }
  where
    and_false : (b : Bool) → (b && false) ≡ false
    and_false true = refl
    and_false false = refl

    at : (c : ℕ) → c < most_categories → get_or firsts c 0 ≡ first_cell hs c cell (Some q ∷ ps)
    at c k =
        f.each c k
        ∙ sym (ap (λ (b : Bool). cond (eqb q.result c && not b) cell (first_cell hs c (suc cell) ps)) e ∙ ap (λ (b : Bool). cond b cell (first_cell hs c (suc cell) ps)) (and_false (eqb q.result c)))

-- a filled place
pub place_row_lem : (g : Grammar) (hs firsts : List ℕ) (p cell first count : ℕ) (x : filled.Place) (ps : List (Option Production)) (cs after : List Cell) (q : Production)
    → production_at g p ≡ Some q → q.result ≡ x.result → q.function ≡ x.function → count ≡ length (arguments_of g p) → q.result < most_categories → Firsts hs (suc cell) ps firsts
    → after ≡ set cs cell (plain (Place x.result x.function first count (get_or firsts x.result 0)))
    → after ≡ set cs cell (plain (place_row hs cell first (production_at g p) ps))
place_row_lem g hs firsts p cell first count x ps cs after q e er ef ec l f w =
    let many : count ≡ length q.arguments = ec ∙ (arguments_count g p (production_at g p) refl ∙ ap arguments_in e) in
    let link : get_or firsts x.result 0 ≡ first_cell hs q.result (suc cell) ps = ap (λ (i : ℕ). get_or firsts i 0) (sym er) ∙ f.each q.result l in
    let row : Place x.result x.function first count (get_or firsts x.result 0) ≡ place_row hs cell first (Some q) ps = cc in
    w ∙ ap (λ (r : Row). set cs cell (plain r)) (row ∙ ap (λ (o : Option Production). place_row hs cell first o ps) (sym e))

-- the production behind a filled place, with its result and its function
pub behind : (g : Grammar) → Sound g → (p : ℕ) (x : filled.Place) → Some x ≡ place_at g p
    → (q : Production) × (production_at g p ≡ Some q) × (q.result ≡ x.result) × (q.function ≡ x.function) × (q.result < most_categories)
behind g s p x h =
    let q = production_there g p x h in
    (q.0, q.1, ap (λ (y : filled.Place). y.result) q.2, ap (λ (y : filled.Place). y.function) q.2, result_inside g s p q.0 q.1)

-- the arguments of a filled place are as many as its function takes
pub place_counted : (g : Grammar) → Sound g → (p : ℕ) (x : filled.Place) (count : ℕ) (o : Option ℕ) → Some x ≡ place_at g p → o ≡ arity_at g x.function → count ≡ unwrap_or o 0
    → (count ≡ length (arguments_of g p)) × (count ≡ arguments_in (production_at g p))
place_counted g s p x count o h e v =
    let n = place_summand g s p x count o h e v in
    (n, n ∙ arguments_count g p (production_at g p) refl)

-- of no places there is no first
pub firsts_zero : (hs : List ℕ) → Firsts hs 0 [] (replicate 64 0)
firsts_zero hs = record { room = refl; each = λ c l. get_or-replicate 64 c 0 0 l }

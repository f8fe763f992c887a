-- The links in the rows of a grammar go through its live places.
use Rattle.std.proofs.Common.{◌≡◌, ℕ, suc, ◌+◌, ◌-◌, ◌<◌, ◌≤◌, Bool, true, false, cond, not, ◌&&◌, eqb, ltb, List, [], ◌∷◌, length, get_or, drop, Some, None, Option, sym, refl, ap, ◌∙◌, subst, add-zero, zero-add, add-one, arith}
use native.Mathlib.Decide.{ℕ_discrete}
use Rattle.std.proofs.lemmas.List.{length-drop}
use Rattle.std.proofs.lemmas.Bool.{eq-eqb, eqb-true, eqb-false, lt-ltb, le-ltb, ltb-true, ltb-false, and_parts, or_parts, not-true, both_ways}
use Rattle.std.specs.List.{slice_get, AllByRecursion}
use Rattle.std.specs.Option.{option_map, option_flatten}
use Rattle.grammar.specs.Grammar.{Grammar, Production, production_at, and_then}
use Rattle.grammar.specs.Trees.{Tree, TreeOf}
use Rattle.faults.specs.Sound.{Sound}
use Rattle.faults.specs.Tests.{some_of}
use Rattle.faults.proofs.Asked.{same_some, none_some}
use Rattle.faults.proofs.Made.{below_there, there_below, production_sound}
use Rattle.soundness.specs.Heights.{LeastHeights}
use Rattle.cells.specs.declared.Row.{Row}
use Rattle.steps.specs.Live.{LiveOf, FirstLive}
use Rattle.rows.specs.declared.counts.Counts.{Counts}
use Rattle.rows.specs.Counted.{CountsOf}
use Rattle.rows.specs.Sorts.{first_live_in, place_in}
use Rattle.rows.specs.Meaning.{row_at, place_part}
use Rattle.rows.specs.Links.{place_of_cell, first_named, next_named, Linked}
use Rattle.rows.proofs.Reading.{read_at, read_past}
use Rattle.copying.specs.Layout.{treeless, makes, first_cell, places_at, arguments_at}
use Rattle.copying.specs.Copied.{grammar_part}
use Rattle.copying.proofs.Held.{row_of_category, row_of_place, standing, meant}
use Rattle.copying.proofs.Links.{treeless_told, none_of}
use Rattle.copying.proofs.Runs.{drop_there}

-- a place makes a category just where it is live with that result
live_makes : (g : Grammar) (hs : List ℕ) (c p : ℕ) (o : Option Production) → LeastHeights g hs → production_at g p ≡ o → LiveOf g c p → makes hs c o ≡ true
live_makes g hs c p None least e live = absurd (none_some live.0 (sym live.1.filled ∙ e))
live_makes g hs c p (Some q) least e live =
    let same : live.0 ≡ q = same_some live.0 q (sym live.1.filled ∙ e) in
    let result : q.result ≡ c = ap (λ (x : Production). x.result) (sym same) ∙ live.2 in
    let trees : AllByRecursion (λ k. (t : Tree) × TreeOf g t k) q.arguments = subst (λ (x : Production). AllByRecursion (λ k. (t : Tree) × TreeOf g t k) x.arguments) same live.1.trees in
    let none = none_of (treeless hs) (λ k. (t : Tree) × TreeOf g t k) (λ k t. treeless_told g hs k true least t) q.arguments trees in
    ap (λ (b : Bool). b && not (some_of (treeless hs) q.arguments)) (eq-eqb q.result c result) ∙ ap not none

trees_there : (g : Grammar) (hs : List ℕ) (cs : List ℕ) → LeastHeights g hs → some_of (treeless hs) cs ≡ false → AllByRecursion (λ c. (t : Tree) × TreeOf g t c) cs
trees_there g hs [] least e = tt
trees_there g hs (c ∷ cs) least e =
    let parts = or_parts (treeless hs c) (some_of (treeless hs) cs) e in
    let high : 0 < get_or hs c 0 = positive (get_or hs c 0) (eqb-false (get_or hs c 0) 0 parts.0) in
    let t = (least c).some high in
    ((t.0, t.1), trees_there g hs cs least parts.1)
  where
    positive : (h : ℕ) → (h ≡ 0 → ⊥) → 0 < h
    positive h n = omega arith

makes_live : (g : Grammar) (hs : List ℕ) (c p : ℕ) (o : Option Production) → LeastHeights g hs → production_at g p ≡ o → makes hs c o ≡ true → LiveOf g c p
makes_live g hs c p None least e m = absurd (let z : ◌≡◌ {A = ℕ} 0 1 = cc in omega arith)
makes_live g hs c p (Some q) least e m =
    let parts = and_parts (eqb q.result c) (not (some_of (treeless hs) q.arguments)) m in
    (q, record { filled = e; trees = trees_there g hs q.arguments least (not-true (some_of (treeless hs) q.arguments) parts.1) }, eqb-true q.result c parts.0)

-- the place of a cell
cell_of_place : (g : Grammar) (n : Counts) (m : ℕ) → CountsOf g n → m < length g.places → place_of_cell n (places_at g + m) ≡ Some m
cell_of_place g n m e l =
    let first : (place_part n).first ≡ places_at g = omega (arith, e.categories, e.functions) in
    let back : places_at g + m - (place_part n).first ≡ m = omega arith in
    let there : places_at g + m - (place_part n).first < n.places = omega (arith, e.places) in
    ap (λ (b : Bool). cond b None (cond (ltb (places_at g + m - (place_part n).first) n.places) (Some (places_at g + m - (place_part n).first)) None)) (le-ltb (places_at g + m) (place_part n).first (omega arith))
    ∙ (ap (λ (b : Bool). cond b (Some (places_at g + m - (place_part n).first)) None) (lt-ltb (places_at g + m - (place_part n).first) n.places there) ∙ ap (λ (k : ℕ). Some k) back)

no_cell : (g : Grammar) (n : Counts) → CountsOf g n → 0 < length g.dimensions → place_of_cell n 0 ≡ None
no_cell g n e l =
    ap (λ (b : Bool). cond b None (cond (ltb (0 - (place_part n).first) n.places) (Some (0 - (place_part n).first)) None)) (lt-ltb 0 (place_part n).first (omega (arith, e.categories, e.functions)))

-- past a place that is not live
live_after : (g : Grammar) (c m : ℕ) (r : Option ℕ) → (LiveOf g c m → ⊥) → FirstLive g c (suc m) r → FirstLive g c m r
live_after g c m None dead f = λ p l live. at_or_after p live l (ℕ_discrete p m)
  where
    at_or_after : (p : ℕ) → LiveOf g c p → m ≤ p → Dec (p ≡ m) → ⊥
    at_or_after p live l (yes same) = dead (subst (LiveOf g c) same live)
    at_or_after p live l (no other) = f p (omega arith) live
live_after g c m (Some p) dead f = (omega (arith, f.0), f.1, λ x l k live. at_or_after x live l k (ℕ_discrete x m))
  where
    at_or_after : (x : ℕ) → LiveOf g c x → m ≤ x → x < p → Dec (x ≡ m) → ⊥
    at_or_after x live l k (yes same) = dead (subst (LiveOf g c) same live)
    at_or_after x live l k (no other) = f.2 x (omega arith) k live

filled_below : (g : Grammar) (p : ℕ) (q : Production) → production_at g p ≡ Some q → (slice_get g.places p ≡ Some (Some q)) × (p < length g.places)
filled_below g p q e = let there = by_place (slice_get g.places p) e in (there, below_there g.places p (Some q) there)
  where
    by_place : (o : Option (Option Production)) → option_flatten o ≡ Some q → o ≡ Some (Some q)
    by_place None e = absurd (none_some q (sym e))
    by_place (Some x) e = ap (λ (y : Option Production). Some y) e

-- what stands at m, where the places from m on are known
places_from : (g : Grammar) (m : ℕ) (o : Option Production) (ps : List (Option Production)) → drop m g.places ≡ o ∷ ps
    → (m < length g.places) × (production_at g m ≡ o) × (drop (suc m) g.places ≡ ps)
places_from g m o ps d =
    let z : length (drop m g.places) ≡ suc (length ps) = ap length d in
    let inside : m < length g.places = omega (arith, length-drop m g.places) in
    let x = there_below g.places m inside in
    let s : x.0 ∷ drop (m + 1) g.places ≡ o ∷ ps = sym (drop_there g.places m x.0 x.1) ∙ d in
    let here : x.0 ≡ o = cc in
    let rest : drop (m + 1) g.places ≡ ps = cc in
    (inside, ap (λ (y : Option (Option Production)). option_flatten y) x.1 ∙ here, ap (λ (k : ℕ). drop k g.places) (sym (add-one m)) ∙ rest)

-- one place more in front of those that are linked
first_more : (g : Grammar) (hs : List ℕ) (n : Counts) (c m : ℕ) (o : Option Production) (ps : List (Option Production)) → LeastHeights g hs → CountsOf g n
    → m < length g.places → production_at g m ≡ o → FirstLive g c (suc m) (place_of_cell n (first_cell hs c (places_at g + suc m) ps))
    → (b : Bool) → makes hs c o ≡ b → FirstLive g c m (place_of_cell n (cond b (places_at g + m) (first_cell hs c (suc (places_at g + m)) ps)))
first_more g hs n c m o ps least e inside here f true k =
    subst (FirstLive g c m) (sym (cell_of_place g n m e inside)) (omega arith, makes_live g hs c m o least here k, λ x l h live. absurd (omega arith))
first_more g hs n c m o ps least e inside here f false k =
    let next : places_at g + suc m ≡ suc (places_at g + m) = omega arith in
    live_after g c m (place_of_cell n (first_cell hs c (suc (places_at g + m)) ps)) (λ live. both_ways (makes hs c o) k (live_makes g hs c m o least here live))
    (subst (λ (i : ℕ). FirstLive g c (suc m) (place_of_cell n (first_cell hs c i ps))) next f)

-- the link to the first of the places from m on is to the first live one
first_live : (g : Grammar) (hs : List ℕ) (n : Counts) (c : ℕ) → LeastHeights g hs → CountsOf g n → 0 < length g.dimensions → (m : ℕ) (ps : List (Option Production)) → drop m g.places ≡ ps
    → FirstLive g c m (place_of_cell n (first_cell hs c (places_at g + m) ps))
first_live g hs n c least e some m [] d =
    subst (FirstLive g c m) (sym (no_cell g n e some))
    (λ p l live. let b = filled_below g p live.0 live.1.filled in let z : length (drop m g.places) ≡ 0 = ap length d in omega (arith, z, length-drop m g.places, b.1))
first_live g hs n c least e some m (o ∷ ps) d =
    let at = places_from g m o ps d in
    first_more g hs n c m o ps least e at.0 at.1 (first_live g hs n c least e some (suc m) ps at.2) (makes hs c o) refl

-- a sound grammar has a category
some_category : (g : Grammar) → Sound g → 0 < length g.dimensions
some_category g s = let b = below_there g.dimensions g.start 1 s.start in omega arith

-- the link of a category
category_link : (g : Grammar) (hs : List ℕ) (n : Counts) (c : ℕ) → Sound g → LeastHeights g hs → CountsOf g n → FirstLive g c 0 (first_named (grammar_part g hs) n c)
category_link g hs n c sound least e = by (ltb c (length g.dimensions)) refl
  where
    by : (b : Bool) → ltb c (length g.dimensions) ≡ b → FirstLive g c 0 (first_named (grammar_part g hs) n c)
    by true l =
        let cells = grammar_part g hs in
        let row = row_of_category cells hs (places_at g) g.places 0 c g.dimensions (standing g hs).categories (ltb-true c (length g.dimensions) l) in
        let there : c < n.categories = omega (arith, ltb-true c (length g.dimensions) l, e.categories) in
        let named : first_named cells n c ≡ place_of_cell n (first_cell hs (0 + c) (places_at g) g.places) =
        ap (λ (o : Option Row). and_then o (λ r. place_of_cell n (first_live_in r))) (sym (read_at (λ (r : Row). r) cells 0 n.categories c there)) ∙ ap (λ (r : Row). place_of_cell n (first_live_in r)) row.1 in
        let from : place_of_cell n (first_cell hs c (places_at g + 0) g.places) ≡ place_of_cell n (first_cell hs (0 + c) (places_at g) g.places) =
        ap (λ (k : ℕ). place_of_cell n (first_cell hs c k g.places)) (add-zero (places_at g)) ∙ ap (λ (k : ℕ). place_of_cell n (first_cell hs k (places_at g) g.places)) (sym (zero-add c)) in
        subst (FirstLive g c 0) (from ∙ sym named) (first_live g hs n c least e (some_category g sound) 0 g.places refl)
    by false l =
        let past : n.categories ≤ c = omega (arith, ltb-false c (length g.dimensions) l, e.categories) in
        let named : first_named (grammar_part g hs) n c ≡ None =
        ap (λ (o : Option Row). and_then o (λ r. place_of_cell n (first_live_in r))) (sym (read_past (λ (r : Row). r) (grammar_part g hs) 0 n.categories c past)) in
        subst (FirstLive g c 0) (sym named)
        (λ p k live.
        let q = production_sound g sound p live.0 live.1.filled in
        let b = below_there g.dimensions live.0.result _ q.result in
        omega (arith, b, live.2, ltb-false c (length g.dimensions) l))

-- the link of a filled place
place_link : (g : Grammar) (hs : List ℕ) (n : Counts) (p : ℕ) (q : Production) → Sound g → LeastHeights g hs → CountsOf g n → production_at g p ≡ Some q → FirstLive g q.result (suc p) (next_named (grammar_part g hs) n p)
place_link g hs n p q sound least e filled =
    let cells = grammar_part g hs in
    let rest = drop (suc p) g.places in
    let b = filled_below g p q filled in
    let row = row_of_place cells hs (places_at g) (arguments_at g) p q g.places (standing g hs).places b.0 in
    let there : p < n.places = omega (arith, b.1, e.places) in
    let first : (place_part n).first ≡ places_at g = omega (arith, e.categories, e.functions) in
    let next : places_at g + suc p ≡ suc (places_at g + p) = omega arith in
    let named : next_named cells n p ≡ place_of_cell n (first_cell hs q.result (suc (places_at g + p)) rest) =
    ap (λ (o : Option Row). and_then (option_flatten (option_map place_in o)) (λ r. place_of_cell n r.next)) (sym (read_at (λ (r : Row). r) cells (place_part n).first n.places p there))
    ∙ (ap (λ (k : ℕ). and_then (place_in (row_at cells (k + p))) (λ r. place_of_cell n r.next)) first ∙ ap (λ (r : Row). and_then (place_in r) (λ x. place_of_cell n x.next)) row.1) in
    let from : place_of_cell n (first_cell hs q.result (places_at g + suc p) rest) ≡ place_of_cell n (first_cell hs q.result (suc (places_at g + p)) rest) =
    ap (λ (k : ℕ). place_of_cell n (first_cell hs q.result k rest)) next in
    subst (FirstLive g q.result (suc p)) (from ∙ sym named) (first_live g hs n q.result least e (some_category g sound) (suc p) rest refl)

-- the links of the rows
pub links : (g : Grammar) (hs : List ℕ) (n : Counts) → Sound g → LeastHeights g hs → CountsOf g n → Linked (grammar_part g hs) n
links g hs n sound least e =
    let same = meant g hs n e in
    record {
      first = λ c. subst (λ (x : Grammar). FirstLive x c 0 (first_named (grammar_part g hs) n c)) (sym same) (category_link g hs n c sound least e);
      next = λ p q filled.
          subst (λ (x : Grammar). FirstLive x q.result (suc p) (next_named (grammar_part g hs) n p)) (sym same)
          (place_link g hs n p q sound least e (subst (λ (x : Grammar). production_at x p ≡ Some q) same filled));
    }

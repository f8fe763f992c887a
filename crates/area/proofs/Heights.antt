-- The rows of a grammar depend on the least heights only, and these are determined: `one_part`.
use Rattle.std.proofs.Common.{◌≡◌, ℕ, zero, suc, ◌+◌, Bool, cond, not, ◌&&◌, ◌||◌, eqb, List, [], ◌∷◌, ◌++◌, map, length, get_or, Some, None, Option, sym, refl, ap, ◌∙◌, arith}
use Rattle.grammar.specs.Grammar.{Grammar, Production}
use Rattle.faults.specs.Tests.{some_of}
use Rattle.soundness.specs.Heights.{LeastHeight, LeastHeights}
use Rattle.soundness.specs.Totals.{arguments_in}
use Rattle.cells.specs.declared.Row.{Row}
use Rattle.cells.specs.declared.Row.TheVariants.{Category, Place}
use Rattle.copying.specs.Copied.{grammar_part}
use Rattle.copying.specs.Layout.{treeless, makes, first_cell, category_rows, function_rows, place_row, place_rows, all_constituents, all_symbols, all_arguments, later_rows, grammar_rows, places_at, constituents_at, symbols_at, arguments_at}
use Rattle.copying.specs.Written.{plain}

one_height : (g : Grammar) (c h k : ℕ) → LeastHeight g c h → LeastHeight g c k → h ≡ k
one_height g c zero zero a b = refl
one_height g c zero (suc k) a b = let t = b.some (omega arith) in absurd (a.none refl t.0 t.1)
one_height g c (suc h) zero a b = let t = a.some (omega arith) in absurd (b.none refl t.0 t.1)
one_height g c (suc h) (suc k) a b =
    let s = a.some (omega arith) in
    let t = b.some (omega arith) in
    let x = a.least (omega arith) t.0 t.1 in
    let y = b.least (omega arith) s.0 s.1 in
    omega (arith, x, y, s.2, t.2)

-- the lists have the same height for each category
abbrev Agree : List ℕ → List ℕ → Type 0
Agree hs ks = (c : ℕ) → get_or hs c 0 ≡ get_or ks c 0

some_treeless : (hs ks : List ℕ) → Agree hs ks → (cs : List ℕ) → some_of (treeless hs) cs ≡ some_of (treeless ks) cs
some_treeless hs ks e [] = refl
some_treeless hs ks e (c ∷ cs) =
    ap (λ (n : ℕ). eqb n 0 || some_of (treeless hs) cs) (e c) ∙ ap (λ (b : Bool). eqb (get_or ks c 0) 0 || b) (some_treeless hs ks e cs)

makes_same : (hs ks : List ℕ) → Agree hs ks → (c : ℕ) (o : Option Production) → makes hs c o ≡ makes ks c o
makes_same hs ks e c None = refl
makes_same hs ks e c (Some q) = ap (λ (b : Bool). eqb q.result c && not b) (some_treeless hs ks e q.arguments)

first_same : (hs ks : List ℕ) → Agree hs ks → (c cell : ℕ) (ps : List (Option Production)) → first_cell hs c cell ps ≡ first_cell ks c cell ps
first_same hs ks e c cell [] = refl
first_same hs ks e c cell (o ∷ ps) =
    ap (λ (b : Bool). cond b cell (first_cell hs c (suc cell) ps)) (makes_same hs ks e c o) ∙ ap (λ (n : ℕ). cond (makes ks c o) cell n) (first_same hs ks e c (suc cell) ps)

categories_same : (hs ks : List ℕ) → Agree hs ks → (cell : ℕ) (ps : List (Option Production)) (c : ℕ) (ds : List ℕ) → category_rows hs cell ps c ds ≡ category_rows ks cell ps c ds
categories_same hs ks e cell ps c [] = refl
categories_same hs ks e cell ps c (d ∷ ds) =
    ap (λ (h : ℕ). Category d h (first_cell hs c cell ps) ∷ category_rows hs cell ps (suc c) ds) (e c)
    ∙ (ap (λ (i : ℕ). Category d (get_or ks c 0) i ∷ category_rows hs cell ps (suc c) ds) (first_same hs ks e c cell ps)
    ∙ ap (λ (rows : List Row). Category d (get_or ks c 0) (first_cell ks c cell ps) ∷ rows) (categories_same hs ks e cell ps (suc c) ds))

place_same : (hs ks : List ℕ) → Agree hs ks → (cell first : ℕ) (o : Option Production) (ps : List (Option Production)) → place_row hs cell first o ps ≡ place_row ks cell first o ps
place_same hs ks e cell first None ps = refl
place_same hs ks e cell first (Some q) ps = ap (λ (i : ℕ). Place q.result q.function first (length q.arguments) i) (first_same hs ks e q.result (suc cell) ps)

places_same : (hs ks : List ℕ) → Agree hs ks → (cell first : ℕ) (ps : List (Option Production)) → place_rows hs cell first ps ≡ place_rows ks cell first ps
places_same hs ks e cell first [] = refl
places_same hs ks e cell first (o ∷ ps) =
    ap (λ (r : Row). r ∷ place_rows hs (suc cell) (first + arguments_in o) ps) (place_same hs ks e cell first o ps)
    ∙ ap (λ (rows : List Row). place_row ks cell first o ps ∷ rows) (places_same hs ks e (suc cell) (first + arguments_in o) ps)

later_same : (g : Grammar) (hs ks : List ℕ) → Agree hs ks → later_rows g hs ≡ later_rows g ks
later_same g hs ks e =
    ap (λ (rows : List Row). function_rows (constituents_at g) g.functions ++ (rows ++ (all_constituents (symbols_at g) g.functions ++ (all_symbols g.functions ++ all_arguments g.places))))
    (places_same hs ks e (places_at g) (arguments_at g) g.places)

rows_same : (g : Grammar) (hs ks : List ℕ) → Agree hs ks → grammar_rows g hs ≡ grammar_rows g ks
rows_same g hs ks e =
    ap (λ (rows : List Row). rows ++ later_rows g hs) (categories_same hs ks e (places_at g) g.places 0 g.dimensions)
    ∙ ap (λ (rows : List Row). category_rows ks (places_at g) g.places 0 g.dimensions ++ rows) (later_same g hs ks e)

pub one_part : (g : Grammar) (hs ks : List ℕ) → LeastHeights g hs → LeastHeights g ks → grammar_part g hs ≡ grammar_part g ks
one_part g hs ks a b = ap (λ (rows : List Row). map plain rows) (rows_same g hs ks (λ c. one_height g c (get_or hs c 0) (get_or ks c 0) (a c) (b c)))

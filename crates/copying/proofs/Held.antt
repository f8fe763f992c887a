-- What the rows of a grammar say, read from the cells in which they stand.
use Rattle.std.proofs.Common.{◌≡◌, ℕ, zero, suc, ◌+◌, ◌<◌, List, [], ◌∷◌, ◌++◌, map, length, get_or, drop, Some, None, Option, sym, refl, ap, ◌∙◌, subst, add-zero, arith}
use Rattle.std.proofs.lemmas.List.{length-map}
use Rattle.std.specs.List.{slice_get}
use Rattle.grammar.specs.declared.Symbol as symbol
use Rattle.grammar.specs.Grammar as grammar
use Rattle.grammar.specs.Grammar.{Grammar, Production}
use Rattle.faults.proofs.Asked.{same_some, none_some}
use Rattle.soundness.specs.Totals.{symbols_in, arguments_in}
use Rattle.cells.specs.declared.Cell.{Cell}
use Rattle.cells.specs.declared.Row.{Row}
use Rattle.cells.specs.declared.Row.TheVariants.{Category, Symbol, Argument}
use Rattle.rows.specs.declared.counts.Counts.{Counts}
use Rattle.rows.specs.Counted.{CountsOf}
use Rattle.rows.specs.Sorts.{dimension_in, symbol_in, argument_in}
use Rattle.rows.specs.Meaning.{row_at, read_from, constituent_read, function_read, place_read, rows_meaning}
use Rattle.copying.specs.Layout.{first_cell, category_rows, function_rows, place_row, place_rows, constituent_rows, all_constituents, spelt, symbol_rows, all_symbols, place_arguments, all_arguments, places_at, constituents_at, symbols_at, arguments_at, later_rows, grammar_rows}
use Rattle.copying.specs.Copied.{grammar_part}
use Rattle.copying.specs.Written.{plain}
use Rattle.copying.proofs.Steps.{length_constituents, length_symbols}
use Rattle.copying.proofs.Whole.{length_arguments, lengths}

-- the rows stand in the cells, from a cell on
abbrev pub Stands : List Cell → ℕ → List Row → Type 0
Stands cells cell [] = Unit {0}
Stands cells cell (r ∷ rs) = (row_at cells cell ≡ r) × Stands cells (suc cell) rs

stands_later : (c : Cell) (cells : List Cell) (cell : ℕ) (rs : List Row) → Stands cells cell rs → Stands (c ∷ cells) (suc cell) rs
stands_later c cells cell [] h = tt
stands_later c cells cell (r ∷ rs) h = (h.0, stands_later c cells (suc cell) rs h.1)

stands_all : (rs : List Row) → Stands (map plain rs) 0 rs
stands_all [] = tt
stands_all (r ∷ rs) = (refl, stands_later (plain r) (map plain rs) 0 rs (stands_all rs))

stands_parts : (cells : List Cell) (a b : ℕ) (xs ys : List Row) → a + length xs ≡ b → Stands cells a (xs ++ ys) → Stands cells a xs × Stands cells b ys
stands_parts cells a b [] ys e h = (tt, subst (λ (n : ℕ). Stands cells n ys) (sym (add-zero a) ∙ e) h)
stands_parts cells a b (x ∷ xs) ys e h = let rest = stands_parts cells (suc a) b xs ys (omega arith) h.1 in ((h.0, rest.0), rest.1)

same_cons : {X : Type 0} (x y : X) (xs ys : List X) → x ≡ y → xs ≡ ys → x ∷ xs ≡ y ∷ ys
same_cons x y xs ys e d = cc

read_all : {X : Type 0} (R : X → Row) (f : Row → X) → ((x : X) → f (R x) ≡ x) → (cells : List Cell) (cell : ℕ) (xs : List X) → Stands cells cell (map R xs)
    → read_from f cells cell (length xs) ≡ xs
read_all R f back cells cell [] h = refl
read_all R f back cells cell (x ∷ xs) h = same_cons _ x _ xs (ap f h.0 ∙ back x) (read_all R f back cells (suc cell) xs h.1)

read_constituents : (cells : List Cell) (cell first : ℕ) (αs : List (List symbol.Symbol)) → Stands cells cell (constituent_rows first αs) → Stands cells first (symbol_rows αs)
    → read_from (constituent_read cells) cells cell (length αs) ≡ αs
read_constituents cells cell first [] h s = refl
read_constituents cells cell first (α ∷ αs) h s =
    let many : length (spelt α) ≡ length α = length-map α (λ (x : symbol.Symbol). Symbol x) in
    let parts = stands_parts cells first (first + length α) (spelt α) (symbol_rows αs) (omega arith) s in
    same_cons _ α _ αs (ap (constituent_read cells) h.0 ∙ read_all (λ (x : symbol.Symbol). Symbol x) symbol_in (λ x. refl) cells first α parts.0)
    (read_constituents cells (suc cell) (first + length α) αs h.1 parts.1)

read_functions : (cells : List Cell) (cell first symbols : ℕ) (fs : List grammar.Function) → Stands cells cell (function_rows first fs)
    → Stands cells first (all_constituents symbols fs) → Stands cells symbols (all_symbols fs) → read_from (function_read cells) cells cell (length fs) ≡ fs
read_functions cells cell first symbols [] h k s = refl
read_functions cells cell first symbols (f ∷ fs) h k s =
    let few = length_constituents symbols f.constituents in
    let many : length (symbol_rows f.constituents) ≡ symbols_in f = length_symbols f.constituents in
    let ks = stands_parts cells first (first + length f.constituents) (constituent_rows symbols f.constituents) (all_constituents (symbols + symbols_in f) fs) (omega arith) k in
    let ss = stands_parts cells symbols (symbols + symbols_in f) (symbol_rows f.constituents) (all_symbols fs) (omega arith) s in
    let inside = read_constituents cells first symbols f.constituents ks.0 ss.0 in
    let here : function_read cells (row_at cells cell) ≡ f =
    ap (function_read cells) h.0 ∙ ap (λ (αs : List (List symbol.Symbol)). let made : grammar.Function = record { arity = f.arity; constituents = αs } in made) inside in
    same_cons _ f _ fs here (read_functions cells (suc cell) (first + length f.constituents) (symbols + symbols_in f) fs h.1 ks.1 ss.1)

read_place : (cells : List Cell) (hs : List ℕ) (cell first : ℕ) (o : Option Production) (ps : List (Option Production)) → row_at cells cell ≡ place_row hs cell first o ps
    → Stands cells first (place_arguments o) → place_read cells (row_at cells cell) ≡ o
read_place cells hs cell first None ps h s = ap (place_read cells) h
read_place cells hs cell first (Some q) ps h s =
    ap (place_read cells) h
    ∙ ap (λ (cs : List ℕ). let made : Production = record { result = q.result; function = q.function; arguments = cs } in Some made)
    (read_all (λ (c : ℕ). Argument c) argument_in (λ c. refl) cells first q.arguments s)

read_places : (cells : List Cell) (hs : List ℕ) (cell first : ℕ) (ps : List (Option Production)) → Stands cells cell (place_rows hs cell first ps)
    → Stands cells first (all_arguments ps) → read_from (place_read cells) cells cell (length ps) ≡ ps
read_places cells hs cell first [] h s = refl
read_places cells hs cell first (o ∷ ps) h s =
    let many = length_arguments o in
    let parts = stands_parts cells first (first + arguments_in o) (place_arguments o) (all_arguments ps) (omega arith) s in
    same_cons _ o _ ps (read_place cells hs cell first o ps h.0 parts.0) (read_places cells hs (suc cell) (first + arguments_in o) ps h.1 parts.1)

read_categories : (cells : List Cell) (hs : List ℕ) (cell : ℕ) (ps : List (Option Production)) (c : ℕ) (ds : List ℕ) → Stands cells c (category_rows hs cell ps c ds)
    → read_from dimension_in cells c (length ds) ≡ ds
read_categories cells hs cell ps c [] h = refl
read_categories cells hs cell ps c (d ∷ ds) h = same_cons _ d _ ds (ap dimension_in h.0) (read_categories cells hs cell ps (suc c) ds h.1)

-- the row of one category, and of one filled place
pub row_of_category : (cells : List Cell) (hs : List ℕ) (cell : ℕ) (ps : List (Option Production)) (from c : ℕ) (ds : List ℕ) → Stands cells from (category_rows hs cell ps from ds) → c < length ds
    → (d : ℕ) × (row_at cells (from + c) ≡ Category d (get_or hs (from + c) 0) (first_cell hs (from + c) cell ps))
row_of_category cells hs cell ps from c [] h l = absurd (omega arith)
row_of_category cells hs cell ps from zero (d ∷ ds) h l = (d, subst (λ (k : ℕ). row_at cells k ≡ Category d (get_or hs k 0) (first_cell hs k cell ps)) (sym (add-zero from)) h.0)
row_of_category cells hs cell ps from (suc c) (d ∷ ds) h l =
    let r = row_of_category cells hs cell ps (suc from) c ds h.1 (omega arith) in
    let e : suc from + c ≡ from + suc c = omega arith in
    (r.0, subst (λ (k : ℕ). row_at cells k ≡ Category r.0 (get_or hs k 0) (first_cell hs k cell ps)) e r.1)

pub row_of_place : (cells : List Cell) (hs : List ℕ) (cell first p : ℕ) (q : Production) (ps : List (Option Production)) → Stands cells cell (place_rows hs cell first ps) → slice_get ps p ≡ Some (Some q)
    → (k : ℕ) × (row_at cells (cell + p) ≡ place_row hs (cell + p) k (Some q) (drop (suc p) ps))
row_of_place cells hs cell first p q [] h e = absurd (none_some (Some q) (sym e))
row_of_place cells hs cell first zero q (o ∷ ps) h e =
    (first, subst (λ (k : ℕ). row_at cells k ≡ place_row hs k first (Some q) ps) (sym (add-zero cell)) (subst (λ (x : Option Production). row_at cells cell ≡ place_row hs cell first x ps) (same_some o (Some q) e) h.0))
row_of_place cells hs cell first (suc p) q (o ∷ ps) h e =
    let r = row_of_place cells hs (suc cell) (first + arguments_in o) p q ps h.1 e in
    let k : suc cell + p ≡ cell + suc p = omega arith in
    (r.0, subst (λ (x : ℕ). row_at cells x ≡ place_row hs x r.0 (Some q) (drop (suc p) ps)) k r.1)

-- where each sort of row stands
pub record Standing (g : Grammar) (hs : List ℕ) (cells : List Cell) : Type 0 where
  pub categories : Stands cells 0 (category_rows hs (places_at g) g.places 0 g.dimensions)
  pub functions : Stands cells (length g.dimensions) (function_rows (constituents_at g) g.functions)
  pub places : Stands cells (places_at g) (place_rows hs (places_at g) (arguments_at g) g.places)
  pub constituents : Stands cells (constituents_at g) (all_constituents (symbols_at g) g.functions)
  pub symbols : Stands cells (symbols_at g) (all_symbols g.functions)
  pub arguments : Stands cells (arguments_at g) (all_arguments g.places)

pub standing : (g : Grammar) (hs : List ℕ) → Standing g hs (grammar_part g hs)
standing g hs =
    let cells = grammar_part g hs in
    let l = lengths g hs in
    let C = category_rows hs (places_at g) g.places 0 g.dimensions in
    let F = function_rows (constituents_at g) g.functions in
    let P = place_rows hs (places_at g) (arguments_at g) g.places in
    let K = all_constituents (symbols_at g) g.functions in
    let S = all_symbols g.functions in
    let A = all_arguments g.places in
    let c = stands_parts cells 0 (length g.dimensions) C (later_rows g hs) (omega (arith, l.categories)) (stands_all (grammar_rows g hs)) in
    let f = stands_parts cells (length g.dimensions) (places_at g) F (P ++ (K ++ (S ++ A))) (omega (arith, l.functions)) c.1 in
    let p = stands_parts cells (places_at g) (constituents_at g) P (K ++ (S ++ A)) (omega (arith, l.places)) f.1 in
    let k = stands_parts cells (constituents_at g) (symbols_at g) K (S ++ A) (omega (arith, l.constituents)) p.1 in
    let s = stands_parts cells (symbols_at g) (arguments_at g) S A (omega (arith, l.symbols)) k.1 in
    record { categories = c.0; functions = f.0; places = p.0; constituents = k.0; symbols = s.0; arguments = s.1 }

-- the cells mean the grammar
pub meant : (g : Grammar) (hs : List ℕ) (n : Counts) → CountsOf g n → rows_meaning (grammar_part g hs) n ≡ g
meant g hs n e =
    let cells = grammar_part g hs in
    let st = standing g hs in
    let first : n.categories + n.functions ≡ places_at g = omega (arith, e.categories, e.functions) in
    let tokens : n.tokens ≡ g.tokens = e.tokens in
    let start : n.start ≡ g.start = e.start in
    let dimensions : read_from dimension_in cells 0 n.categories ≡ g.dimensions =
    ap (read_from dimension_in cells 0) e.categories ∙ read_categories cells hs (places_at g) g.places 0 g.dimensions st.categories in
    let functions : read_from (function_read cells) cells n.categories n.functions ≡ g.functions =
    ap (λ (k : ℕ). read_from (function_read cells) cells k n.functions) e.categories
    ∙ (ap (read_from (function_read cells) cells (length g.dimensions)) e.functions
    ∙ read_functions cells (length g.dimensions) (constituents_at g) (symbols_at g) g.functions st.functions st.constituents st.symbols) in
    let places : read_from (place_read cells) cells (n.categories + n.functions) n.places ≡ g.places =
    ap (λ (k : ℕ). read_from (place_read cells) cells k n.places) first
    ∙ (ap (read_from (place_read cells) cells (places_at g)) e.places ∙ read_places cells hs (places_at g) (arguments_at g) g.places st.places st.arguments) in
    same_grammar (rows_meaning cells n) g tokens start dimensions functions places
  where
    made : ℕ → ℕ → List ℕ → List grammar.Function → List (Option Production) → Grammar
    made t s d f p = record { tokens = t; start = s; dimensions = d; functions = f; places = p }

    same_grammar : (x y : Grammar) → x.tokens ≡ y.tokens → x.start ≡ y.start → x.dimensions ≡ y.dimensions → x.functions ≡ y.functions → x.places ≡ y.places → x ≡ y
    same_grammar x y t s d f p =
        ap (λ k. made k x.start x.dimensions x.functions x.places) t
        ∙ (ap (λ k. made y.tokens k x.dimensions x.functions x.places) s
        ∙ (ap (λ k. made y.tokens y.start k x.functions x.places) d
        ∙ (ap (λ k. made y.tokens y.start y.dimensions k x.places) f ∙ ap (λ k. made y.tokens y.start y.dimensions y.functions k) p)))

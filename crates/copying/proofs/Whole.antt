-- All rows of a grammar: how many there are, and how they are written. Assumes nothing.
use Rattle.std.proofs.Common.{◌≡◌, ℕ, suc, ◌+◌, ◌-◌, ◌≤◌, List, [], ◌∷◌, ◌++◌, length, drop, Some, None, sum_by, Option, sym, refl, ap, ◌∙◌, arith}
use Rattle.std.proofs.lemmas.List.{length-append, length-map}
use Rattle.std.proofs.lemmas.List.Sums.{sum_by-cons}
use Rattle.grammar.specs.Grammar as grammar
use Rattle.grammar.specs.Grammar.{Grammar, Production}
use Rattle.soundness.specs.Totals.{symbols_in, arguments_in, constituent_total, symbol_total, argument_total}
use Rattle.chart.specs.Chart.{grammar_cells}
use Rattle.cells.specs.declared.Cell.{Cell}
use Rattle.cells.specs.declared.Row.{Row}
use Rattle.cells.specs.declared.Row.TheVariants.{Argument}
use Rattle.copying.specs.Layout.{category_rows, function_rows, place_rows, all_constituents, symbol_rows, all_symbols, place_arguments, all_arguments, places_at, constituents_at, symbols_at, arguments_at, later_rows, grammar_rows}
use Rattle.copying.specs.Copied.{grammar_part}
use Rattle.copying.specs.Written.{plain, written}
use Rattle.copying.proofs.Runs.{written_append, written_apart, written_whole}
use Rattle.copying.proofs.Steps.{length_symbols, length_all_constituents}

length_categories : (hs : List ℕ) (cell : ℕ) (ps : List (Option Production)) (c : ℕ) (ds : List ℕ) → length (category_rows hs cell ps c ds) ≡ length ds
length_categories hs cell ps c [] = refl
length_categories hs cell ps c (d ∷ ds) = ap suc (length_categories hs cell ps (suc c) ds)

length_functions : (first : ℕ) (fs : List grammar.Function) → length (function_rows first fs) ≡ length fs
length_functions first [] = refl
length_functions first (f ∷ fs) = ap suc (length_functions (first + length f.constituents) fs)

length_places : (hs : List ℕ) (cell first : ℕ) (ps : List (Option Production)) → length (place_rows hs cell first ps) ≡ length ps
length_places hs cell first [] = refl
length_places hs cell first (o ∷ ps) = ap suc (length_places hs (suc cell) (first + arguments_in o) ps)

length_all_symbols : (fs : List grammar.Function) → length (all_symbols fs) ≡ sum_by symbols_in fs
length_all_symbols [] = refl
length_all_symbols (f ∷ fs) =
    let a = length-append (symbol_rows f.constituents) (all_symbols fs) in
    let b : length (symbol_rows f.constituents) ≡ symbols_in f = length_symbols f.constituents in
    let c = length_all_symbols fs in
    let d = sum_by-cons symbols_in f fs in
    omega arith

pub length_arguments : (o : Option Production) → length (place_arguments o) ≡ arguments_in o
length_arguments None = refl
length_arguments (Some q) = length-map q.arguments (λ (c : ℕ). Argument c)

length_all_arguments : (ps : List (Option Production)) → length (all_arguments ps) ≡ sum_by arguments_in ps
length_all_arguments [] = refl
length_all_arguments (o ∷ ps) =
    let a = length-append (place_arguments o) (all_arguments ps) in
    let b = length_arguments o in
    let c = length_all_arguments ps in
    let d = sum_by-cons arguments_in o ps in
    omega arith

-- how long the parts of the rows are
pub record Lengths (g : Grammar) (hs : List ℕ) : Type 0 where
  pub categories : length (category_rows hs (places_at g) g.places 0 g.dimensions) ≡ length g.dimensions
  pub functions : length (function_rows (constituents_at g) g.functions) ≡ length g.functions
  pub places : length (place_rows hs (places_at g) (arguments_at g) g.places) ≡ length g.places
  pub constituents : length (all_constituents (symbols_at g) g.functions) ≡ constituent_total g
  pub symbols : length (all_symbols g.functions) ≡ symbol_total g
  pub arguments : length (all_arguments g.places) ≡ argument_total g

pub lengths : (g : Grammar) (hs : List ℕ) → Lengths g hs
lengths g hs =
    record {
      categories = length_categories hs (places_at g) g.places 0 g.dimensions;
      functions = length_functions (constituents_at g) g.functions;
      places = length_places hs (places_at g) (arguments_at g) g.places;
      constituents = length_all_constituents (symbols_at g) g.functions;
      symbols = length_all_symbols g.functions;
      arguments = length_all_arguments g.places;
    }

pub length_grammar : (g : Grammar) (hs : List ℕ) → length (grammar_rows g hs) ≡ grammar_cells g
length_grammar g hs =
    let l = lengths g hs in
    let C = category_rows hs (places_at g) g.places 0 g.dimensions in
    let F = function_rows (constituents_at g) g.functions in
    let P = place_rows hs (places_at g) (arguments_at g) g.places in
    let K = all_constituents (symbols_at g) g.functions in
    let S = all_symbols g.functions in
    let A = all_arguments g.places in
    let cells : grammar_cells g ≡ length g.dimensions + length g.functions + constituent_total g + symbol_total g + length g.places + argument_total g = refl in
    omega (arith, cells, length-append C (later_rows g hs), length-append F (P ++ (K ++ (S ++ A))), length-append P (K ++ (S ++ A)), length-append K (S ++ A), length-append S A)

-- rows written after others
joined_rows : (xs ys : List Row) (a b : ℕ) (cs : List Cell) → a + length xs ≡ b → written b ys (written a xs cs) ≡ written a (xs ++ ys) cs
joined_rows xs ys a b cs e = ap (λ (n : ℕ). written n ys (written a xs cs)) (sym e) ∙ sym (written_append xs ys a cs)

pub assembled : (g : Grammar) (hs : List ℕ) (cs₀ cs₁ cs₂ cs₃ cs₄ cs₅ : List Cell) → grammar_cells g ≤ length cs₀
    → cs₁ ≡ written (length g.dimensions) (function_rows (constituents_at g) g.functions) cs₀
    → cs₂ ≡ written (places_at g) (place_rows hs (places_at g) (arguments_at g) g.places) cs₁
    → cs₃ ≡ written (symbols_at g) (all_symbols g.functions) (written (constituents_at g) (all_constituents (symbols_at g) g.functions) cs₂)
    → cs₄ ≡ written (arguments_at g) (all_arguments g.places) cs₃
    → cs₅ ≡ written 0 (category_rows hs (places_at g) g.places 0 g.dimensions) cs₄
    → cs₅ ≡ grammar_part g hs ++ drop (grammar_cells g) cs₀
assembled g hs cs₀ cs₁ cs₂ cs₃ cs₄ cs₅ room e₁ e₂ e₃ e₄ e₅ =
    let l = lengths g hs in
    let n = length g.dimensions in
    let C = category_rows hs (places_at g) g.places 0 g.dimensions in
    let F = function_rows (constituents_at g) g.functions in
    let P = place_rows hs (places_at g) (arguments_at g) g.places in
    let K = all_constituents (symbols_at g) g.functions in
    let S = all_symbols g.functions in
    let A = all_arguments g.places in
    let from₄ : cs₄ ≡ written (symbols_at g) (S ++ A) (written (constituents_at g) K cs₂) =
    e₄ ∙ (ap (written (arguments_at g) A) e₃ ∙ joined_rows S A (symbols_at g) (arguments_at g) (written (constituents_at g) K cs₂) (omega (arith, l.symbols))) in
    let from₃ : cs₄ ≡ written (constituents_at g) (K ++ (S ++ A)) cs₂ = from₄ ∙ joined_rows K (S ++ A) (constituents_at g) (symbols_at g) cs₂ (omega (arith, l.constituents)) in
    let from₂ : cs₄ ≡ written (places_at g) (P ++ (K ++ (S ++ A))) cs₁ =
    from₃ ∙ (ap (written (constituents_at g) (K ++ (S ++ A))) e₂ ∙ joined_rows P (K ++ (S ++ A)) (places_at g) (constituents_at g) cs₁ (omega (arith, l.places))) in
    let from₁ : cs₄ ≡ written n (later_rows g hs) cs₀ =
    from₂ ∙ (ap (written (places_at g) (P ++ (K ++ (S ++ A)))) e₁ ∙ joined_rows F (P ++ (K ++ (S ++ A))) n (places_at g) cs₀ (omega (arith, l.functions))) in
    let many = length_grammar g hs in
    e₅ ∙ (ap (written 0 C) from₁
    ∙ (written_apart C (later_rows g hs) 0 n cs₀ (omega (arith, l.categories))
    ∙ (joined_rows C (later_rows g hs) 0 n cs₀ (omega (arith, l.categories))
    ∙ (written_whole (grammar_rows g hs) cs₀ (omega arith) ∙ ap (λ (k : ℕ). grammar_part g hs ++ drop k cs₀) many))))

pub length_part : (g : Grammar) (hs : List ℕ) → length (grammar_part g hs) ≡ grammar_cells g
length_part g hs = length-map (grammar_rows g hs) plain ∙ length_grammar g hs

-- the same, with the cells as counted
pub copied_cells : (g : Grammar) (hs : List ℕ) (nc nf np nk ns na : ℕ) (cs₀ cs₁ cs₂ cs₃ cs₄ cs₅ : List Cell)
    → nc ≡ length g.dimensions → nf ≡ length g.functions → np ≡ length g.places → nk ≡ constituent_total g → ns ≡ symbol_total g → na ≡ argument_total g
    → grammar_cells g ≤ length cs₀
    → cs₁ ≡ written nc (function_rows (nc + nf + np) g.functions) cs₀
    → cs₂ ≡ written (nc + nf) (place_rows hs (nc + nf) (nc + nf + np + nk + ns + na - argument_total g) g.places) cs₁
    → cs₃ ≡ written (nc + nf + np + nk) (all_symbols g.functions) (written (nc + nf + np) (all_constituents (nc + nf + np + nk) g.functions) cs₂)
    → cs₄ ≡ written (nc + nf + np + nk + ns) (all_arguments g.places) cs₃
    → cs₅ ≡ written 0 (category_rows hs (nc + nf) g.places 0 g.dimensions) cs₄
    → cs₅ ≡ grammar_part g hs ++ drop (grammar_cells g) cs₀
copied_cells g hs nc nf np nk ns na cs₀ cs₁ cs₂ cs₃ cs₄ cs₅ ec ef ep ek es ea room e₁ e₂ e₃ e₄ e₅ =
    let p : nc + nf ≡ places_at g = omega arith in
    let k : nc + nf + np ≡ constituents_at g = omega arith in
    let s : nc + nf + np + nk ≡ symbols_at g = omega arith in
    let a : nc + nf + np + nk + ns ≡ arguments_at g = omega arith in
    let b : nc + nf + np + nk + ns + na - argument_total g ≡ arguments_at g = omega arith in
    assembled g hs cs₀ cs₁ cs₂ cs₃ cs₄ cs₅ room
    (e₁ ∙ (ap (λ (i : ℕ). written i (function_rows (nc + nf + np) g.functions) cs₀) ec ∙ ap (λ (i : ℕ). written (length g.dimensions) (function_rows i g.functions) cs₀) k))
    (e₂ ∙ (ap (λ (i : ℕ). written i (place_rows hs i (nc + nf + np + nk + ns + na - argument_total g) g.places) cs₁) p ∙ ap (λ (i : ℕ). written (places_at g) (place_rows hs (places_at g) i g.places) cs₁) b))
    (e₃ ∙ (ap (λ (i : ℕ). written i (all_symbols g.functions) (written (nc + nf + np) (all_constituents i g.functions) cs₂)) s
    ∙ ap (λ (i : ℕ). written (symbols_at g) (all_symbols g.functions) (written i (all_constituents (symbols_at g) g.functions) cs₂)) k))
    (e₄ ∙ ap (λ (i : ℕ). written i (all_arguments g.places) cs₃) a)
    (e₅ ∙ ap (λ (i : ℕ). written 0 (category_rows hs i g.places 0 g.dimensions) cs₄) p)

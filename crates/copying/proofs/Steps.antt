-- One more function, constituent, place, argument or category written.
use Rattle.std.proofs.Common.{◌≡◌, ℕ, zero, suc, ◌+◌, ◌<◌, ◌≤◌, List, [], ◌∷◌, ◌++◌, length, get_or, drop, set, Some, None, sum_by, Option, unwrap_or, sym, refl, ap, ◌∙◌, subst, add-one, arith}
use Rattle.std.proofs.lemmas.List.{length-append, length-map, length-drop}
use Rattle.std.proofs.lemmas.List.Sums.{sum_by-cons, sum_by-take-drop}
use Rattle.std.specs.List.{slice_get}
use Rattle.std.specs.Option.{option_map, option_flatten}
use Rattle.grammar.specs.declared.Symbol as symbol
use Rattle.grammar.specs.Grammar as grammar
use Rattle.grammar.specs.Grammar.{Grammar, Production, arity_at, constituent_count, dimension_at, production_at, constituent_at, from_one, and_then}
use Rattle.faults.specs.Limits.{most_categories, most_symbols}
use Rattle.faults.specs.Parts.{arguments_of, constituents_of, symbols_of}
use Rattle.faults.specs.Sound.{SoundConstituent, SoundFunction, Sound}
use Rattle.faults.proofs.Asked.{constituent_next, none_some}
use Rattle.faults.proofs.Made.{all_at, there_below, arguments_few}
use Rattle.soundness.specs.Totals.{constituents_in, symbols_in, arguments_in, argument_total}
use Rattle.cells.specs.declared.Cell.{Cell}
use Rattle.cells.specs.declared.Row.{Row}
use Rattle.cells.specs.declared.Row.TheVariants.{Category, Function, Constituent, Symbol, Argument}
use Rattle.copying.specs.Layout.{first_cell, category_rows, function_rows, place_row, place_rows, constituent_rows, all_constituents, spelt, symbol_rows, all_symbols, place_arguments, argument_rows, all_arguments}
use Rattle.copying.specs.Places.{Firsts}
use Rattle.copying.specs.Written.{plain, written}
use Rattle.copying.proofs.Runs.{written_append, written_set, written_apart, drop_there}

-- what is left of a list that is not at its end
pub left_there : {X : Type 0} (xs : List X) (i : ℕ) → i < length xs → (x : X) × (slice_get xs i ≡ Some x) × (drop i xs ≡ x ∷ drop (i + 1) xs)
left_there xs i l = let x = there_below xs i l in (x.0, x.1, drop_there xs i x.0 x.1)

sum_left : {X : Type 0} (f : X → ℕ) (xs : List X) (i : ℕ) (x : X) → drop i xs ≡ x ∷ drop (i + 1) xs → sum_by f (drop i xs) ≡ f x + sum_by f (drop (i + 1) xs)
sum_left f xs i x d = ap (sum_by f) d ∙ sum_by-cons f x (drop (i + 1) xs)

-- functions
pub functions_step : (g : Grammar) (i cell next arity count : ℕ) (cs after target : List Cell) → i < length g.functions
    → arity ≡ unwrap_or (arity_at g i) 0 → count ≡ unwrap_or (constituent_count g i) 0 → after ≡ set cs (cell + i) (plain (Function arity next count))
    → written (cell + i) (function_rows next (drop i g.functions)) cs ≡ target
    → (written (cell + (i + 1)) (function_rows (next + count) (drop (i + 1) g.functions)) after ≡ target)
    × (sum_by constituents_in (drop i g.functions) ≡ count + sum_by constituents_in (drop (i + 1) g.functions))
functions_step g i cell next arity count cs after target l ea ec w t =
    let f = left_there g.functions i l in
    let a : arity ≡ f.0.arity = ea ∙ ap (λ (o : Option grammar.Function). unwrap_or (option_map (λ h. h.arity) o) 0) f.1 in
    let c : count ≡ length f.0.constituents = ec ∙ ap (λ (o : Option grammar.Function). unwrap_or (option_map (λ h. length h.constituents) o) 0) f.1 in
    let n : cell + (i + 1) ≡ suc (cell + i) = omega arith in
    let rest = drop (i + 1) g.functions in
    let here : written (cell + i) (function_rows next (f.0 ∷ rest)) cs ≡ target = subst (λ fs. written (cell + i) (function_rows next fs) cs ≡ target) f.2 t in
    let same : after ≡ set cs (cell + i) (plain (Function f.0.arity next (length f.0.constituents))) = w ∙ ap (λ (r : Row). set cs (cell + i) (plain r)) (cc) in (
      ap (λ (k : ℕ). written k (function_rows (next + count) rest) after) n
          ∙ (ap (λ (k : ℕ). written (suc (cell + i)) (function_rows (next + k) rest) after) c ∙ (ap (written (suc (cell + i)) (function_rows (next + length f.0.constituents) rest)) same ∙ here)),
      omega (arith, c, sum_left constituents_in g.functions i f.0 f.2),
    )

-- constituents with their symbols
pub length_constituents : (first : ℕ) (αs : List (List symbol.Symbol)) → length (constituent_rows first αs) ≡ length αs
length_constituents first [] = refl
length_constituents first (α ∷ αs) = ap suc (length_constituents (first + length α) αs)

pub length_symbols : (αs : List (List symbol.Symbol)) → length (symbol_rows αs) ≡ sum_by length αs
length_symbols [] = refl
length_symbols (α ∷ αs) =
    let a = length-append (spelt α) (symbol_rows αs) in
    let b : length (spelt α) ≡ length α = length-map α (λ (s : symbol.Symbol). Symbol s) in
    let c = length_symbols αs in
    let d = sum_by-cons (λ (α : List symbol.Symbol). length α) α αs in
    omega arith

pub constituents_step : (αs : List (List symbol.Symbol)) (α : List symbol.Symbol) (i cell next end n : ℕ) (cs after after2 target : List Cell)
    → drop i αs ≡ α ∷ drop (i + 1) αs → cell + length αs ≤ next → i < length αs → end ≡ next + length α → n ≡ length α
    → after ≡ written next (spelt α) cs → after2 ≡ set after (cell + i) (plain (Constituent next n))
    → written next (symbol_rows (drop i αs)) (written (cell + i) (constituent_rows next (drop i αs)) cs) ≡ target
    → written end (symbol_rows (drop (i + 1) αs)) (written (cell + (i + 1)) (constituent_rows end (drop (i + 1) αs)) after2) ≡ target
constituents_step αs α i cell next end n cs after after2 target d apart l ee en w w2 t =
    let rest = drop (i + 1) αs in
    let k : cell + (i + 1) ≡ suc (cell + i) = omega arith in
    let r = plain (Constituent next (length α)) in
    let C = constituent_rows (next + length α) rest in
    let many : length (spelt α) ≡ length α = length-map α (λ (s : symbol.Symbol). Symbol s) in
    let left : length αs ≡ i + 1 + length rest = omega (arith, length-drop (i + 1) αs) in
    let clear : suc (cell + i) + length C ≤ next = omega (arith, length_constituents (next + length α) rest) in
    let here : written next (spelt α ++ symbol_rows rest) (written (suc (cell + i)) C (set cs (cell + i) r)) ≡ target =
    subst (λ βs. written next (symbol_rows βs) (written (cell + i) (constituent_rows next βs) cs) ≡ target) d t in
    let both : after2 ≡ written next (spelt α) (set cs (cell + i) r) =
    w2 ∙ (ap (λ (m : ℕ). set after (cell + i) (plain (Constituent next m))) en ∙ (ap (λ (x : List Cell). set x (cell + i) r) w ∙ written_set (spelt α) next (cell + i) r cs (omega arith))) in
    ap (λ (m : ℕ). written m (symbol_rows rest) (written (cell + (i + 1)) (constituent_rows m rest) after2)) ee
    ∙ (ap (λ (m : ℕ). written (next + length α) (symbol_rows rest) (written m C after2)) k
    ∙ (ap (λ (x : List Cell). written (next + length α) (symbol_rows rest) (written (suc (cell + i)) C x)) both
    ∙ (ap (written (next + length α) (symbol_rows rest)) (written_apart C (spelt α) (suc (cell + i)) next (set cs (cell + i) r) clear)
    ∙ (ap (λ (m : ℕ). written (next + m) (symbol_rows rest) (written next (spelt α) (written (suc (cell + i)) C (set cs (cell + i) r)))) (sym many)
    ∙ (sym (written_append (spelt α) (symbol_rows rest) next (written (suc (cell + i)) C (set cs (cell + i) r))) ∙ here)))))

-- the constituents of all functions, with their symbols
pub length_all_constituents : (first : ℕ) (fs : List grammar.Function) → length (all_constituents first fs) ≡ sum_by constituents_in fs
length_all_constituents first [] = refl
length_all_constituents first (f ∷ fs) =
    let a = length-append (constituent_rows first f.constituents) (all_constituents (first + symbols_in f) fs) in
    let b = length_constituents first f.constituents in
    let c = length_all_constituents (first + symbols_in f) fs in
    let d = sum_by-cons constituents_in f fs in
    omega arith

pub all_constituents_step : (fs : List grammar.Function) (f : grammar.Function) (i next symbols count end : ℕ) (cs after target : List Cell)
    → drop i fs ≡ f ∷ drop (i + 1) fs → next + sum_by constituents_in (drop i fs) ≤ symbols → count ≡ length f.constituents → end ≡ symbols + sum_by length f.constituents
    → after ≡ written symbols (symbol_rows f.constituents) (written next (constituent_rows symbols f.constituents) cs)
    → written symbols (all_symbols (drop i fs)) (written next (all_constituents symbols (drop i fs)) cs) ≡ target
    → written end (all_symbols (drop (i + 1) fs)) (written (next + count) (all_constituents end (drop (i + 1) fs)) after) ≡ target
all_constituents_step fs f i next symbols count end cs after target d apart ec ee w t =
    let rest = drop (i + 1) fs in
    let S = symbol_rows f.constituents in
    let C = constituent_rows symbols f.constituents in
    let far = symbols + symbols_in f in
    let base = written next C cs in
    let A = all_constituents far rest in
    let many : length S ≡ symbols_in f = length_symbols f.constituents in
    let few : length C ≡ length f.constituents = length_constituents symbols f.constituents in
    let clear : next + count + length A ≤ symbols = omega (arith, length_all_constituents far rest, sum_left constituents_in fs i f d, ec) in
    let here : written symbols (S ++ all_symbols rest) (written next (C ++ A) cs) ≡ target =
    subst (λ hs. written symbols (all_symbols hs) (written next (all_constituents symbols hs) cs) ≡ target) d t in
    let opened : written symbols (S ++ all_symbols rest) (written next (C ++ A) cs) ≡ written far (all_symbols rest) (written symbols S (written (next + count) A base)) =
    ap (written symbols (S ++ all_symbols rest)) (written_append C A next cs)
    ∙ (written_append S (all_symbols rest) symbols (written (next + length C) A base)
    ∙ (ap (λ (m : ℕ). written (symbols + m) (all_symbols rest) (written symbols S (written (next + length C) A base))) many
    ∙ ap (λ (m : ℕ). written far (all_symbols rest) (written symbols S (written (next + m) A base))) (few ∙ sym ec))) in
    ap (λ (m : ℕ). written m (all_symbols rest) (written (next + count) (all_constituents m rest) after)) ee
    ∙ (ap (λ (x : List Cell). written far (all_symbols rest) (written (next + count) A x)) w
    ∙ (ap (written far (all_symbols rest)) (written_apart A S (next + count) symbols base clear) ∙ (sym opened ∙ here)))

-- arguments
pub arguments_here : (g : Grammar) (p : ℕ) (o : Option Production) → production_at g p ≡ o → argument_rows (arguments_of g p) ≡ place_arguments o
arguments_here g p None e = ap (λ (x : Option Production). argument_rows (unwrap_or (option_map (λ q. q.arguments) x) [])) e
arguments_here g p (Some q) e = ap (λ (x : Option Production). argument_rows (unwrap_or (option_map (λ q. q.arguments) x) [])) e

pub arguments_count : (g : Grammar) (p : ℕ) (o : Option Production) → production_at g p ≡ o → length (arguments_of g p) ≡ arguments_in o
arguments_count g p None e = ap (λ (x : Option Production). length (unwrap_or (option_map (λ q. q.arguments) x) [])) e
arguments_count g p (Some q) e = ap (λ (x : Option Production). length (unwrap_or (option_map (λ q. q.arguments) x) [])) e

-- what is left of the places before the last of them is written
pub places_left : (g : Grammar) (p : ℕ) → p < length g.places → drop p g.places ≡ production_at g p ∷ drop (p + 1) g.places
places_left g p l =
    let o = left_there g.places p l in
    o.2 ∙ ap (λ (x : Option Production). x ∷ drop (p + 1) g.places) (sym (ap (λ (x : Option (Option Production)). option_flatten x) o.1))

pub all_arguments_step : (g : Grammar) (p next end : ℕ) (cs after target : List Cell) → p < length g.places
    → end ≡ next + length (arguments_of g p) → after ≡ written next (argument_rows (arguments_of g p)) cs
    → written next (all_arguments (drop p g.places)) cs ≡ target
    → written end (all_arguments (drop (p + 1) g.places)) after ≡ target
all_arguments_step g p next end cs after target l ee w t =
    let rest = drop (p + 1) g.places in
    let d = places_left g p l in
    let A = argument_rows (arguments_of g p) in
    let many : length A ≡ length (arguments_of g p) = length-map (arguments_of g p) (λ (c : ℕ). Argument c) in
    let same : place_arguments (production_at g p) ≡ A = sym (arguments_here g p (production_at g p) refl) in
    let here : written next (A ++ all_arguments rest) cs ≡ target =
    subst (λ xs. written next (xs ++ all_arguments rest) cs ≡ target) same (subst (λ ps. written next (all_arguments ps) cs ≡ target) d t) in
    let at : end ≡ next + length A = omega arith in
    ap (λ (m : ℕ). written m (all_arguments rest) after) at ∙ (ap (written (next + length A) (all_arguments rest)) w ∙ (sym (written_append A (all_arguments rest) next cs) ∙ here))

-- the arguments that are left, with those of the next place
pub place_sum : (g : Grammar) (p : ℕ) → p < length g.places → sum_by arguments_in (drop p g.places) ≡ arguments_in (production_at g p) + sum_by arguments_in (drop (p + 1) g.places)
place_sum g p l = sum_left arguments_in g.places p (production_at g p) (places_left g p l)

pub arguments_sum : (g : Grammar) (p : ℕ) → p < length g.places → sum_by arguments_in (drop p g.places) ≡ length (arguments_of g p) + sum_by arguments_in (drop (p + 1) g.places)
arguments_sum g p l = omega (arith, place_sum g p l, arguments_count g p (production_at g p) refl)

-- places, last to first
pub places_step : (g : Grammar) (hs : List ℕ) (p n cell first end : ℕ) (entry cs after : List Cell) → p < length g.places → n ≡ p + 1
    → first + arguments_in (production_at g p) ≡ end
    → after ≡ set cs (cell + p) (plain (place_row hs (cell + p) first (production_at g p) (drop (p + 1) g.places)))
    → cs ≡ written (cell + n) (place_rows hs (cell + n) end (drop n g.places)) entry
    → after ≡ written (cell + p) (place_rows hs (cell + p) first (drop p g.places)) entry
places_step g hs p n cell first end entry cs after l en part w t =
    let rest = drop (p + 1) g.places in
    let o = production_at g p in
    let r = plain (place_row hs (cell + p) first o rest) in
    let k : cell + n ≡ suc (cell + p) = omega arith in
    let R = place_rows hs (suc (cell + p)) (first + arguments_in o) rest in
    let rows : cs ≡ written (suc (cell + p)) R entry =
    t ∙ (ap (λ (m : ℕ). written (cell + n) (place_rows hs (cell + n) end (drop m g.places)) entry) en
    ∙ (ap (λ (m : ℕ). written m (place_rows hs m end rest) entry) k ∙ ap (λ (m : ℕ). written (suc (cell + p)) (place_rows hs (suc (cell + p)) m rest) entry) (sym part))) in
    w ∙ (ap (λ (x : List Cell). set x (cell + p) r) rows
    ∙ (written_set R (suc (cell + p)) (cell + p) r entry (omega arith)
    ∙ ap (λ (ps : List (Option Production)). written (cell + p) (place_rows hs (cell + p) first ps) entry) (sym (places_left g p l))))

-- categories
pub categories_step : (g : Grammar) (hs firsts : List ℕ) (c cell d h first : ℕ) (cs after target : List Cell) → c < length g.dimensions → c < most_categories
    → d ≡ unwrap_or (dimension_at g c) 0 → h ≡ get_or hs c 0 → first ≡ get_or firsts c 0 → Firsts hs cell g.places firsts
    → after ≡ set cs c (plain (Category d h first))
    → written c (category_rows hs cell g.places c (drop c g.dimensions)) cs ≡ target
    → written (c + 1) (category_rows hs cell g.places (c + 1) (drop (c + 1) g.dimensions)) after ≡ target
categories_step g hs firsts c cell d h first cs after target l few ed eh ef links w t =
    let x = left_there g.dimensions c l in
    let rest = drop (c + 1) g.dimensions in
    let k : c + 1 ≡ suc c = omega arith in
    let dim : d ≡ x.0 = ed ∙ ap (λ (o : Option ℕ). unwrap_or o 0) x.1 in
    let link = ef ∙ links.each c few in
    let here : written c (category_rows hs cell g.places c (x.0 ∷ rest)) cs ≡ target =
    subst (λ ds. written c (category_rows hs cell g.places c ds) cs ≡ target) x.2 t in
    let same : after ≡ set cs c (plain (Category x.0 (get_or hs c 0) (first_cell hs c cell g.places))) = w ∙ ap (λ (r : Row). set cs c (plain r)) (cc) in
    ap (λ (m : ℕ). written m (category_rows hs cell g.places m rest) after) k ∙ (ap (written (suc c) (category_rows hs cell g.places (suc c) rest)) same ∙ here)

-- the constituents of a function that is there, and the symbols of a constituent that is there
pub constituents_counted : (g : Grammar) (i count : ℕ) (o : Option ℕ) → o ≡ constituent_count g i → count ≡ unwrap_or o 0 → count ≡ length (constituents_of g i)
constituents_counted g i count o e h = h ∙ (ap (λ (x : Option ℕ). unwrap_or x 0) e ∙ by_function (slice_get g.functions i))
  where
    by_function : (x : Option grammar.Function) → unwrap_or (option_map (λ h. length h.constituents) x) 0 ≡ length (unwrap_or (option_map (λ h. h.constituents) x) [])
    by_function None = refl
    by_function (Some f) = refl

pub constituents_left : (g : Grammar) (f l : ℕ) → l < length (constituents_of g f) → drop l (constituents_of g f) ≡ symbols_of g f (l + 1) ∷ drop (l + 1) (constituents_of g f)
constituents_left g f l h =
    let α = left_there (constituents_of g f) l h in
    let e : symbols_of g f (l + 1) ≡ α.0 = ap (λ (o : Option (List symbol.Symbol)). unwrap_or o []) (constituent_next g f l ∙ α.1) in
    α.2 ∙ ap (λ (x : List symbol.Symbol). x ∷ drop (l + 1) (constituents_of g f)) (sym e)

pub symbols_few : (g : Grammar) → Sound g → (f k : ℕ) → length (symbols_of g f k) ≤ most_symbols
symbols_few g s f zero = by_function (slice_get g.functions f)
  where
    by_function : (o : Option grammar.Function) → length (unwrap_or (and_then o (λ h. from_one h.constituents 0)) []) ≤ most_symbols
    by_function None = omega arith
    by_function (Some h) = omega arith
symbols_few g s f (suc l) = subst (λ (k : ℕ). length (symbols_of g f k) ≤ most_symbols) (add-one l) (by_constituent (constituent_at g f (l + 1)) (constituent_next g f l))
  where
    within : (o : Option grammar.Function) (α : List symbol.Symbol) → ((h : grammar.Function) → o ≡ Some h → SoundFunction g.tokens h)
        → slice_get (unwrap_or (option_map (λ h. h.constituents) o) []) l ≡ Some α → length α ≤ most_symbols
    within None α k e = absurd (none_some α (sym e))
    within (Some h) α k e = (all_at (SoundConstituent g.tokens h.arity) h.constituents l α (k h refl).each e).few

    by_constituent : (o : Option (List symbol.Symbol)) → o ≡ slice_get (constituents_of g f) l → length (unwrap_or o []) ≤ most_symbols
    by_constituent None e = omega arith
    by_constituent (Some α) e = within (slice_get g.functions f) α (λ h k. all_at (SoundFunction g.tokens) g.functions f h s.each_function k) (sym e)

pub all_constituents_turn : (g : Grammar) (i next symbols count end : ℕ) (cs after target : List Cell) → i < length g.functions
    → next + sum_by constituents_in (drop i g.functions) ≤ symbols → count ≡ length (constituents_of g i) → end ≡ symbols + sum_by length (constituents_of g i)
    → after ≡ written symbols (symbol_rows (constituents_of g i)) (written next (constituent_rows symbols (constituents_of g i)) cs)
    → written symbols (all_symbols (drop i g.functions)) (written next (all_constituents symbols (drop i g.functions)) cs) ≡ target
    → written end (all_symbols (drop (i + 1) g.functions)) (written (next + count) (all_constituents end (drop (i + 1) g.functions)) after) ≡ target
all_constituents_turn g i next symbols count end cs after target l apart ec ee w t =
    let f = left_there g.functions i l in
    let e : constituents_of g i ≡ f.0.constituents = ap (λ (o : Option grammar.Function). unwrap_or (option_map (λ h. h.constituents) o) []) f.1 in
    all_constituents_step g.functions f.0 i next symbols count end cs after target f.2 apart (ec ∙ ap (λ (αs : List (List symbol.Symbol)). length αs) e)
    (ee ∙ ap (λ (αs : List (List symbol.Symbol)). symbols + sum_by length αs) e)
    (w ∙ ap (λ (αs : List (List symbol.Symbol)). written symbols (symbol_rows αs) (written next (constituent_rows symbols αs) cs)) e) t

pub sums_left : (g : Grammar) (i : ℕ) → i < length g.functions
    → (sum_by constituents_in (drop i g.functions) ≡ length (constituents_of g i) + sum_by constituents_in (drop (i + 1) g.functions))
    × (sum_by symbols_in (drop i g.functions) ≡ sum_by length (constituents_of g i) + sum_by symbols_in (drop (i + 1) g.functions))
sums_left g i l =
    let f = left_there g.functions i l in
    let e : constituents_of g i ≡ f.0.constituents = ap (λ (o : Option grammar.Function). unwrap_or (option_map (λ h. h.constituents) o) []) f.1 in (
      sum_left constituents_in g.functions i f.0 f.2 ∙ ap (λ (αs : List (List symbol.Symbol)). length αs + sum_by constituents_in (drop (i + 1) g.functions)) (sym e),
      sum_left symbols_in g.functions i f.0 f.2 ∙ ap (λ (αs : List (List symbol.Symbol)). sum_by length αs + sum_by symbols_in (drop (i + 1) g.functions)) (sym e),
    )

pub arguments_within : (g : Grammar) → Sound g → (p : ℕ) → length (arguments_of g p) ≤ 3
arguments_within g s p = by_production (production_at g p) (λ q e. arguments_few g s p q e)
  where
    by_production : (o : Option Production) → ((q : Production) → o ≡ Some q → length q.arguments ≤ 3) → length (unwrap_or (option_map (λ q. q.arguments) o) []) ≤ 3
    by_production None h = omega arith
    by_production (Some q) h = h q refl

pub constituents_sum : (g : Grammar) (f l : ℕ) → l < length (constituents_of g f)
    → sum_by length (drop l (constituents_of g f)) ≡ length (symbols_of g f (l + 1)) + sum_by length (drop (l + 1) (constituents_of g f))
constituents_sum g f l h = sum_left (λ (α : List symbol.Symbol). length α) (constituents_of g f) l (symbols_of g f (l + 1)) (constituents_left g f l h)

-- the arguments of a place and of those after it are some of all arguments
pub sum_within : (g : Grammar) (p n : ℕ) → n ≡ p + 1 → p < length g.places → arguments_in (production_at g p) + sum_by arguments_in (drop n g.places) ≤ argument_total g
sum_within g p n e l =
    let a = place_sum g p l in
    let b = ap (λ (k : ℕ). sum_by arguments_in (drop k g.places)) e in
    let c = sum_by-take-drop arguments_in g.places p in
    omega arith

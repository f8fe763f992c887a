-- What an area holds is one (`one_held`), and so are the cells that hold no fact (`one_rest`); an area is too short where the cells in use
-- are more than it has (`more_in_use`); and opening has one answer (`one_opening`).
use Rattle.std.proofs.Common.{◌≡◌, ℕ, suc, ◌+◌, ◌-◌, ◌<◌, ◌≤◌, ◌⊎◌, List, [], length, get_or, take, Some, None, Ok, Err, Option, sym, refl, ap, ◌∙◌, inl, inr, arith}
use Rattle.std.proofs.lemmas.Bool.{cases_lt}
use Rattle.std.proofs.lemmas.List.{ext_get_or, get_or-take, get_or_past}
use Rattle.grammar.specs.Grammar.{Grammar}
use Rattle.grammar.specs.Trees.{Tree, StartTree}
use Rattle.faults.specs.declared.refusal.Fault.{Fault}
use Rattle.faults.specs.declared.refusal.Fault.TheVariants.{OverLimit, NamesNothing, DoesNotFit, NoStartTree}
use Rattle.faults.specs.Faults.{first_fault}
use Rattle.faults.specs.Sound.{Sound}
use Rattle.faults.proofs.Exact.{sound_faultless}
use Rattle.soundness.specs.Opening.{Refused}
use Rattle.soundness.specs.Totals.{constituent_total, symbol_total, argument_total}
use Rattle.chart.specs.Chart.{Chart, CellsInUse, grammar_cells}
use Rattle.chart.proofs.Counting.{no_longer, same_length}
use Rattle.cells.specs.declared.Cell.{Cell}
use Rattle.cells.specs.declared.Row.{Row}
use Rattle.cells.specs.declared.Row.TheVariants.{Token}
use Rattle.cells.specs.Facts.{zero_cell}
use Rattle.rows.specs.declared.counts.Counts.{Counts}
use Rattle.rows.specs.Counted.{CountsOf, cells_counted}
use Rattle.copying.specs.Written.{plain}
use Rattle.fact_log.specs.Index.{cell_of}
use Rattle.closing.specs.Ready.{grammar_in}
use Rattle.extending.specs.Charted.{facts_from}
use Rattle.extending.proofs.Counted.{charted_list, log_length}
use Rattle.area.specs.declared.numbers.Numbers.{Numbers}
use Rattle.area.specs.declared.fault.OpeningFault.TheVariants.{Unsound, TooShort}
use Rattle.area.specs.Held.{Held, TooFew, TokensIn}
use Rattle.area.specs.Theorems.{OneHeld, OneRest, MoreInUse, OneOpening}
use Rattle.area.proofs.Heights.{one_part}

-- the cells that a grammar takes, by its counts
cells_by_counts : (g : Grammar) (n : Counts) → CountsOf g n → grammar_cells g ≡ cells_counted n
cells_by_counts g n k =
    let cells : grammar_cells g ≡ length g.dimensions + length g.functions + constituent_total g + symbol_total g + length g.places + argument_total g = refl in
    omega (arith, cells, k.categories, k.functions, k.constituents, k.symbols, k.places, k.arguments)

token_apart : (t u : ℕ) → plain (Token t) ≡ plain (Token u) → t ≡ u
token_apart t u e = let r : ◌≡◌ {A = Row} (Token t) (Token u) = ap (λ (c : Cell). c.row) e in cc

one_tokens : (cs : List Cell) (w v : List ℕ) → length w ≡ length v → TokensIn cs w → TokensIn cs v → w ≡ v
one_tokens cs w v e a b = ext_get_or 0 w v e (λ i lt. token_apart (get_or w i 0) (get_or v i 0) (sym (a i lt) ∙ b i (omega (arith, e, lt))))

pub one_held : OneHeld
one_held g h w v cs n p q =
    let cells : grammar_cells g ≡ grammar_cells h = cells_by_counts g n.counts p.counted ∙ sym (cells_by_counts h n.counts q.counted) in
    (sym p.meant ∙ (ap (λ (b : ℕ). grammar_in cs b n.counts) cells ∙ q.meant), one_tokens cs w v (sym p.many ∙ q.many) p.tokens q.tokens)

one_counts : (g : Grammar) (m n : Counts) → CountsOf g m → CountsOf g n → m ≡ n
one_counts g m n a b =
    let tokens : m.tokens ≡ n.tokens = a.tokens ∙ sym b.tokens in
    let start : m.start ≡ n.start = a.start ∙ sym b.start in
    let categories : m.categories ≡ n.categories = a.categories ∙ sym b.categories in
    let functions : m.functions ≡ n.functions = a.functions ∙ sym b.functions in
    let constituents : m.constituents ≡ n.constituents = a.constituents ∙ sym b.constituents in
    let symbols : m.symbols ≡ n.symbols = a.symbols ∙ sym b.symbols in
    let places : m.places ≡ n.places = a.places ∙ sym b.places in
    let arguments : m.arguments ≡ n.arguments = a.arguments ∙ sym b.arguments in
    λ i. record {
      tokens = tokens i;
      start = start i;
      categories = categories i;
      functions = functions i;
      constituents = constituents i;
      symbols = symbols i;
      places = places i;
      arguments = arguments i;
    }

one_end : (g : Grammar) (w : List ℕ) (cs ds : List Cell) (m n : Numbers) → Held g w cs m → Held g w ds n → m.end ≡ n.end
one_end g w cs ds m n p q =
    let gc = grammar_cells g in
    let a = charted_list g w cs gc m.end (length cs - length w) p.charted in
    let b = charted_list g w ds gc n.end (length ds - length w) q.charted in
    let same = same_length (Chart g w) (facts_from cs gc (m.end - gc)) (facts_from ds gc (n.end - gc)) a b in
    let long = log_length cs gc m.end (length cs - length w) p.charted.state.log in
    let also = log_length ds gc n.end (length ds - length w) q.charted.state.log in
    let begun = p.charted.state.log.begun in
    let too = q.charted.state.log.begun in
    omega (arith, same, long, also, begun, too)

pub one_numbers : (g : Grammar) (w : List ℕ) (cs ds : List Cell) (m n : Numbers) → Held g w cs m → Held g w ds n → m ≡ n
one_numbers g w cs ds m n p q =
    let counts : m.counts ≡ n.counts = one_counts g m.counts n.counts p.counted q.counted in
    let held : m.held ≡ n.held = p.many ∙ sym q.many in
    let end : m.end ≡ n.end = one_end g w cs ds m n p q in
    λ i. record { counts = counts i; held = held i; end = end i }

-- the cells of the grammar
row_same : (cs ds : List Cell) (k p : ℕ) → p < k → take k cs ≡ take k ds → cell_of cs p ≡ cell_of ds p
row_same cs ds k p lt e = sym (get_or-take k cs p zero_cell lt) ∙ (ap (λ (xs : List Cell). get_or xs p zero_cell) e ∙ get_or-take k ds p zero_cell lt)

-- the cells after the facts
after_same : (g : Grammar) (w : List ℕ) (cs ds : List Cell) (m n : Numbers) → Held g w cs m → Held g w ds n → length cs ≡ length ds → (p : ℕ) → m.end ≤ p → cell_of cs p ≡ cell_of ds p
after_same g w cs ds m n a b e p le =
    let ends = one_end g w cs ds m n a b in
    elim (cases_lt p (length cs - length w)) [
      | inl lt ↦ a.charted.state.log.zero p le lt ∙ sym (b.charted.state.log.zero p (omega (arith, le, ends)) (omega (arith, lt, e)))
      | inr ge ↦ elim (cases_lt p (length cs)) [
        | inl inside ↦
            let fits = a.fits in
            let i = length cs - suc p in
            let at : length cs - suc i ≡ p = omega (arith, inside) in
            let too : length ds - suc i ≡ p = omega (arith, inside, e) in
            let lt : i < length w = omega (arith, inside, ge, fits) in
            sym (ap (cell_of cs) at) ∙ (a.tokens i lt ∙ (sym (b.tokens i lt) ∙ ap (cell_of ds) too))
        | inr past ↦ get_or_past cs p zero_cell past ∙ sym (get_or_past ds p zero_cell (omega (arith, past, e)))
      ]
    ]

pub one_rest : OneRest
one_rest g w cs ds m n a b = (
  one_numbers g w cs ds m n a b,
  λ e p where_at. elim where_at [
    | inl lt ↦ row_same cs ds (grammar_cells g) p lt (a.rows ∙ (one_part g a.heights b.heights a.least b.least ∙ sym b.rows))
    | inr le ↦ after_same g w cs ds m n a b e p le
  ],
)

pub more_in_use : MoreInUse
more_in_use g w len n k = (
  λ few.
      let most = no_longer few.facts k.facts few.apart (λ z m. (k.listed.exactly z).1 (few.sound z m)) in
      omega (arith, few.more, k.total, most),
  λ lt. record { facts = k.facts; apart = k.listed.apart; sound = λ z m. (k.listed.exactly z).0 m; more = omega (arith, k.total, lt) },
)

-- the cells in use are those up to where the facts end, and one for each token
pub used : (g : Grammar) (w : List ℕ) (cs : List Cell) (n : Numbers) → Held g w cs n → CellsInUse g w (n.end + n.held)
used g w cs n h =
    let gc = grammar_cells g in
    let limit = length cs - length w in
    let l = h.charted.state.log in
    let size = log_length cs gc n.end limit l in
    let begun = l.begun in
    let many = h.many in
    record { facts = facts_from cs gc (n.end - gc); listed = charted_list g w cs gc n.end limit h.charted; total = omega arith }

-- the facts and the tokens have room in the area
pub in_area : (g : Grammar) (w : List ℕ) (cs : List Cell) (n : Numbers) → Held g w cs n → n.end + n.held ≤ length cs
in_area g w cs n h =
    let within = h.charted.state.log.within in
    let many = h.many in
    let fits = h.fits in
    omega arith

-- what is in use fits, so that the area is not too short
pub not_short : (g : Grammar) (w : List ℕ) (len n : ℕ) → CellsInUse g w n → n ≤ len → TooFew g w len → ⊥
not_short g w len n k le few = omega (arith, le, (more_in_use g w len n k).0 few)

-- the first fault of a grammar that is refused so
abbrev first_told : Fault → Option Fault
first_told (OverLimit x) = Some (OverLimit x)
first_told (NamesNothing x) = Some (NamesNothing x)
first_told (DoesNotFit x) = Some (DoesNotFit x)
first_told NoStartTree = None

first_is : (g : Grammar) (f : Fault) → Refused g f → first_fault g ≡ first_told f
first_is g (OverLimit x) k = k
first_is g (NamesNothing x) k = k
first_is g (DoesNotFit x) k = k
first_is g NoStartTree k = k.0

told_apart : (e f : Fault) → first_told e ≡ first_told f → e ≡ f
told_apart (OverLimit x) (OverLimit y) k = cc
told_apart (OverLimit x) (NamesNothing y) k = cc
told_apart (OverLimit x) (DoesNotFit y) k = cc
told_apart (OverLimit x) NoStartTree k = cc
told_apart (NamesNothing x) (OverLimit y) k = cc
told_apart (NamesNothing x) (NamesNothing y) k = cc
told_apart (NamesNothing x) (DoesNotFit y) k = cc
told_apart (NamesNothing x) NoStartTree k = cc
told_apart (DoesNotFit x) (OverLimit y) k = cc
told_apart (DoesNotFit x) (NamesNothing y) k = cc
told_apart (DoesNotFit x) (DoesNotFit y) k = cc
told_apart (DoesNotFit x) NoStartTree k = cc
told_apart NoStartTree (OverLimit y) k = cc
told_apart NoStartTree (NamesNothing y) k = cc
told_apart NoStartTree (DoesNotFit y) k = cc
told_apart NoStartTree NoStartTree k = refl

pub one_refusal : (g : Grammar) (e f : Fault) → Refused g e → Refused g f → e ≡ f
one_refusal g e f a b = told_apart e f (sym (first_is g e a) ∙ first_is g f b)

none_some : (x : Fault) (o : Option Fault) → o ≡ None → o ≡ Some x → ⊥
none_some x o a b = let e : ◌≡◌ {A = Option Fault} None (Some x) = sym a ∙ b in let z : ◌≡◌ {A = ℕ} 0 1 = cc in omega arith

-- a sound grammar with a start tree is not refused
pub not_refused : (g : Grammar) → Sound g → (t : Tree) × StartTree g t → (f : Fault) → Refused g f → ⊥
not_refused g s t (OverLimit x) k = none_some (OverLimit x) (first_fault g) (sound_faultless g s) k
not_refused g s t (NamesNothing x) k = none_some (NamesNothing x) (first_fault g) (sound_faultless g s) k
not_refused g s t (DoesNotFit x) k = none_some (DoesNotFit x) (first_fault g) (sound_faultless g s) k
not_refused g s t NoStartTree k = k.1 t.0 t.1

-- an area that holds the grammar is not too short for it
held_long : (g : Grammar) (cs : List Cell) (n : Numbers) (len : ℕ) → length cs ≡ len → Held g [] cs n → TooFew g [] len → ⊥
held_long g cs n len e h few = not_short g [] len (n.end + n.held) (used g [] cs n h) (omega (arith, e, in_area g [] cs n h)) few

pub one_opening : OneOpening
one_opening g cs ds (Ok m) (Ok n) e a b = ap Ok (one_numbers g [] cs ds m n a.0 b.0)
one_opening g cs ds (Ok m) (Err (Unsound f)) e a b = absurd (not_refused g a.0.sound a.1 f b.0)
one_opening g cs ds (Ok m) (Err TooShort) e a b = absurd (held_long g cs m (length ds) e a.0 b.2)
one_opening g cs ds (Err (Unsound f)) (Ok n) e a b = absurd (not_refused g b.0.sound b.1 f a.0)
one_opening g cs ds (Err (Unsound f)) (Err (Unsound h)) e a b = ap (λ (x : Fault). Err (Unsound x)) (one_refusal g f h a.0 b.0)
one_opening g cs ds (Err (Unsound f)) (Err TooShort) e a b = absurd (not_refused g b.0 b.1 f a.0)
one_opening g cs ds (Err TooShort) (Ok n) e a b = absurd (held_long g ds n (length cs) (sym e) b.0 a.2)
one_opening g cs ds (Err TooShort) (Err (Unsound f)) e a b = absurd (not_refused g a.0 a.1 f b.0)
one_opening g cs ds (Err TooShort) (Err TooShort) e a b = refl

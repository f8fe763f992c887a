-- The facts in the cells are those of the chart, each once: `facts_listed`. With numbered left sides the bound on heights is known: `bound_known`.
use Rattle.std.proofs.Common.{◌≡◌, ℕ, zero, suc, ◌+◌, ◌-◌, ◌<◌, ◌≤◌, List, [], ◌∷◌, length, Some, None, Option, sym, refl, ap, ◌∙◌, subst, inl, inr, arith, length-append}
use Rattle.std.proofs.lemmas.Bool.{cases_lt}
use Rattle.grammar.specs.Grammar.{Grammar}
use Rattle.chart.specs.Chart as chart
use Rattle.chart.specs.Chart.{Chart, Member, Apart, Enumerates, Bound}
use Rattle.chart.proofs.Listing.{in_left, in_right, of_append, apart_append}
use Rattle.cells.specs.declared.Cell.{Cell}
use Rattle.cells.specs.declared.Fact.{Fact}
use Rattle.cells.specs.declared.Row.{Row}
use Rattle.cells.specs.declared.Row as row
use Rattle.cells.specs.Facts.{fact_of, meant}
use Rattle.cells.proofs.Meant.{meant_apart}
use Rattle.fact_log.specs.Index.{cell_of}
use Rattle.fact_log.specs.Log.{FactAt, Log}
use Rattle.closing.specs.State.{Has, State, Whole}
use Rattle.weigh.specs.Listed.{one_fact, facts_in}
use Rattle.weigh.specs.Numbers.{Numbered}

row_fact : (r : Row) (z : chart.Fact) → Member z (one_fact (fact_of r)) → (f : Fact) × (r ≡ row.TheVariants.Fact f) × (meant f ≡ z)
row_fact row.TheVariants.Nothing z m = absurd m
row_fact (row.TheVariants.Category d h p) z m = absurd m
row_fact (row.TheVariants.Function a c n) z m = absurd m
row_fact (row.TheVariants.Constituent s n) z m = absurd m
row_fact (row.TheVariants.Symbol s) z m = absurd m
row_fact row.TheVariants.Empty z m = absurd m
row_fact (row.TheVariants.Place c f a n p) z m = absurd m
row_fact (row.TheVariants.Argument c) z m = absurd m
row_fact (row.TheVariants.Token t) z m = absurd m
row_fact (row.TheVariants.Fact f) z (inl e) = (f, refl, sym e)
row_fact (row.TheVariants.Fact f) z (inr m) = absurd m

-- the one fact of a cell
pub one_fact_lem : (cs : List Cell) (p : ℕ) (f : Fact) → FactAt cs p f → one_fact (fact_of (cell_of cs p).row) ≡ meant f ∷ []
one_fact_lem cs p f e = ap (λ (r : Row). one_fact (fact_of r)) e

pub of_facts : (cs : List Cell) (base count : ℕ) (z : chart.Fact) → Member z (facts_in cs base count) → Has cs base (base + count) z
of_facts cs base zero z m = absurd m
of_facts cs base (suc count) z m = elim (of_append z (facts_in cs base count) (one_fact (fact_of (cell_of cs (base + count)).row)) m) [
  | inl a ↦ let h = of_facts cs base count z a in (h.0, (h.1.0, h.1.1, omega (arith, h.1.2), h.1.3), h.2)
  | inr b ↦ let h = row_fact (cell_of cs (base + count)).row z b in (h.0, (base + count, omega arith, omega arith, h.1), h.2)
]

pub in_facts : (cs : List Cell) (base count p : ℕ) (f : Fact) → base ≤ p → p < base + count → FactAt cs p f → Member (meant f) (facts_in cs base count)
in_facts cs base zero p f bp pn e = absurd (omega arith)
in_facts cs base (suc count) p f bp pn e = elim (cases_lt p (base + count)) [
  | inl lt ↦ in_left (meant f) (facts_in cs base count) (one_fact (fact_of (cell_of cs (base + count)).row)) (in_facts cs base count p f bp lt e)
  | inr ge ↦
      let at : p ≡ base + count = omega arith in
      let here : FactAt cs (base + count) f = subst (λ (v : ℕ). FactAt cs v f) at e in
      let last : Member (meant f) (one_fact (fact_of (cell_of cs (base + count)).row)) = subst (λ (l : List chart.Fact). Member (meant f) l) (sym (one_fact_lem cs (base + count) f here)) (inl refl) in
      in_right (meant f) (facts_in cs base count) (one_fact (fact_of (cell_of cs (base + count)).row)) last
]

one_apart : (o : Option chart.Fact) → Apart (one_fact o)
one_apart None = tt
one_apart (Some z) = ((λ m. m), tt)

facts_apart : (cs : List Cell) (base n limit count : ℕ) → Log cs base n limit → base + count ≤ n → Apart (facts_in cs base count)
facts_apart cs base n limit zero l h = tt
facts_apart cs base n limit (suc count) l h =
    apart_append (facts_in cs base count) (one_fact (fact_of (cell_of cs (base + count)).row)) (facts_apart cs base n limit count l (omega arith)) (one_apart (fact_of (cell_of cs (base + count)).row))
    (λ z a b.
    let x = of_facts cs base count z a in
    let y = row_fact (cell_of cs (base + count)).row z b in
    let same : x.0 ≡ y.0 = meant_apart x.0 y.0 (x.2 ∙ sym y.2) in
    let there : FactAt cs (base + count) x.0 = subst (λ (f : Fact). FactAt cs (base + count) f) (sym same) y.1 in
    let eq = l.apart x.1.0 (base + count) x.0 x.1.1 (omega (arith, x.1.2)) (omega arith) (omega arith) x.1.3 there in
    omega (arith, eq, x.1.2))

pub facts_listed : (g : Grammar) (w : List ℕ) (cs : List Cell) (base n limit : ℕ) → State g w cs base n limit → Whole g w cs base n → Enumerates (Chart g w) (facts_in cs base (n - base))
facts_listed g w cs base n limit s whole =
    let begun = s.log.begun in
    let total : base + (n - base) ≡ n = omega arith in
    record {
      apart = facts_apart cs base n limit (n - base) s.log (omega arith);
      exactly = λ z. (
        (λ m.
            let h = subst (λ (v : ℕ). Has cs base v z) total (of_facts cs base (n - base) z m) in
            subst (λ (v : chart.Fact). Chart g w v) h.2 (s.sound h.0 h.1)),
        (λ c.
            let h = whole z c in
            subst (λ (v : chart.Fact). Member v (facts_in cs base (n - base))) h.2 (in_facts cs base (n - base) h.1.0 h.0 h.1.1 (omega (arith, h.1.2, total)) h.1.3)),
      );
    }

-- as many facts as cells
pub facts_count : (g : Grammar) (w : List ℕ) (cs : List Cell) (base n limit count : ℕ) → State g w cs base n limit → base + count ≤ n → length (facts_in cs base count) ≡ count
facts_count g w cs base n limit zero s h = refl
facts_count g w cs base n limit (suc count) s h =
    let f = s.log.facts (base + count) (omega arith) (omega arith) in
    let one : length (one_fact (fact_of (cell_of cs (base + count)).row)) ≡ 1 = ap length (one_fact_lem cs (base + count) f.0 f.1) in
    let before = facts_count g w cs base n limit count s (omega arith) in
    omega (arith, length-append (facts_in cs base count) (one_fact (fact_of (cell_of cs (base + count)).row)), one, before)

pub bound_known : (g : Grammar) (w : List ℕ) (cs : List Cell) (base n : ℕ) (phrases : List chart.Phrase) → Numbered g w cs base n phrases → Bound g w (length g.dimensions + length phrases)
bound_known g w cs base n phrases h = record { phrases = phrases; listed = h.listed; total = refl }

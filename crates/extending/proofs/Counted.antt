-- The facts in cells as a list: it holds exactly those of the chart, each once (`charted_list`), and where there is no room for one more
-- the chart has more facts than there are cells (`more_full`).
use Rattle.std.proofs.Common.{◌≡◌, ℕ, zero, suc, ◌+◌, ◌-◌, ◌<◌, ◌≤◌, false, ◌⊎◌, List, ◌∷◌, length, is_some, Some, None, Option, sym, refl, ap, ◌∙◌, subst, inl, inr, arith}
use Rattle.std.proofs.lemmas.Bool.{cases_eq}
use Rattle.grammar.specs.Grammar.{Grammar}
use Rattle.chart.specs.Chart as chart
use Rattle.chart.specs.Chart.{Chart, Member, Apart, Enumerates}
use Rattle.cells.specs.declared.Cell.{Cell}
use Rattle.cells.specs.declared.Row.{Row}
use Rattle.cells.specs.declared.Row as row
use Rattle.cells.specs.declared.Fact.{Fact}
use Rattle.cells.specs.Facts.{fact_of, meant}
use Rattle.cells.proofs.Meant.{meant_apart}
use Rattle.fact_log.specs.Index.{cell_of}
use Rattle.fact_log.specs.Log.{FactAt, Log, Later}
use Rattle.closing.specs.State.{Has, Full, Outcome}
use Rattle.extending.specs.Charted.{with_fact, facts_from, Charted, More, Extends}

fact_of_row : (r : Row) (z : chart.Fact) → fact_of r ≡ Some z → (f : Fact) × (r ≡ row.TheVariants.Fact f) × (meant f ≡ z)
fact_of_row row.TheVariants.Nothing z e = absurd (let y : ◌≡◌ {A = ℕ} 0 1 = cc in omega arith)
fact_of_row (row.TheVariants.Category d h p) z e = absurd (let y : ◌≡◌ {A = ℕ} 0 1 = cc in omega arith)
fact_of_row (row.TheVariants.Function x c n) z e = absurd (let y : ◌≡◌ {A = ℕ} 0 1 = cc in omega arith)
fact_of_row (row.TheVariants.Constituent s n) z e = absurd (let y : ◌≡◌ {A = ℕ} 0 1 = cc in omega arith)
fact_of_row (row.TheVariants.Symbol s) z e = absurd (let y : ◌≡◌ {A = ℕ} 0 1 = cc in omega arith)
fact_of_row row.TheVariants.Empty z e = absurd (let y : ◌≡◌ {A = ℕ} 0 1 = cc in omega arith)
fact_of_row (row.TheVariants.Place c g x n p) z e = absurd (let y : ◌≡◌ {A = ℕ} 0 1 = cc in omega arith)
fact_of_row (row.TheVariants.Argument c) z e = absurd (let y : ◌≡◌ {A = ℕ} 0 1 = cc in omega arith)
fact_of_row (row.TheVariants.Token t) z e = absurd (let y : ◌≡◌ {A = ℕ} 0 1 = cc in omega arith)
fact_of_row (row.TheVariants.Fact f) z e = (f, refl, cc)

with_member : (o : Option chart.Fact) (zs : List chart.Fact) (z : chart.Fact) → Member z (with_fact o zs) → (o ≡ Some z) ⊎ Member z zs
with_member None zs z m = inr m
with_member (Some y) zs z (inl e) = inl (ap Some (sym e))
with_member (Some y) zs z (inr m) = inr m

member_with : (o : Option chart.Fact) (zs : List chart.Fact) (z : chart.Fact) → (o ≡ Some z) ⊎ Member z zs → Member z (with_fact o zs)
member_with None zs z (inl e) = absurd (let y : ◌≡◌ {A = ℕ} 0 1 = cc in omega arith)
member_with None zs z (inr m) = m
member_with (Some y) zs z (inl e) = inl (let d : y ≡ z = cc in sym d)
member_with (Some y) zs z (inr m) = inr m

-- z stands in one of so many cells from p on
abbrev At : List Cell → ℕ → ℕ → chart.Fact → Type 0
At cs p k z = (q : ℕ) × (p ≤ q) × (q < p + k) × (fact_of (cell_of cs q).row ≡ Some z)

facts_at : (cs : List Cell) (p k : ℕ) (z : chart.Fact) → Member z (facts_from cs p k) → At cs p k z
facts_at cs p zero z m = absurd m
facts_at cs p (suc k) z m = elim (with_member (fact_of (cell_of cs p).row) (facts_from cs (suc p) k) z m) [
  | inl e ↦ (p, omega arith, omega arith, e)
  | inr h ↦ let a = facts_at cs (suc p) k z h in (a.0, omega (arith, a.1), omega (arith, a.2), a.3)
]

at_facts : (cs : List Cell) (p k : ℕ) (z : chart.Fact) → At cs p k z → Member z (facts_from cs p k)
at_facts cs p zero z a = absurd (omega (arith, a.1, a.2))
at_facts cs p (suc k) z a =
    member_with (fact_of (cell_of cs p).row) (facts_from cs (suc p) k) z (elim (cases_eq a.0 p) [
      | inl e ↦ inl (subst (λ (q : ℕ). fact_of (cell_of cs q).row ≡ Some z) e a.3)
      | inr ne ↦ inr (at_facts cs (suc p) k z (a.0, omega (arith, a.1, ne), omega (arith, a.2), a.3))
    ])

with_length : (o : Option chart.Fact) (z : chart.Fact) (zs : List chart.Fact) → o ≡ Some z → length (with_fact o zs) ≡ suc (length zs)
with_length None z zs e = absurd (let y : ◌≡◌ {A = ℕ} 0 1 = cc in omega arith)
with_length (Some y) z zs e = refl

facts_length : (cs : List Cell) (p k : ℕ) → ((q : ℕ) → p ≤ q → q < p + k → (z : chart.Fact) × (fact_of (cell_of cs q).row ≡ Some z)) → length (facts_from cs p k) ≡ k
facts_length cs p zero all = refl
facts_length cs p (suc k) all =
    let a = all p (omega arith) (omega arith) in
    with_length (fact_of (cell_of cs p).row) a.0 (facts_from cs (suc p) k) a.1 ∙ ap suc (facts_length cs (suc p) k (λ q l h. all q (omega arith) (omega arith)))

with_apart : (o : Option chart.Fact) (zs : List chart.Fact) → ((z : chart.Fact) → o ≡ Some z → Member z zs → ⊥) → Apart zs → Apart (with_fact o zs)
with_apart None zs out a = a
with_apart (Some y) zs out a = (out y refl, a)

facts_apart : (cs : List Cell) (p k : ℕ) → ((q r : ℕ) (z : chart.Fact) → p ≤ q → q < p + k → p ≤ r → r < p + k → fact_of (cell_of cs q).row ≡ Some z → fact_of (cell_of cs r).row ≡ Some z → q ≡ r) → Apart (facts_from cs p k)
facts_apart cs p zero one = tt
facts_apart cs p (suc k) one =
    with_apart (fact_of (cell_of cs p).row) (facts_from cs (suc p) k)
    (λ z e m. let a = facts_at cs (suc p) k z m in let same = one p a.0 z (omega arith) (omega arith) (omega (arith, a.1)) (omega (arith, a.2)) e a.3 in omega (arith, a.1))
    (facts_apart cs (suc p) k (λ q r z pq qk pr rk a b. one q r z (omega arith) (omega arith) (omega arith) (omega arith) a b))

-- the facts of a log
has_at : (cs : List Cell) (base n : ℕ) (z : chart.Fact) → base ≤ n → Has cs base n z → At cs base (n - base) z
has_at cs base n z bn h = let L = h.1 in (L.0, L.1, omega (arith, L.1, L.2), ap fact_of L.3 ∙ ap Some h.2)

at_has : (cs : List Cell) (base n : ℕ) (z : chart.Fact) → base ≤ n → At cs base (n - base) z → Has cs base n z
at_has cs base n z bn a = let f = fact_of_row (cell_of cs a.0).row z a.3 in (f.0, (a.0, a.1, omega (arith, a.2), f.1), f.2)

pub log_apart : (cs : List Cell) (base n limit : ℕ) → Log cs base n limit → Apart (facts_from cs base (n - base))
log_apart cs base n limit l =
    facts_apart cs base (n - base) (λ q r z bq qn br rn a b.
    let bn = l.begun in
    let f = fact_of_row (cell_of cs q).row z a in
    let h = fact_of_row (cell_of cs r).row z b in
    let same : h.0 ≡ f.0 = meant_apart h.0 f.0 (h.2 ∙ sym f.2) in
    l.apart q r f.0 bq (omega arith) br (omega arith) f.1 (subst (λ (v : Fact). FactAt cs r v) same h.1))

pub log_length : (cs : List Cell) (base n limit : ℕ) → Log cs base n limit → length (facts_from cs base (n - base)) ≡ n - base
log_length cs base n limit l =
    facts_length cs base (n - base) (λ q bq qn. let bn = l.begun in let f = l.facts q bq (omega arith) in (meant f.0, ap fact_of f.1))

pub charted_list : (g : Grammar) (w : List ℕ) (cs : List Cell) (base n limit : ℕ) → Charted g w cs base n limit → Enumerates (Chart g w) (facts_from cs base (n - base))
charted_list g w cs base n limit k =
    let l = k.state.log in
    record {
      apart = log_apart cs base n limit l;
      exactly = λ z. (
        λ m. let h = at_has cs base n z l.begun (facts_at cs base (n - base) z m) in subst (λ (v : chart.Fact). Chart g w v) h.2 (k.state.sound h.0 h.1),
        λ c. at_facts cs base (n - base) z (has_at cs base n z l.begun (k.whole z c)),
      );
    }

pub more_full : (g : Grammar) (w : List ℕ) (cs cs' : List Cell) (base n limit : ℕ) → Full g w cs cs' base n limit → More g w (limit - base)
more_full g w cs cs' base n limit f =
    let l = f.state.log in
    let m = f.missing in
    record {
      facts = m.0 ∷ facts_from cs' base (limit - base);
      apart = ((λ h. m.2 (at_has cs' base limit m.0 l.begun (facts_at cs' base (limit - base) m.0 h))), log_apart cs' base limit limit l);
      sound = λ z h. elim h [
        | inl e ↦ subst (λ (v : chart.Fact). Chart g w v) (sym e) m.1
        | inr i ↦ let k = at_has cs' base limit z l.begun (facts_at cs' base (limit - base) z i) in subst (λ (v : chart.Fact). Chart g w v) k.2 (f.state.sound k.0 k.1)
      ];
      more = omega (arith, log_length cs' base limit limit l);
    }

-- where there was no room, cutting back leaves the cells as they were
pub undone : (g : Grammar) (w : List ℕ) (cs c₁ c₂ : List Cell) (base n limit : ℕ) (P : ℕ → Type 0) (r : Option ℕ) → is_some r ≡ false → Log cs base n limit → Outcome g w cs c₁ base n limit P r
    → ((before : List Cell) (m : ℕ) → Log c₁ base limit m → Log before base n m → Later before c₁ base n m → c₂ ≡ before) → Extends g w cs c₂ base n limit r
undone g w cs c₁ c₂ base n limit P None e l o cut = (more_full g w cs c₁ base n limit o, cut cs limit o.state.log l o.later)
undone g w cs c₁ c₂ base n limit P (Some m) e l o cut = absurd (let y : ◌≡◌ {A = ℕ} 0 1 = cc in omega arith)

-- A fact is appended: its cell is written, and entered in one index after another.
use Rattle.std.proofs.Common.{◌≡◌, ℕ, ◌+◌, ◌<◌, Bool, true, false, cond, eqb, List, length, set, Some, None, Option, is_some, Decides, sym, refl, ap, ◌∙◌, subst, inl, inr, arith}
use Rattle.std.proofs.lemmas.List.{length-set, get_or-set_same, get_or-set_other}
use Rattle.std.proofs.lemmas.Bool.{false≢true, cases_eq}
use Rattle.cells.specs.declared.Fact.{Fact}
use Rattle.cells.specs.declared.Cell.{Cell}
use Rattle.cells.specs.declared.Waiting.{Waiting}
use Rattle.cells.specs.declared.Row as row
use Rattle.cells.specs.declared.Row.{Row}
use Rattle.cells.specs.Facts.{no_link, zero_cell}
use Rattle.fact_log.specs.declared.things.Thing as thing
use Rattle.fact_log.specs.declared.things.Thing.{Thing}
use Rattle.fact_log.specs.Links.{link_at}
use Rattle.fact_log.specs.Things.{row_at, thing_at, slot_of}
use Rattle.fact_log.specs.Index.{LastOf, cell_of, things, links, Indexed, Relinked}
use Rattle.fact_log.specs.Log.{FactAt, Logged, Log, Appended}
use Rattle.fact_log.proofs.Slots.{slot_cases}
use Rattle.fact_log.proofs.Buckets.{indexed_below}

-- in index 0 a cell is looked up by its fact
pub fact_thing : (c : Cell) (f : Fact) → c.row ≡ row.TheVariants.Fact f → thing_at c 0 ≡ Some (thing.TheVariants.Fact f)
unfolding thing_at
fact_thing c f e = ap (λ r. row_at r c.wait 0) e

row_fact : (r : Row) (wait : Waiting) (f : Fact) → row_at r wait 0 ≡ Some (thing.TheVariants.Fact f) → r ≡ row.TheVariants.Fact f
row_fact row.TheVariants.Nothing a f e = cc
row_fact (row.TheVariants.Category d h p) a f e = cc
row_fact (row.TheVariants.Function x c n) a f e = cc
row_fact (row.TheVariants.Constituent s n) a f e = cc
row_fact (row.TheVariants.Symbol s) a f e = cc
row_fact row.TheVariants.Empty a f e = cc
row_fact (row.TheVariants.Place c g x n p) a f e = cc
row_fact (row.TheVariants.Argument c) a f e = cc
row_fact (row.TheVariants.Token t) a f e = cc
row_fact (row.TheVariants.Fact g) a f e = cc

pub thing_fact : (c : Cell) (f : Fact) → thing_at c 0 ≡ Some (thing.TheVariants.Fact f) → c.row ≡ row.TheVariants.Fact f
unfolding thing_at
thing_fact c f e = row_fact c.row c.wait f e

-- the last in index 0 says whether the fact is there
pub logged_last : (cs : List Cell) (base n : ℕ) (f : Fact) (r : Option ℕ) → 0 < base → LastOf (things cs 0) base (thing.TheVariants.Fact f) n r → Decides (is_some r) (Logged cs base n f)
logged_last cs base n f None pos l = (λ e. absurd (false≢true e), λ h. absurd (l.after h.0 h.1 (omega (arith, h.1)) h.2 (fact_thing (cell_of cs h.0) f h.3)))
logged_last cs base n f (Some p) pos l = (λ e. let g = l.1.found l.0 in (p, g.0, g.1, thing_fact (cell_of cs p) f g.2), λ h. refl)

-- the cell of a new fact
abbrev pub new_cell : Fact → Waiting → Cell
new_cell f wait = record { row = row.TheVariants.Fact f; wait = wait; fact = no_link; first = no_link; second = no_link; third = no_link; whole = no_link }

no_link_lem : (f : Fact) (wait : Waiting) (s : ℕ) → s < 5 → link_at (new_cell f wait) s ≡ no_link
unfolding link_at
no_link_lem f wait = slot_cases (λ s. link_at (new_cell f wait) s ≡ no_link) refl refl refl refl refl

-- before it is entered
pub appending : (cs : List Cell) (base n limit : ℕ) (f : Fact) (wait : Waiting) → Log cs base n limit → n < limit → (s : ℕ) → s < 5 → Indexed (set cs n (new_cell f wait)) s base n
appending cs base n limit f wait g lt s five = indexed_below cs (set cs n (new_cell f wait)) s base n (λ p l. get_or-set_other cs n p (new_cell f wait) zero_cell (λ e. omega (arith, e))) (g.indexed s five)

pub appending_fresh : (cs : List Cell) (base n limit : ℕ) (f : Fact) (wait : Waiting) → Log cs base n limit → n < limit → (s : ℕ) → s < 5 → links (set cs n (new_cell f wait)) s n ≡ no_link
appending_fresh cs base n limit f wait g lt s five =
    let inside : n < length cs = omega (arith, g.inside) in
    ap (λ (c : Cell). link_at c s) (get_or-set_same cs n (new_cell f wait) zero_cell inside) ∙ no_link_lem f wait s five

-- and then
pub appended : (cs cs₁ cs' : List Cell) (base n limit : ℕ) (f : Fact) (wait : Waiting) → Log cs base n limit → (Logged cs base n f → ⊥) → n < limit → cs₁ ≡ set cs n (new_cell f wait) → Relinked cs₁ cs' base (n + 1)
    → ((s : ℕ) → s < 5 → Indexed cs' s base (n + 1)) → Appended cs cs' base n limit f wait
appended cs cs₁ cs' base n limit f wait g absent lt w e x =
    let inside : n < length cs = omega (arith, g.inside) in
    let begun = g.begun in
    let other : (p : ℕ) → (p ≡ n → ⊥) → cell_of cs₁ p ≡ cell_of cs p = λ p ne. ap (λ x. cell_of x p) w ∙ get_or-set_other cs n p (new_cell f wait) zero_cell ne in
    let here : cell_of cs₁ n ≡ new_cell f wait = ap (λ x. cell_of x n) w ∙ get_or-set_same cs n (new_cell f wait) zero_cell inside in
    let size : length cs₁ ≡ length cs = ap length w ∙ length-set cs n (new_cell f wait) in
    let fact : FactAt cs' n f = (e.rows n).0 ∙ ap (λ c. c.row) here in
    let kept : (p : ℕ) → (p ≡ n → ⊥) → (cell_of cs' p).row ≡ (cell_of cs p).row = λ p ne. (e.rows p).0 ∙ ap (λ c. c.row) (other p ne) in
    record {
      log =
          record {
            positive = g.positive;
            begun = omega arith;
            within = omega arith;
            inside = omega (arith, g.inside, e.len, size);
            facts =
                λ p bp pn. elim (cases_eq p n) [
                  | inl z ↦ (f, subst (λ (q : ℕ). FactAt cs' q f) (sym z) fact)
                  | inr z ↦ let o = g.facts p bp (omega arith) in (o.0, kept p z ∙ o.1)
                ];
            apart =
                λ p q h bp pn bq qn hp hq. elim (cases_eq p n) [
                  | inl z ↦ elim (cases_eq q n) [
                    | inl y ↦ z ∙ sym y
                    | inr y ↦
                        let fh : row.TheVariants.Fact f ≡ row.TheVariants.Fact h = sym fact ∙ (ap (λ (x : ℕ). (cell_of cs' x).row) (sym z) ∙ hp) in
                        let v : h ≡ f = cc in
                        absurd (absent (q, bq, omega arith, sym (kept q y) ∙ (hq ∙ ap row.TheVariants.Fact v)))
                  ]
                  | inr z ↦ elim (cases_eq q n) [
                    | inl y ↦
                        let fh : row.TheVariants.Fact f ≡ row.TheVariants.Fact h = sym fact ∙ (ap (λ (x : ℕ). (cell_of cs' x).row) (sym y) ∙ hq) in
                        let v : h ≡ f = cc in
                        absurd (absent (p, bp, omega arith, sym (kept p z) ∙ (hp ∙ ap row.TheVariants.Fact v)))
                    | inr y ↦ g.apart p q h bp (omega arith) bq (omega arith) (sym (kept p z) ∙ hp) (sym (kept q y) ∙ hq)
                  ]
                ];
            indexed = x;
            zero = λ p np pl. e.outside p (inr (omega arith)) ∙ (other p (λ z. omega (arith, z)) ∙ g.zero p (omega arith) pl);
          };
      fact = fact;
      waits = (e.rows n).1 ∙ ap (λ c. c.wait) here;
      later =
          record {
            len = e.len ∙ size;
            outside = λ p o. elim o [
              | inl h ↦ e.outside p (inl h) ∙ other p (λ z. omega (arith, z))
              | inr h ↦ e.outside p (inr (omega arith)) ∙ other p (λ z. omega (arith, z))
            ];
            rows =
                λ p pn.
                let r = e.rows p in
                let o = other p (λ z. omega (arith, z)) in
                (r.0 ∙ ap (λ c. c.row) o, r.1 ∙ ap (λ c. c.wait) o);
          };
    }

slot_key : (a b c : Bool) → cond a 1 (cond b 2 (cond c 3 4)) < 5
slot_key true b c = omega arith
slot_key false true c = omega arith
slot_key false false true = omega arith
slot_key false false false = omega arith

pub slot_five : (t : Thing) → slot_of t < 5
slot_five (thing.TheVariants.Fact f) = omega arith
slot_five (thing.TheVariants.Key k) = slot_key (eqb k.constituent 1) (eqb k.constituent 2) (eqb k.constituent 3)
slot_five (thing.TheVariants.Due m) = omega arith

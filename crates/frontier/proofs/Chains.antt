-- Marking what a row offers (`only_set`), what one more cell of a chain does (`marking_again`), what one more chain does (`range_more`).
use Rattle.std.proofs.Common.{◌≡◌, ℕ, ◌+◌, ◌<◌, ◌≤◌, Bool, true, false, ◌⊎◌, List, length, get_or, set, Some, None, Option, unwrap_or, refl, sym, ap, ◌∙◌, subst, inl, inr, arith}
use Rattle.std.proofs.lemmas.List.{get_or-set_same, get_or-set_other}
use Rattle.std.proofs.lemmas.Bool.{cases_lt, cases_eq}
use Rattle.grammar.specs.Grammar.{Grammar}
use Rattle.cells.specs.declared.Cell.{Cell}
use Rattle.cells.specs.declared.Item.{Item}
use Rattle.cells.specs.declared.Row.{Row}
use Rattle.cells.specs.declared.Row as row
use Rattle.cells.specs.declared.Fact.TheVariants as fact
use Rattle.fact_log.specs.declared.things.Thing as thing
use Rattle.fact_log.specs.declared.things.Thing.{Thing}
use Rattle.fact_log.specs.Index.{cell_of, things, Last, LastOf}
use Rattle.frontier.specs.Offers.{Only, Offers, Offered}
use Rattle.frontier.specs.Marks.{Marks, RowOffers, DueOffers, RangeOffers}

marks_none : (P : ℕ → Type 0) (old : List Bool) → ((t : ℕ) → t < length old → P t → ⊥) → Marks P old old
marks_none P old none t l = (λ e. inl e, λ s. elim s [ inl e ↦ e | inr p ↦ absurd (none t l p) ])

marks_set : (P : ℕ → Type 0) (old : List Bool) (t : ℕ) → t < length old → P t → ((v : ℕ) → P v → v ≡ t) → Marks P old (set old t true)
marks_set P old t l p only v lv = elim (cases_eq v t) [
  | inl e ↦ (λ _. inr (subst P (sym e) p), λ _. ap (λ (z : ℕ). get_or (set old t true) z false) e ∙ get_or-set_same old t true false l)
  | inr ne ↦
      let same : get_or (set old t true) v false ≡ get_or old v false = get_or-set_other old t v true false ne in
      (λ e. inl (sym same ∙ e), λ s. elim s [ inl e ↦ same ∙ e | inr q ↦ absurd (ne (only v q)) ])
]

-- one set of numbers after another
marks_then : (P Q R : ℕ → Type 0) (old mid new : List Bool) → length mid ≡ length old → ((t : ℕ) → P t → R t) → ((t : ℕ) → Q t → R t) → ((t : ℕ) → R t → P t ⊎ Q t) → Marks P old mid → Marks Q mid new → Marks R old new
marks_then P Q R old mid new len p q r a b t l =
    let one = a t l in
    let two = b t (omega (arith, len)) in (
      λ e. elim (two.0 e) [ inl f ↦ elim (one.0 f) [ inl h ↦ inl h | inr h ↦ inr (p t h) ] | inr f ↦ inr (q t f) ],
      λ s. elim s [ inl h ↦ two.1 (inl (one.1 (inl h))) | inr h ↦ elim (r t h) [ inl f ↦ two.1 (inl (one.1 (inr f))) | inr f ↦ two.1 (inr f) ] ],
    )

pub marks_so : (P Q : ℕ → Type 0) (old new : List Bool) → ((t : ℕ) → P t → Q t) → ((t : ℕ) → Q t → P t) → Marks P old new → Marks Q old new
marks_so P Q old new p q a t l =
    let one = a t l in
    (λ e. elim (one.0 e) [ inl h ↦ inl h | inr h ↦ inr (p t h) ], λ s. elim s [ inl h ↦ one.1 (inl h) | inr h ↦ one.1 (inr (q t h)) ])

-- a row's item is one
row_item : (r : Row) (x y : Item) → r ≡ row.TheVariants.Fact (fact.Item x) → r ≡ row.TheVariants.Fact (fact.Item y) → y ≡ x
row_item r x y a b = cc

row_only : (g : Grammar) (w : List ℕ) (r : Row) (x : Item) → r ≡ row.TheVariants.Fact (fact.Item x) → (t : ℕ) → RowOffers g w r t → Offers g w x t
row_only g w r x e t o = subst (λ (y : Item). Offers g w y t) (row_item r x o.0 e o.1) o.2

pub row_offered : (g : Grammar) (w : List ℕ) (r : Row) (x : Item) (o : Option ℕ) → r ≡ row.TheVariants.Fact (fact.Item x) → Offered g w x o → Only (RowOffers g w r) o
row_offered g w r x None e none = λ t o. none t (row_only g w r x e t o)
row_offered g w r x (Some t) e o = ((x, e, o.0), λ v k. o.1 v (row_only g w r x e v k))

-- marking the one number of which P holds, if there is one and the marks go so far
pub only_none : (P : ℕ → Type 0) (old : List Bool) → Only P None → Marks P old old
only_none P old none = marks_none P old (λ t l p. none t p)

pub only_past : (P : ℕ → Type 0) (old : List Bool) (t : ℕ) → length old ≤ t → Only P (Some t) → Marks P old old
only_past P old t past only = marks_none P old (λ v l p. omega (arith, past, l, only.1 v p))

pub only_set : (P : ℕ → Type 0) (old : List Bool) (t : ℕ) → t < length old → Only P (Some t) → Marks P old (set old t true)
only_set P old t l only = marks_set P old t l only.0 only.1

-- no cell of the chain is after the last one
due_none : (g : Grammar) (w : List ℕ) (cs : List Cell) (base n tokens r : ℕ) (old : List Bool) → Last (things cs 4) base (thing.TheVariants.Due tokens) n r → Marks (DueOffers g w cs base n tokens r) old old
due_none g w cs base n tokens r old last = marks_none (DueOffers g w cs base n tokens r) old (λ t l o. last.after o.at o.from o.past o.upto o.due)

-- the cell p, and then the last one before it
due_more : (g : Grammar) (w : List ℕ) (cs : List Cell) (base n tokens p r : ℕ) (old mid new : List Bool) → length mid ≡ length old → 0 < p → base ≤ p → p < n → things cs 4 p ≡ Some (thing.TheVariants.Due tokens)
    → Last (things cs 4) base (thing.TheVariants.Due tokens) p r → Marks (DueOffers g w cs base n tokens p) old mid → Marks (RowOffers g w (cell_of cs p).row) mid new → Marks (DueOffers g w cs base n tokens r) old new
due_more g w cs base n tokens p r old mid new len pos bp pn th last a b =
    let lower : r < p = elim (cases_eq r 0) [ inl z ↦ omega (arith, z) | inr z ↦ let f = last.found (omega (arith, z)) in f.1 ] in
    marks_then (DueOffers g w cs base n tokens p) (RowOffers g w (cell_of cs p).row) (DueOffers g w cs base n tokens r) old mid new len
    (λ t o. record { at = o.at; from = o.from; past = omega (arith, o.past); upto = o.upto; due = o.due; offers = o.offers })
    (λ t o. record { at = p; from = bp; past = lower; upto = pn; due = th; offers = o })
    (λ t o. elim (cases_lt o.at p) [
      | inl less ↦ absurd (last.after o.at o.from o.past less o.due)
      | inr more ↦ elim (cases_lt p o.at) [
        | inl past ↦ inl (record { at = o.at; from = o.from; past = past; upto = o.upto; due = o.due; offers = o.offers })
        | inr same ↦ let e : o.at ≡ p = omega arith in inr (subst (λ (q : ℕ). RowOffers g w (cell_of cs q).row t) e o.offers)
      ]
    ]) a b

-- the cells after `cell` are marked, and `cell` is the next of the chain, if there is one
abbrev pub Marking : Grammar → List ℕ → List Cell → ℕ → ℕ → ℕ → Option ℕ → List Bool → List Bool → Type 0
Marking g w cs base n tokens cell old new =
    ((p : ℕ) → cell ≡ Some p → (0 < p) × (base ≤ p) × (p < n) × (things cs 4 p ≡ Some (thing.TheVariants.Due tokens))) × Marks (DueOffers g w cs base n tokens (unwrap_or cell 0)) old new

-- the next one is before n
next_at : (cs : List Cell) (base m n tokens : ℕ) (cell : Option ℕ) → m ≤ n → LastOf (things cs 4) base (thing.TheVariants.Due tokens) m cell → (p : ℕ) → cell ≡ Some p
    → (0 < p) × (base ≤ p) × (p < n) × (things cs 4 p ≡ Some (thing.TheVariants.Due tokens))
next_at cs base m n tokens None le last p e = absurd (let z : ◌≡◌ {A = ℕ} 0 1 = cc in omega arith)
next_at cs base m n tokens (Some q) le last p e =
    let same : q ≡ p = cc in
    let f = last.1.found last.0 in
    (omega (arith, same, last.0), omega (arith, same, f.0), omega (arith, same, f.1), subst (λ (v : ℕ). things cs 4 v ≡ Some (thing.TheVariants.Due tokens)) same f.2)

last_of : (cs : List Cell) (base m : ℕ) (t : Thing) (cell : Option ℕ) → LastOf (things cs 4) base t m cell → Last (things cs 4) base t m (unwrap_or cell 0)
last_of cs base m t None last = last
last_of cs base m t (Some q) last = last.1

pub marking_first : (g : Grammar) (w : List ℕ) (cs : List Cell) (base n tokens : ℕ) (cell : Option ℕ) (old : List Bool) → LastOf (things cs 4) base (thing.TheVariants.Due tokens) n cell → Marking g w cs base n tokens cell old old
marking_first g w cs base n tokens cell old last =
    (next_at cs base n n tokens cell (omega arith) last, due_none g w cs base n tokens (unwrap_or cell 0) old (last_of cs base n (thing.TheVariants.Due tokens) cell last))

pub marking_again : (g : Grammar) (w : List ℕ) (cs : List Cell) (base n tokens p : ℕ) (cell : Option ℕ) (old mid new : List Bool) → length mid ≡ length old → Marking g w cs base n tokens (Some p) old mid
    → LastOf (things cs 4) base (thing.TheVariants.Due tokens) p cell → Marks (RowOffers g w (cell_of cs p).row) mid new → Marking g w cs base n tokens cell old new
marking_again g w cs base n tokens p cell old mid new len inv last a =
    let here = inv.0 p refl in (
      next_at cs base p n tokens cell (omega (arith, here.2)) last,
      due_more g w cs base n tokens p (unwrap_or cell 0) old mid new len here.0 here.1 here.2 here.3 (last_of cs base p (thing.TheVariants.Due tokens) cell last) inv.1 a,
    )

pub range_none : (g : Grammar) (w : List ℕ) (cs : List Cell) (base n m : ℕ) (old : List Bool) → Marks (RangeOffers g w cs base n m m) old old
range_none g w cs base n m old = marks_none (RangeOffers g w cs base n m m) old (λ t l o. omega (arith, o.1, o.2))

-- one more number of tokens
pub range_more : (g : Grammar) (w : List ℕ) (cs : List Cell) (base n m k : ℕ) (old mid new : List Bool) → length mid ≡ length old → m ≤ k → Marks (RangeOffers g w cs base n m k) old mid → Marks (DueOffers g w cs base n k 0) mid new
    → Marks (RangeOffers g w cs base n m (k + 1)) old new
range_more g w cs base n m k old mid new len mk a b =
    marks_then (RangeOffers g w cs base n m k) (DueOffers g w cs base n k 0) (RangeOffers g w cs base n m (k + 1)) old mid new len
    (λ t o. (o.0, o.1, omega (arith, o.2), o.3))
    (λ t o. (k, mk, omega arith, o))
    (λ t o. elim (cases_lt o.0 k) [
      | inl less ↦ inl (o.0, o.1, less, o.3)
      | inr more ↦ let e : o.0 ≡ k = omega (arith, o.2) in inr (subst (λ (q : ℕ). DueOffers g w cs base n q 0 t) e o.3)
    ]) a b

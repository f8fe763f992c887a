-- Facts are cut off again, and the others entered anew: their links are what they were, since an index has one form.
use Rattle.std.proofs.Common.{◌≡◌, ℕ, ◌-◌, ◌<◌, ◌≤◌, ◌⊎◌, List, length, get_or, take, drop, replicate, sym, refl, ap, ◌∙◌, inl, inr, arith, rules}
use borrow.Rule.Slice.PartMut.{put_mid}
use Rattle.std.proofs.lemmas.List.{get_or-replicate, length-replicate, ext_get_or, places}
use Rattle.std.proofs.lemmas.Bool.{cases_lt}
use Rattle.cells.specs.declared.Cell.{Cell}
use Rattle.cells.specs.Facts.{zero_cell}
use Rattle.fact_log.specs.Links.{link_at}
use Rattle.fact_log.specs.Things.{thing_at}
use Rattle.fact_log.specs.Index.{order, Index, cell_of, things, links, Indexed, Relinked}
use Rattle.fact_log.specs.Log.{Log, Later}
use Rattle.fact_log.proofs.Buckets.{index_below, index_one}

pub things_later : (cs cs' : List Cell) (base m limit : ℕ) → Later cs cs' base m limit → (s p : ℕ) → p < m → things cs' s p ≡ things cs s p
unfolding thing_at
things_later cs cs' base m limit k s p pm = let r = k.rows p pm in let a = r.0 in let b = r.1 in cc

-- cells are the same where their rows and links are
cell_same : (c d : Cell) → c.row ≡ d.row → c.wait ≡ d.wait → ((s : ℕ) → s < 5 → link_at c s ≡ link_at d s) → c ≡ d
unfolding link_at
cell_same c d r a l =
    let l0 : c.fact ≡ d.fact = l 0 (omega arith) in
    let l1 : c.first ≡ d.first = l 1 (omega arith) in
    let l2 : c.second ≡ d.second = l 2 (omega arith) in
    let l3 : c.third ≡ d.third = l 3 (omega arith) in
    let l4 : c.whole ≡ d.whole = l 4 (omega arith) in
    let z : ◌≡◌ {A = Cell} (record { row = c.row; wait = c.wait; fact = c.fact; first = c.first; second = c.second; third = c.third; whole = c.whole })
    (record { row = d.row; wait = d.wait; fact = d.fact; first = d.first; second = d.second; third = d.third; whole = d.whole }) =
    cc in
    z

thing_alike : (c d : Cell) (s : ℕ) → c.row ≡ d.row → c.wait ≡ d.wait → thing_at c s ≡ thing_at d s
unfolding thing_at
thing_alike c d s r a = cc

-- the links of entered cells are the same where the rows before m are
links_one : (cs cs' : List Cell) (s base m : ℕ) → ((p : ℕ) → p < m → ((cell_of cs' p).row ≡ (cell_of cs p).row) × ((cell_of cs' p).wait ≡ (cell_of cs p).wait)) → Indexed cs s base m → Indexed cs' s base m → (p : ℕ) → base ≤ p → p < m
    → links cs' s p ≡ links cs s p
links_one cs cs' s base m rows x y p bp pm =
    let same : (q : ℕ) → q < m → things cs' s q ≡ things cs s q = λ q qm. let r = rows q qm in thing_alike (cell_of cs' q) (cell_of cs q) s r.0 r.1 in
    let z : Index (things cs' s) (links cs s) base (order (m - base)) m m = index_below (things cs s) (things cs' s) (links cs s) (links cs s) base (order (m - base)) m same (λ q qm. refl) x in
    index_one (things cs' s) (links cs' s) (links cs s) base (order (m - base)) m y z p bp pm

-- When the cells from m on and before q are zero: cs were they all before.
pub record Clearing (cs now : List Cell) (m q : ℕ) : Type 0 where
  pub len : length now ≡ length cs
  pub zero : (p : ℕ) → m ≤ p → p < q → cell_of now p ≡ zero_cell
  pub rest : (p : ℕ) → (p < m) ⊎ (q ≤ p) → cell_of now p ≡ cell_of cs p

pub cleared : (cs ys : List Cell) (m n : ℕ) → m ≤ n → n ≤ length cs → ys ≡ replicate (length (take (n - m) (drop m cs))) zero_cell → Clearing cs (put_mid m (n - m) cs ys) m n
cleared cs ys m n mn nl w =
    let part : length (take (n - m) (drop m cs)) ≡ n - m = search (rules, places) in
    let zeros : ys ≡ replicate (n - m) zero_cell = w ∙ ap (λ (k : ℕ). replicate k zero_cell) part in
    let size : length ys ≡ n - m = ap length zeros ∙ length-replicate (n - m) zero_cell in
    let there : (q : ℕ) → q < n - m → get_or ys q zero_cell ≡ zero_cell = λ q l. ap (λ (zs : List Cell). get_or zs q zero_cell) zeros ∙ get_or-replicate (n - m) q zero_cell zero_cell l in
    record {
      len = search (rules, places, size);
      zero = λ p mp pn. search (rules, places, size, there);
      rest =
          λ p o. elim o [
            | inl h ↦ search (rules, places, size)
            | inr h ↦ search (rules, places, size)
          ];
    }

-- then the cells are what they were
pub cut_done : (cs mid after : List Cell) (base m n : ℕ) → base ≤ m → m ≤ n → Clearing cs mid m n → Relinked mid after base m → ((s : ℕ) → s < 5 → Indexed after s base m)
    → (before : List Cell) (limit : ℕ) → Log cs base n limit → Log before base m limit → Later before cs base m limit → after ≡ before
cut_done cs mid after base m n bm mn z k x before limit g old later =
    let within = g.within in
    let rows : (p : ℕ) → p < m → ((cell_of after p).row ≡ (cell_of before p).row) × ((cell_of after p).wait ≡ (cell_of before p).wait) =
    λ p pm.
    let a = k.rows p in
    let b = z.rest p (inl pm) in
    let o = later.rows p pm in
    (a.0 ∙ (ap (λ (c : Cell). c.row) b ∙ o.0), a.1 ∙ (ap (λ (c : Cell). c.wait) b ∙ o.1)) in
    ext_get_or zero_cell after before (k.len ∙ (z.len ∙ later.len))
    (λ q ql. elim (cases_lt q m) [
      | inl h ↦ elim (cases_lt q base) [
        | inl i ↦ k.outside q (inl i) ∙ (z.rest q (inl h) ∙ later.outside q (inl i))
        | inr i ↦
            let r = rows q h in
            cell_same (cell_of after q) (cell_of before q) r.0 r.1 (λ s five. links_one before after s base m rows (old.indexed s five) (x s five) q i h)
      ]
      | inr h ↦ k.outside q (inr h) ∙ elim (cases_lt q limit) [
        | inl i ↦
            let zeros : cell_of before q ≡ zero_cell = old.zero q h i in
            elim (cases_lt q n) [
              | inl j ↦ z.zero q h j ∙ sym zeros
              | inr j ↦ z.rest q (inr j) ∙ (g.zero q j i ∙ sym zeros)
            ]
        | inr i ↦ z.rest q (inr (omega arith)) ∙ later.outside q (inr i)
      ]
    ])

-- what is later than a later state is later
pub later_first : (cs : List Cell) (base m limit : ℕ) → Later cs cs base m limit
later_first cs base m limit = record { len = refl; outside = λ p o. refl; rows = λ p pm. (refl, refl) }

pub later_more : (cs mid after : List Cell) (base m n limit : ℕ) → m ≤ n → Later cs mid base m limit → Later mid after base n limit → Later cs after base m limit
later_more cs mid after base m n limit le a b =
    record {
      len = b.len ∙ a.len;
      outside = λ p o. b.outside p o ∙ a.outside p o;
      rows = λ p pm. let x = a.rows p pm in let y = b.rows p (omega arith) in (y.0 ∙ x.0, y.1 ∙ x.1);
    }

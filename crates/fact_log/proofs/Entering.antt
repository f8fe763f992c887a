-- A cell is entered in its bucket in one index after another; and all cells are entered anew.
use Rattle.std.proofs.Common.{◌≡◌, ℕ, ◌+◌, ◌^◌, ◌<◌, ◌≤◌, ◌⊎◌, List, length, set, Some, None, Option, sym, refl, ap, ◌∙◌, subst, inl, inr, arith}
use mathlib.Core.Path.{fun_ext}
use Rattle.std.proofs.lemmas.List.{length-set, get_or-set_same, get_or-set_other}
use Rattle.std.proofs.lemmas.Bool.{cases_eq, cases_lt}
use Rattle.cells.specs.declared.Link.{Link}
use Rattle.cells.specs.declared.Cell.{Cell}
use Rattle.cells.specs.Facts.{no_link, zero_cell}
use Rattle.fact_log.specs.declared.things.Thing.{Thing}
use Rattle.fact_log.specs.Links.{link_at, with_link}
use Rattle.fact_log.specs.Things.{thing_at}
use Rattle.fact_log.specs.Index.{Last, bucket, buckets, Index, cell_of, things, links, Entered, Relinked, Filed}
use Rattle.fact_log.proofs.Slots.{slot_cases, link_with, link_other, thing_with, with_same, with_twice, row_with}
use Rattle.fact_log.proofs.Buckets.{last_kept, last_new, last_none, in_bucket, no_bucket}

-- cs' is cs with the link l in index s at cell q
record Put (cs cs' : List Cell) (s q : ℕ) (l : Link) : Type 0 where
  pub only : (p : ℕ) → cell_of cs' p ≡ with_link (cell_of cs p) s (links cs' s p)
  pub here : links cs' s q ≡ l
  pub other : (p : ℕ) → (p ≡ q → ⊥) → cell_of cs' p ≡ cell_of cs p

put_one : (cs : List Cell) (s q : ℕ) (l : Link) → s < 5 → q < length cs → Put cs (set cs q (with_link (cell_of cs q) s l)) s q l
put_one cs s q l five lt =
    let c : Cell = with_link (cell_of cs q) s l in
    let at : cell_of (set cs q c) q ≡ c = get_or-set_same cs q c zero_cell lt in
    let here : links (set cs q c) s q ≡ l = ap (λ (x : Cell). link_at x s) at ∙ link_with (cell_of cs q) l s five in
    let other : (p : ℕ) → (p ≡ q → ⊥) → cell_of (set cs q c) p ≡ cell_of cs p = λ p ne. get_or-set_other cs q p c zero_cell ne in
    record {
      only =
          λ p. elim (cases_eq p q) [
            | inl z ↦ subst (λ (y : ℕ). cell_of (set cs q c) y ≡ with_link (cell_of cs y) s (links (set cs q c) s y)) (sym z) (at ∙ ap (with_link (cell_of cs q) s) (sym here))
            | inr z ↦ other p z ∙ (sym (with_same (cell_of cs p) s five) ∙ ap (λ (x : Cell). with_link (cell_of cs p) s (link_at x s)) (sym (other p z)))
          ];
      here = here;
      other = other;
    }

-- cs' is cs with cell n at the head of the bucket whose head stands in cell `first`, in index s
pub record Headed (cs cs' : List Cell) (s first n : ℕ) : Type 0 where
  pub else : (p : ℕ) → (p ≡ n → ⊥) → (p ≡ first → ⊥) → cell_of cs' p ≡ cell_of cs p
  pub only : (p : ℕ) → cell_of cs' p ≡ with_link (cell_of cs p) s (links cs' s p)
  pub head : (links cs' s first).head ≡ n
  pub heads : (p : ℕ) → (p ≡ first → ⊥) → (links cs' s p).head ≡ (links cs s p).head
  pub next : (links cs' s n).next ≡ (links cs s first).head
  pub nexts : (p : ℕ) → (p ≡ n → ⊥) → (links cs' s p).next ≡ (links cs s p).next

headed_two : (cs mid cs' : List Cell) (s first n : ℕ) (a b : Link) → s < 5 → Put cs mid s first a → Put mid cs' s n b → a.head ≡ n → a.next ≡ (links cs s first).next → b.head ≡ (links mid s n).head → b.next ≡ (links cs s first).head
    → Headed cs cs' s first n
headed_two cs mid cs' s first n a b five x y ah an bh bn =
    let one : (p : ℕ) → (p ≡ first → ⊥) → links mid s p ≡ links cs s p = λ p f. ap (λ (c : Cell). link_at c s) (x.other p f) in
    let two : (p : ℕ) → (p ≡ n → ⊥) → links cs' s p ≡ links mid s p = λ p f. ap (λ (c : Cell). link_at c s) (y.other p f) in
    let mid_next : (p : ℕ) → (links mid s p).next ≡ (links cs s p).next =
    λ p. elim (cases_eq p first) [
      | inl z ↦ subst (λ (q : ℕ). (links mid s q).next ≡ (links cs s q).next) (sym z) (ap (λ (l : Link). l.next) x.here ∙ an)
      | inr z ↦ ap (λ (l : Link). l.next) (one p z)
    ] in
    let kept_head : (p : ℕ) → (links cs' s p).head ≡ (links mid s p).head =
    λ p. elim (cases_eq p n) [
      | inl z ↦ subst (λ (q : ℕ). (links cs' s q).head ≡ (links mid s q).head) (sym z) (ap (λ (l : Link). l.head) y.here ∙ bh)
      | inr z ↦ ap (λ (l : Link). l.head) (two p z)
    ] in
    record {
      else = λ p f g. y.other p f ∙ x.other p g;
      only = λ p. y.only p ∙ (ap (λ (c : Cell). with_link c s (links cs' s p)) (x.only p) ∙ with_twice (cell_of cs p) (links mid s p) (links cs' s p) s five);
      head = kept_head first ∙ (ap (λ (l : Link). l.head) x.here ∙ ah);
      heads = λ p f. kept_head p ∙ ap (λ (l : Link). l.head) (one p f);
      next = ap (λ (l : Link). l.next) y.here ∙ bn;
      nexts = λ p f. ap (λ (l : Link). l.next) (two p f) ∙ mid_next p;
    }

pub headed : (cs mid cs' : List Cell) (s first n : ℕ) (a b : Cell) → s < 5 → first < length cs → n < length cs → a ≡ with_link (cell_of cs first) s (record { head = n; next = (links cs s first).next }) → mid ≡ set cs first a
    → b ≡ with_link (cell_of mid n) s (record { head = (links mid s n).head; next = (links cs s first).head }) → cs' ≡ set mid n b → Headed cs cs' s first n
headed cs mid cs' s first n a b five fl nl ea em eb ec =
    let la : Link = record { head = n; next = (links cs s first).next } in
    let lb : Link = record { head = (links mid s n).head; next = (links cs s first).head } in
    let is_mid : mid ≡ set cs first (with_link (cell_of cs first) s la) = em ∙ ap (set cs first) ea in
    let is_after : cs' ≡ set mid n (with_link (cell_of mid n) s lb) = ec ∙ ap (set mid n) eb in
    let size : length mid ≡ length cs = ap length em ∙ length-set cs first a in
    headed_two cs mid cs' s first n la lb five (subst (λ (z : List Cell). Put cs z s first la) (sym is_mid) (put_one cs s first la five fl))
    (subst (λ (z : List Cell). Put mid z s n lb) (sym is_after) (put_one mid s n lb five (omega (arith, size)))) refl refl refl refl

-- then cell n is in its bucket
pub entered : (cs cs' : List Cell) (s base k top n b : ℕ) (t : Thing) → s < 5 → base ≤ n → n < top → base + 2 ^ k ≤ top → b < 2 ^ k → b ≡ bucket k t → things cs s n ≡ Some t → Headed cs cs' s (base + b) n
    → Index (things cs s) (links cs s) base k top n → Entered cs cs' s base k top n
entered cs cs' s base k top n b t five bn nt fits bk is e h x =
    let B : ℕ → Option ℕ = buckets k (things cs s) in
    let own : B n ≡ Some b = in_bucket k (things cs s) n t e ∙ ap Some (sym is) in
    let eq : things cs s ≡ things cs' s = fun_ext (λ p. sym (ap (λ (c : Cell). thing_at c s) (h.only p) ∙ thing_with (cell_of cs p) (links cs' s p) s s five)) in
    let y : Index (things cs s) (links cs' s) base k top (n + 1) =
    record {
      heads =
          λ c ck ct. elim (cases_eq c b) [
            | inl z ↦
                let new : Last B base b (n + 1) (links cs' s (base + b)).head = subst (λ (r : ℕ). Last B base b (n + 1) r) (sym h.head) (last_new bn own) in
                subst (λ (d : ℕ). Last B base d (n + 1) (links cs' s (base + d)).head) (sym z) new
            | inr z ↦
                let old : Last B base c (n + 1) (links cs s (base + c)).head = last_kept (links cs s (base + c)).head (λ f. let g : Some b ≡ Some c = sym own ∙ f in let v : b ≡ c = cc in z (sym v)) (x.heads c ck ct) in
                subst (λ (r : ℕ). Last B base c (n + 1) r) (sym (h.heads (base + c) (λ f. z (omega (arith, f))))) old
          ];
      plain = λ p lo hi. h.heads p (λ f. omega (arith, f)) ∙ x.plain p lo hi;
      nexts =
          λ p c bp pn f. elim (cases_eq p n) [
            | inl z ↦
                let g : Some b ≡ Some c = sym own ∙ (ap B (sym z) ∙ f) in
                let v : b ≡ c = cc in
                let here : Last B base b n (links cs' s n).next = subst (λ (r : ℕ). Last B base b n r) (sym h.next) (x.heads b bk (omega arith)) in
                let there : Last B base c n (links cs' s n).next = subst (λ (d : ℕ). Last B base d n (links cs' s n).next) v here in
                subst (λ (q : ℕ). Last B base c q (links cs' s q).next) (sym z) there
            | inr z ↦ subst (λ (r : ℕ). Last B base c p r) (sym (h.nexts p z)) (x.nexts p c bp (omega (arith, z)) f)
          ];
      idle =
          λ p bp pn f. elim (cases_eq p n) [
            | inl z ↦ absurd (let g : None ≡ Some t = sym f ∙ (ap (things cs s) z ∙ e) in let v : ◌≡◌ {A = ℕ} 0 1 = cc in omega arith)
            | inr z ↦ h.nexts p z ∙ x.idle p bp (omega (arith, z)) f
          ];
      free = λ p bp np pt. h.nexts p (λ f. omega (arith, f)) ∙ x.free p bp (omega arith) pt;
    } in
    record {
      indexed = subst (λ (f : ℕ → Option Thing). Index f (links cs' s) base k top (n + 1)) eq y;
      outside = λ p o. h.else p (λ f. elim o [ inl i ↦ omega (arith, f, i) | inr i ↦ omega (arith, f, i) ]) (λ f. elim o [ inl i ↦ omega (arith, f, i) | inr i ↦ omega (arith, f, i) ]);
      only = h.only;
    }

-- the cell is looked up by nothing
pub entered_nothing : (cs : List Cell) (s base k top n : ℕ) → s < 5 → base ≤ n → n < top → things cs s n ≡ None → Index (things cs s) (links cs s) base k top n → Entered cs cs s base k top n
entered_nothing cs s base k top n five bn nt e x =
    let B : ℕ → Option ℕ = buckets k (things cs s) in
    let none : (b : ℕ) → B n ≡ Some b → ⊥ = λ b f. let g : None ≡ Some b = sym (no_bucket k (things cs s) n e) ∙ f in let v : ◌≡◌ {A = ℕ} 0 1 = cc in omega arith in
    record {
      indexed =
          record {
            heads = λ b bk bt. last_kept (links cs s (base + b)).head (none b) (x.heads b bk bt);
            plain = x.plain;
            nexts =
                λ p b bp pn f. elim (cases_eq p n) [
                  | inl z ↦ absurd (none b (ap B (sym z) ∙ f))
                  | inr z ↦ x.nexts p b bp (omega (arith, z)) f
                ];
            idle =
                λ p bp pn f. elim (cases_eq p n) [
                  | inl z ↦ ap (λ (q : ℕ). (links cs s q).next) z ∙ x.free n bn (omega arith) nt
                  | inr z ↦ x.idle p bp (omega (arith, z)) f
                ];
            free = λ p bp np pt. x.free p bp (omega arith) pt;
          };
      outside = λ p o. refl;
      only = λ p. sym (with_same (cell_of cs p) s five);
    }

-- When the indices below j have cell n, since the cells were cs₁.
pub record Filing (cs₁ cs : List Cell) (base k top n j : ℕ) : Type 0 where
  pub relinked : Relinked cs₁ cs base top
  pub done : (s : ℕ) → s < j → s < 5 → Index (things cs s) (links cs s) base k top (n + 1)
  pub todo : (s : ℕ) → j ≤ s → s < 5 → Index (things cs s) (links cs s) base k top n

index_kept : (cs cs' : List Cell) (j base k top n m : ℕ) → j < 5 → Entered cs cs' j base k top n → (s : ℕ) → s < 5 → (j ≡ s → ⊥) → Index (things cs s) (links cs s) base k top m → Index (things cs' s) (links cs' s) base k top m
index_kept cs cs' j base k top n m jl e s sl ne x =
    let t : things cs s ≡ things cs' s = fun_ext (λ p. sym (ap (λ (c : Cell). thing_at c s) (e.only p) ∙ thing_with (cell_of cs p) (links cs' j p) s j jl)) in
    let l : links cs s ≡ links cs' s = fun_ext (λ p. sym (ap (λ (c : Cell). link_at c s) (e.only p) ∙ link_other (cell_of cs p) (links cs' j p) j jl s sl ne)) in
    let y : Index (things cs' s) (links cs s) base k top m = subst (λ (f : ℕ → Option Thing). Index f (links cs s) base k top m) t x in
    subst (λ (f : ℕ → Link). Index (things cs' s) f base k top m) l y

pub relinked_same : (cs : List Cell) (base top : ℕ) → Relinked cs cs base top
relinked_same cs base top = record { len = refl; outside = λ p o. refl; rows = λ p. (refl, refl) }

pub relinked_more : (cs mid after : List Cell) (base top : ℕ) → Relinked cs mid base top → Relinked mid after base top → Relinked cs after base top
relinked_more cs mid after base top a b =
    record {
      len = b.len ∙ a.len;
      outside = λ p o. b.outside p o ∙ a.outside p o;
      rows = λ p. let x = a.rows p in let y = b.rows p in (y.0 ∙ x.0, y.1 ∙ x.1);
    }

relinked_one : (cs cs' : List Cell) (s base k top n : ℕ) → s < 5 → length cs' ≡ length cs → Entered cs cs' s base k top n → Relinked cs cs' base top
relinked_one cs cs' s base k top n five len e =
    record {
      len = len;
      outside = e.outside;
      rows = λ p. let r = row_with (cell_of cs p) (links cs' s p) s five in (ap (λ (c : Cell). c.row) (e.only p) ∙ r.0, ap (λ (c : Cell). c.wait) (e.only p) ∙ r.1);
    }

pub filing_first : (cs : List Cell) (base k top n : ℕ) → ((s : ℕ) → s < 5 → Index (things cs s) (links cs s) base k top n) → Filing cs cs base k top n 0
filing_first cs base k top n x = record { relinked = relinked_same cs base top; done = λ s sj sl. absurd (omega arith); todo = λ s sj sl. x s sl }

pub filing_next : (cs₁ cs cs' : List Cell) (base k top n j : ℕ) → j < 5 → length cs' ≡ length cs → Filing cs₁ cs base k top n j → Entered cs cs' j base k top n → Filing cs₁ cs' base k top n (j + 1)
filing_next cs₁ cs cs' base k top n j jl len g e =
    record {
      relinked = relinked_more cs₁ cs cs' base top g.relinked (relinked_one cs cs' j base k top n jl len e);
      done =
          λ s sj sl. elim (cases_eq s j) [
            | inl z ↦ subst (λ (x : ℕ). Index (things cs' x) (links cs' x) base k top (n + 1)) (sym z) e.indexed
            | inr z ↦ index_kept cs cs' j base k top n (n + 1) jl e s sl (λ q. z (sym q)) (g.done s (omega (arith, z)) sl)
          ];
      todo = λ s sj sl. index_kept cs cs' j base k top n n jl e s sl (λ q. omega (arith, q)) (g.todo s (omega arith) sl);
    }

pub filed : (cs₁ cs : List Cell) (base k top n j : ℕ) → 5 ≤ j → Filing cs₁ cs base k top n j → Filed cs₁ cs base k top (n + 1)
filed cs₁ cs base k top n j all g = record { relinked = g.relinked; indexed = λ s sl. g.done s (omega arith) sl }

-- the cell without its links
abbrev pub unlinked : Cell → Cell
unlinked c = record { row = c.row; wait = c.wait; fact = no_link; first = no_link; second = no_link; third = no_link; whole = no_link }

unlinked_link : (c : Cell) (s : ℕ) → s < 5 → link_at (unlinked c) s ≡ no_link
unfolding link_at
unlinked_link c = slot_cases (λ s. link_at (unlinked c) s ≡ no_link) refl refl refl refl refl

-- When the cells before p have lost their links.
pub record Unlinking (cs now : List Cell) (base p : ℕ) : Type 0 where
  pub len : length now ≡ length cs
  pub done : (q : ℕ) → base ≤ q → q < p → cell_of now q ≡ unlinked (cell_of cs q)
  pub rest : (q : ℕ) → (q < base) ⊎ (p ≤ q) → cell_of now q ≡ cell_of cs q

pub unlinking_first : (cs : List Cell) (base : ℕ) → Unlinking cs cs base base
unlinking_first cs base = record { len = refl; done = λ q bq qp. absurd (omega arith); rest = λ q o. refl }

pub unlinking_next : (cs now after : List Cell) (base p : ℕ) (c : Cell) → base ≤ p → p < length now → Unlinking cs now base p → c ≡ unlinked (cell_of now p) → after ≡ set now p c → Unlinking cs after base (p + 1)
unlinking_next cs now after base p c bp pl k is w =
    let here : cell_of after p ≡ c = ap (λ (x : List Cell). cell_of x p) w ∙ get_or-set_same now p c zero_cell pl in
    let other : (q : ℕ) → (q ≡ p → ⊥) → cell_of after q ≡ cell_of now q = λ q ne. ap (λ (x : List Cell). cell_of x q) w ∙ get_or-set_other now p q c zero_cell ne in
    let own : cell_of after p ≡ unlinked (cell_of cs p) = here ∙ (is ∙ ap unlinked (k.rest p (inr (omega arith)))) in
    record {
      len = (ap length w ∙ length-set now p c) ∙ k.len;
      done =
          λ q bq qp. elim (cases_eq q p) [
            | inl z ↦ subst (λ (x : ℕ). cell_of after x ≡ unlinked (cell_of cs x)) (sym z) own
            | inr z ↦ other q z ∙ k.done q bq (omega (arith, z))
          ];
      rest =
          λ q o. elim o [
            | inl h ↦ other q (λ z. omega (arith, z)) ∙ k.rest q (inl h)
            | inr h ↦ other q (λ z. omega (arith, z)) ∙ k.rest q (inr (omega arith))
          ];
    }

-- Then none of them is entered, in any number of buckets.
pub refiling_first : (cs now : List Cell) (base k end : ℕ) → base ≤ end → Unlinking cs now base end → Filed cs now base k end base
refiling_first cs now base k end be u =
    let bare : (s : ℕ) → s < 5 → (p : ℕ) → base ≤ p → p < end → links now s p ≡ no_link =
    λ s five p bp pe. ap (λ (c : Cell). link_at c s) (u.done p bp pe) ∙ unlinked_link (cell_of cs p) s five in
    record {
      relinked =
          record {
            len = u.len;
            outside = u.rest;
            rows =
                λ p. elim (cases_lt p base) [
                  | inl h ↦ let e = u.rest p (inl h) in (ap (λ (c : Cell). c.row) e, ap (λ (c : Cell). c.wait) e)
                  | inr h ↦ elim (cases_lt p end) [
                    | inl i ↦ let e = u.done p h i in (ap (λ (c : Cell). c.row) e, ap (λ (c : Cell). c.wait) e)
                    | inr i ↦ let e = u.rest p (inr i) in (ap (λ (c : Cell). c.row) e, ap (λ (c : Cell). c.wait) e)
                  ]
                ];
          };
      indexed =
          λ s five.
          record {
            heads = λ b bk bt. subst (λ (l : Link). Last (buckets k (things now s)) base b base l.head) (sym (bare s five (base + b) (omega arith) bt)) (last_none (buckets k (things now s)) base b);
            plain = λ p lo hi. ap (λ (l : Link). l.head) (bare s five p (omega arith) hi);
            nexts = λ p b bp pn e. absurd (omega arith);
            idle = λ p bp pn e. absurd (omega arith);
            free = λ p bp np pt. ap (λ (l : Link). l.next) (bare s five p bp pt);
          };
    }

pub refiling_next : (cs now after : List Cell) (base k end n : ℕ) → Filed cs now base k end n → Filed now after base k end (n + 1) → Filed cs after base k end (n + 1)
refiling_next cs now after base k end n a b = record { relinked = relinked_more cs now after base end a.relinked b.relinked; indexed = b.indexed }

-- How many buckets there are (`order_of`), what a way down a bucket finds (`down_from`, `down_step`), and what of an index is kept where
-- cells change.
use Rattle.std.proofs.Common.{◌≡◌, ℕ, zero, suc, ◌+◌, ◌-◌, ◌*◌, ◌^◌, max, ◌<◌, ◌≤◌, Bool, true, false, cond, ltb, ◌⊎◌, List, Some, None, Option, MatchOption, sym, refl, ap, ◌∙◌, subst, inl, inr, arith}
use Rattle.std.specs.Option.{option_map}
use Rattle.std.proofs.Math.Nat.{pow-le-pow_right, max-eq_left}
use Rattle.std.proofs.lemmas.Nat.{pow_pos}
use Rattle.std.proofs.lemmas.Grind.{pow_more}
use Rattle.std.proofs.lemmas.Bool.{cases_lt, cases_eq}
use Rattle.std.proofs.lemmas.Bool.Decides.{Decides-ltb}
use Rattle.cells.specs.declared.Link.{Link}
use Rattle.cells.specs.declared.Cell.{Cell}
use Rattle.cells.specs.Facts.{no_link}
use Rattle.fact_log.specs.declared.things.Thing.{Thing}
use Rattle.fact_log.specs.declared.view.Index as view
use Rattle.fact_log.specs.Links.{link_at}
use Rattle.fact_log.specs.Things.{thing_at}
use Rattle.fact_log.specs.Index.{Last, LastOf, order, bucket, buckets, Index, cell_of, things, links, Indexed, thing_in, link_in, bucket_in, IsIndexed, Down}

pub last_one : {X : Type 0} {found_by : ℕ → Option X} {base : ℕ} {x : X} {n : ℕ} (r s : ℕ) → Last found_by base x n r → Last found_by base x n s → r ≤ s
last_one r s a b = elim (cases_lt s r) [ inl h ↦ let f = a.found (omega arith) in absurd (b.after r f.0 h f.1 f.2) | inr h ↦ h ]

pub last_same : {X : Type 0} {found_by : ℕ → Option X} {base : ℕ} {x : X} {n : ℕ} (r s : ℕ) → Last found_by base x n r → Last found_by base x n s → r ≡ s
last_same r s a b = let x = last_one r s a b in let y = last_one s r b a in omega arith

-- the cell n that is not looked up by x changes nothing
pub last_kept : {X : Type 0} {found_by : ℕ → Option X} {base n : ℕ} {x : X} (c : ℕ) → (found_by n ≡ Some x → ⊥) → Last found_by base x n c → Last found_by base x (n + 1) c
last_kept {X} {found_by} {base} {n} {x} c none a =
    record {
      after = λ p bp cp pn e. elim (cases_eq p n) [ inl z ↦ none (ap found_by (sym z) ∙ e) | inr z ↦ a.after p bp cp (omega arith) e ];
      found = λ z. let f = a.found z in (f.0, omega arith, f.2);
    }

-- and the cell that is looked up by it is the last
pub last_new : {X : Type 0} {found_by : ℕ → Option X} {base n : ℕ} {x : X} → base ≤ n → found_by n ≡ Some x → Last found_by base x (n + 1) n
last_new {X} {found_by} {base} {n} {x} b e = record { after = λ p bp cp pn q. omega arith; found = λ z. (b, omega arith, e) }

-- before `base` there is none
pub last_none : {X : Type 0} (found_by : ℕ → Option X) (base : ℕ) (x : X) → Last found_by base x base 0
last_none found_by base x = record { after = λ p bp cp pn q. omega arith; found = λ z. let y : ⊥ = omega arith in absurd y }

-- the last before n is not seen from cells from n on
pub last_below : {X : Type 0} (found_by found_by' : ℕ → Option X) (base n : ℕ) → ((p : ℕ) → p < n → found_by' p ≡ found_by p) → (x : X) (m r : ℕ) → m ≤ n → Last found_by base x m r → Last found_by' base x m r
last_below found_by found_by' base n same x m r le a =
    record {
      after = λ p bp rp pm e. a.after p bp rp pm (sym (same p (omega arith)) ∙ e);
      found = λ z. let f = a.found z in (f.0, f.1, same r (omega (arith, f.1)) ∙ f.2);
    }

-- a cell is in the bucket of what it is looked up by
pub in_bucket : (k : ℕ) (thing : ℕ → Option Thing) (p : ℕ) (t : Thing) → thing p ≡ Some t → buckets k thing p ≡ Some (bucket k t)
in_bucket k thing p t e = ap (option_map (bucket k)) e

pub no_bucket : (k : ℕ) (thing : ℕ → Option Thing) (p : ℕ) → thing p ≡ None → buckets k thing p ≡ None
no_bucket k thing p e = ap (option_map (bucket k)) e

double : (k : ℕ) → 2 ^ suc k ≡ 2 ^ k * 2
double k = let e : suc k ≡ k + 1 = omega arith in ap (λ (j : ℕ). 2 ^ j) e ∙ pow_more 2 k

order_bit : (m k : ℕ) (b : Bool) → ltb (suc m) (2 * 2 ^ k) ≡ b → 2 ^ k ≤ m → m < 2 * 2 ^ k → (2 ^ cond b k (suc k) ≤ suc m) × (suc m < 2 * 2 ^ cond b k (suc k))
order_bit m k true e lo hi = (omega (arith, lo), (Decides-ltb (suc m) (2 * 2 ^ k)).0 e)
order_bit m k false e lo hi =
    let over : 2 * 2 ^ k ≤ suc m = elim (cases_lt (suc m) (2 * 2 ^ k)) [
      | inl h ↦ absurd (let z : false ≡ true = sym e ∙ (Decides-ltb (suc m) (2 * 2 ^ k)).1 h in cc)
      | inr h ↦ h
    ] in
    let more : 2 ^ suc k ≡ 2 ^ k * 2 = double k in
    (omega (arith, over, more), omega (arith, hi, more, pow_pos k))

-- there is at least one fact for each bucket, and fewer than two
pub order_of : (n : ℕ) → 0 < n → (2 ^ order n ≤ n) × (n < 2 * 2 ^ order n)
unfolding order
order_of zero pos = absurd (omega arith)
order_of (suc zero) pos = (omega arith, omega arith)
order_of (suc (suc n)) pos = let r = order_of (suc n) (omega arith) in order_bit (suc n) (order (suc n)) (ltb (suc (suc n)) (2 * 2 ^ order (suc n))) refl r.0 r.1

pow_one : (n j k : ℕ) → 2 ^ j ≤ n → n < 2 * 2 ^ k → j ≤ k
pow_one n j k lo hi = elim (cases_lt k j) [
  | inl h ↦
      let up : 2 ^ suc k ≤ 2 ^ j = pow-le-pow_right (omega arith) h in
      let more : 2 ^ suc k ≡ 2 ^ k * 2 = double k in
      absurd (omega (arith, up, more, lo, hi))
  | inr h ↦ h
]

-- no other number of buckets is so
pub order_is : (n k : ℕ) → 0 < n → 2 ^ k ≤ n → n < 2 * 2 ^ k → k ≡ order n
order_is n k pos lo hi =
    let r = order_of n pos in
    let a = pow_one n k (order n) lo r.1 in
    let b = pow_one n (order n) k r.0 hi in
    omega arith

-- with no facts there is one bucket, as with one
pub order_told : (n k : ℕ) → 2 ^ k ≤ max n 1 → max n 1 < 2 * 2 ^ k → k ≡ order n
unfolding order
order_told zero k lo hi = order_is 1 k (omega arith) lo hi
order_told (suc n) k lo hi =
    let e : max (suc n) 1 ≡ suc n = max-eq_left (omega arith) in
    order_is (suc n) k (omega arith) (subst (λ (m : ℕ). 2 ^ k ≤ m) e lo) (subst (λ (m : ℕ). m < 2 * 2 ^ k) e hi)

-- each head stands in a cell of a fact
pub head_inside : (base n b : ℕ) → base < n → b < 2 ^ order (n - base) → base + b < n
head_inside base n b lt bk = let r = order_of (n - base) (omega arith) in omega (arith, r.0)

-- Where nothing from m on and before `before` is looked up by t, the last before m in its bucket is where the way down begins.
pub down_from : (x : view.Index) (t : Thing) (before m : ℕ) (r : Option ℕ) → m ≤ x.end → ((p : ℕ) → x.base ≤ p → m ≤ p → p < before → thing_in x p ≡ Some t → ⊥)
    → LastOf (bucket_in x) x.base (bucket (order (x.end - x.base)) t) m r → MatchOption r (Last (thing_in x) x.base t before 0) (λ c. (0 < c) × (c < m) × Down x t before c)
down_from x t before m None mn none l =
    record {
      after =
          λ p bp cp pb e. elim (cases_lt p m) [
            | inl h ↦ l.after p bp cp h (in_bucket (order (x.end - x.base)) (thing_in x) p t e)
            | inr h ↦ none p bp h pb e
          ];
      found = λ z. let y : ⊥ = omega arith in absurd y;
    }
down_from x t before m (Some c) mn none l =
    let f = l.1.found l.0 in (
      l.0,
      f.1,
      record {
        low = f.0;
        high = omega (arith, f.1);
        same = f.2;
        between =
            λ p bp cp pb e. elim (cases_lt p m) [
              | inl h ↦ l.1.after p bp cp h (in_bucket (order (x.end - x.base)) (thing_in x) p t e)
              | inr h ↦ none p bp h pb e
            ];
      },
    )

-- what stands in a link
pub link_last : {X : Type 0} (found_by : ℕ → Option X) (base : ℕ) (x : X) (n l : ℕ) (r : Option ℕ) → Last found_by base x n l → MatchOption r (l ≡ 0) (λ p. (0 < p) × (p ≡ l)) → LastOf found_by base x n r
link_last found_by base x n l None a e = subst (Last found_by base x n) e a
link_last found_by base x n l (Some p) a e = (e.0, subst (Last found_by base x n) (sym e.1) a)

-- one cell further down, where the cell is not the one that is sought
pub down_step : (x : view.Index) (t : Thing) (before c : ℕ) (r : Option ℕ) → IsIndexed x → Down x t before c → ((c < before) → thing_in x c ≡ Some t → ⊥)
    → MatchOption r ((link_in x c).next ≡ 0) (λ p. (0 < p) × (p ≡ (link_in x c).next)) → MatchOption r (Last (thing_in x) x.base t before 0) (λ p. (0 < p) × (p < c) × Down x t before p)
down_step x t before c r i d not e =
    let high = d.high in
    let b : ℕ = bucket (order (x.end - x.base)) t in
    down_from x t before c r (omega arith)
    (λ p bp cp pb f. elim (cases_eq p c) [
      | inl z ↦ not (omega (arith, z)) (ap (thing_in x) (sym z) ∙ f)
      | inr z ↦ d.between p bp (omega (arith, z)) pb f
    ])
    (link_last (bucket_in x) x.base b c (link_in x c).next r (i.nexts c b d.low high d.same) e)

-- from a cell that is itself looked up by the thing
pub down_own : (x : view.Index) (t : Thing) (before : ℕ) (r : Option ℕ) → IsIndexed x → x.base ≤ before → before < x.end → thing_in x before ≡ Some t
    → MatchOption r ((link_in x before).next ≡ 0) (λ p. (0 < p) × (p ≡ (link_in x before).next)) → MatchOption r (Last (thing_in x) x.base t before 0) (λ p. (0 < p) × (p < before) × Down x t before p)
down_own x t before r i low high is e =
    let b : ℕ = bucket (order (x.end - x.base)) t in
    down_from x t before before r (omega arith) (λ p bp cp pb f. omega arith)
    (link_last (bucket_in x) x.base b before (link_in x before).next r (i.nexts before b low high (in_bucket (order (x.end - x.base)) (thing_in x) before t is)) e)

-- the cell that is sought
pub down_here : (x : view.Index) (t : Thing) (before c : ℕ) → Down x t before c → c < before → thing_in x c ≡ Some t → Last (thing_in x) x.base t before c
down_here x t before c d lt e = record { after = d.between; found = λ z. (d.low, lt, e) }

-- an index does not see cells from n on
pub index_below : (thing thing' : ℕ → Option Thing) (link link' : ℕ → Link) (base k n : ℕ) → ((p : ℕ) → p < n → thing' p ≡ thing p) → ((p : ℕ) → p < n → link' p ≡ link p) → Index thing link base k n n
    → Index thing' link' base k n n
index_below thing thing' link link' base k n t l x =
    let same : (p : ℕ) → p < n → buckets k thing' p ≡ buckets k thing p = λ p pn. ap (option_map (bucket k)) (t p pn) in
    record {
      heads =
          λ b bk bn.
          subst (λ (y : Link). Last (buckets k thing') base b n y.head) (sym (l (base + b) bn))
          (last_below (buckets k thing) (buckets k thing') base n same b n (link (base + b)).head (omega arith) (x.heads b bk bn));
      plain = λ p lo hi. ap (λ (y : Link). y.head) (l p hi) ∙ x.plain p lo hi;
      nexts =
          λ p b bp pn e.
          subst (λ (y : Link). Last (buckets k thing') base b p y.next) (sym (l p pn))
          (last_below (buckets k thing) (buckets k thing') base n same b p (link p).next (omega arith) (x.nexts p b bp pn (sym (same p pn) ∙ e)));
      idle = λ p bp pn e. ap (λ (y : Link). y.next) (l p pn) ∙ x.idle p bp pn (sym (t p pn) ∙ e);
      free = λ p bp np pn. omega arith;
    }

pub indexed_below : (cs cs' : List Cell) (s base n : ℕ) → ((p : ℕ) → p < n → cell_of cs' p ≡ cell_of cs p) → Indexed cs s base n → Indexed cs' s base n
indexed_below cs cs' s base n same x =
    index_below (things cs s) (things cs' s) (links cs s) (links cs' s) base (order (n - base)) n (λ p pn. ap (λ c. thing_at c s) (same p pn)) (λ p pn. ap (λ c. link_at c s) (same p pn)) x

-- with no facts there is nothing to index
pub indexed_none : (cs : List Cell) (s base : ℕ) → Indexed cs s base base
indexed_none cs s base =
    record {
      heads = λ b bk bn. absurd (omega arith);
      plain = λ p lo hi. absurd (omega arith);
      nexts = λ p b bp pn e. absurd (omega arith);
      idle = λ p bp pn e. absurd (omega arith);
      free = λ p bp np pn. absurd (omega arith);
    }

-- one cell more, which has no link yet, as long as the number of buckets stays
pub index_longer : (cs : List Cell) (s base n : ℕ) → base < n → links cs s n ≡ no_link → Indexed cs s base n → Index (things cs s) (links cs s) base (order (n - base)) (n + 1) n
index_longer cs s base n bn fresh x =
    let k : ℕ = order (n - base) in
    let fits : 2 ^ k ≤ n - base = (order_of (n - base) (omega arith)).0 in
    record {
      heads = λ b bk bt. x.heads b bk (omega (arith, fits));
      plain = λ p lo hi. elim (cases_eq p n) [ inl z ↦ ap (λ (q : ℕ). (links cs s q).head) z ∙ ap (λ (l : Link). l.head) fresh | inr z ↦ x.plain p lo (omega (arith, z)) ];
      nexts = x.nexts;
      idle = x.idle;
      free = λ p bp np pt. let z : p ≡ n = omega arith in ap (λ (q : ℕ). (links cs s q).next) z ∙ ap (λ (l : Link). l.next) fresh;
    }

option_cases : {X : Type 0} (o : Option X) → (o ≡ None) ⊎ ((x : X) × (o ≡ Some x))
option_cases None = inl refl
option_cases (Some x) = inr (x, refl)

-- An index has one form: where cells are looked up by the same things, their links are the same.
pub index_one : (thing : ℕ → Option Thing) (link link' : ℕ → Link) (base k n : ℕ) → Index thing link base k n n → Index thing link' base k n n → (p : ℕ) → base ≤ p → p < n → link p ≡ link' p
index_one thing link link' base k n x y p bp pn =
    let head : (link p).head ≡ (link' p).head =
    elim (cases_lt p (base + 2 ^ k)) [
      | inl h ↦
          let b : ℕ = p - base in
          let here : base + b ≡ p = omega arith in
          subst (λ (q : ℕ). (link q).head ≡ (link' q).head) here (last_same (link (base + b)).head (link' (base + b)).head (x.heads b (omega arith) (omega arith)) (y.heads b (omega arith) (omega arith)))
      | inr h ↦ x.plain p h pn ∙ sym (y.plain p h pn)
    ] in
    let next : (link p).next ≡ (link' p).next =
    elim (option_cases (thing p)) [
      | inl e ↦ x.idle p bp pn e ∙ sym (y.idle p bp pn e)
      | inr o ↦
          let e = in_bucket k thing p o.0 o.1 in
          last_same (link p).next (link' p).next (x.nexts p (bucket k o.0) bp pn e) (y.nexts p (bucket k o.0) bp pn e)
    ] in
    let z : ◌≡◌ {A = Link} (record { head = (link p).head; next = (link p).next }) (record { head = (link' p).head; next = (link' p).next }) = cc in
    z

-- Numbering the left sides of made rules, one cell after another: `numbering_again` is one turn, and `numbered_all` the end.
use Rattle.std.proofs.Common.{◌≡◌, ℕ, zero, suc, ◌+◌, ◌-◌, ◌<◌, ◌≤◌, true, false, ◌≢◌, List, [], ◌∷◌, ◌++◌, length, set, Some, None, Option, MatchOption, unwrap_or, is_some, cond, sym, refl, ap, ◌∙◌, subst, inl, inr, arith, length-append, length-set, get_or-set_other, get_or-set_same}
use Rattle.std.proofs.lemmas.Bool.{cases_eq, cases_lt}
use Rattle.std.specs.List.{slice_get}
use Rattle.grammar.specs.Grammar.{Grammar, from_one}
use Rattle.chart.specs.Chart as chart
use Rattle.chart.specs.Chart.{Chart, made, Member, Apart}
use Rattle.faults.proofs.Made.{below_there}
use Rattle.chart.proofs.Listing.{of_append, apart_append}
use Rattle.cells.specs.declared.Cell.{Cell}
use Rattle.cells.specs.declared.Link.{Link}
use Rattle.cells.specs.declared.Phrase.{Phrase}
use Rattle.cells.specs.declared.Rule.{Rule}
use Rattle.cells.specs.declared.Item.{Item}
use Rattle.cells.specs.declared.Fact.{Fact}
use Rattle.cells.specs.declared.Fact.TheVariants as fact
use Rattle.cells.specs.declared.Row.{Row}
use Rattle.cells.specs.declared.Row as row
use Rattle.cells.specs.declared.Waiting.{Waiting}
use Rattle.cells.specs.declared.Waiting.TheVariants.{Idle, Part, Until, Left}
use Rattle.cells.specs.Facts.{list_of, phrase_of, rule_of, meant, zero_cell}
use Rattle.cells.proofs.Meant.{phrase_apart}
use Rattle.fact_log.specs.Index.{order, cell_of, things, links, Index, Indexed, Last}
use Rattle.fact_log.specs.Links.{link_at}
use Rattle.fact_log.specs.Log.{FactAt, Log}
use Rattle.fact_log.specs.Things.{thing_at, row_at, awaited_by, waiting_for}
use Rattle.fact_log.specs.declared.things.Key.{Key}
use Rattle.fact_log.specs.declared.things.Thing.{Thing}
use Rattle.steps.specs.Waits.{Told}
use Rattle.closing.specs.State.{State, Whole}
use Rattle.closing.specs.Joined.{made_in, key_of}
use Rattle.closing.proofs.Keys.{made_whole}
use Rattle.closing.proofs.Pairs.{made_row}
use Rattle.weigh.specs.Numbers.{with_wait, MadeAt, Renumbered, NumberOf, NumberedOne, other, again, new, InOrder, Ordered, NumberedAll}

pub not_made : (cs : List Cell) (p : ℕ) → made_in (cell_of cs p).row ≡ None → (q : Rule) → FactAt cs p (fact.Made q) → ⊥
not_made cs p e q h = let a : made_in (cell_of cs p).row ≡ Some q = ap made_in h in let z : ◌≡◌ {A = ℕ} 0 1 = cc in omega arith

-- a cell that is looked up as a made rule by its phrase alone
waiting_not : (o : Option Phrase) (s e : ℕ) (X : Phrase) → waiting_for o s e 4 ≡ Some (key_of true X 0 0) → ⊥
waiting_not None s e X h = let z : ◌≡◌ {A = ℕ} 0 1 = cc in omega arith
waiting_not (Some Y) s e X h =
    let k : ◌≡◌ {A = Key} (record { made = false; phrase = Y; constituent = 0; start = 0 }) (record { made = true; phrase = X; constituent = 0; start = 0 }) = cc in
    let t : false ≡ true = ap (λ (v : Key). v.made) k in
    let z : ◌≡◌ {A = ℕ} 0 1 = cc in
    omega arith

item_not : (x : Item) (v : Waiting) (X : Phrase) → awaited_by x v 4 ≡ Some (key_of true X 0 0) → ⊥
item_not x Idle X h = let z : ◌≡◌ {A = ℕ} 0 1 = cc in omega arith
item_not x (Left n) X h = let z : ◌≡◌ {A = ℕ} 0 1 = cc in omega arith
item_not x (Part d s) X h = waiting_not (from_one (list_of x.rule.arguments) d) s x.end X h
item_not x (Until t) X h = let z : ◌≡◌ {A = ℕ} 0 1 = cc in omega arith

row_whole : (r : Row) (v : Waiting) (X : Phrase) → row_at r v 4 ≡ Some (key_of true X 0 0) → (q : Rule) × (r ≡ row.TheVariants.Fact (fact.Made q)) × (q.left ≡ X)
row_whole row.TheVariants.Nothing v X e = absurd (let z : ◌≡◌ {A = ℕ} 0 1 = cc in omega arith)
row_whole (row.TheVariants.Category d h p) v X e = absurd (let z : ◌≡◌ {A = ℕ} 0 1 = cc in omega arith)
row_whole (row.TheVariants.Function a c n) v X e = absurd (let z : ◌≡◌ {A = ℕ} 0 1 = cc in omega arith)
row_whole (row.TheVariants.Constituent s n) v X e = absurd (let z : ◌≡◌ {A = ℕ} 0 1 = cc in omega arith)
row_whole (row.TheVariants.Symbol s) v X e = absurd (let z : ◌≡◌ {A = ℕ} 0 1 = cc in omega arith)
row_whole row.TheVariants.Empty v X e = absurd (let z : ◌≡◌ {A = ℕ} 0 1 = cc in omega arith)
row_whole (row.TheVariants.Place c f a n p) v X e = absurd (let z : ◌≡◌ {A = ℕ} 0 1 = cc in omega arith)
row_whole (row.TheVariants.Argument c) v X e = absurd (let z : ◌≡◌ {A = ℕ} 0 1 = cc in omega arith)
row_whole (row.TheVariants.Token t) v X e = absurd (let z : ◌≡◌ {A = ℕ} 0 1 = cc in omega arith)
row_whole (row.TheVariants.Fact (fact.Item x)) v X e = absurd (item_not x v X e)
row_whole (row.TheVariants.Fact (fact.Made q)) v X e = (
  q,
  refl,
  let k : ◌≡◌ {A = Key} (record { made = true; phrase = q.left; constituent = 0; start = 0 }) (record { made = true; phrase = X; constituent = 0; start = 0 }) = cc in
      ap (λ (v : Key). v.phrase) k,
)

pub whole_made : (cs : List Cell) (p : ℕ) (X : Phrase) → things cs 4 p ≡ Some (key_of true X 0 0) → (q : Rule) × FactAt cs p (fact.Made q) × (q.left ≡ X)
unfolding thing_at
whole_made cs p X e = row_whole (cell_of cs p).row (cell_of cs p).wait X e

-- what is found by the phrase alone
pub number_none : (cs : List Cell) (base n : ℕ) (X : Phrase) → 0 < base → Last (things cs 4) base (key_of true X 0 0) n 0 → NumberOf cs base n X None
number_none cs base n X pos last p q m e = absurd (last.after p m.0 (omega (arith, pos, m.0)) m.1 (made_whole cs p q m.2 ∙ ap (λ (Y : Phrase). Some (key_of true Y 0 0)) e))

-- none of them comes after the last one
last_made : (cs : List Cell) (base n : ℕ) (X : Phrase) (r : ℕ) → Last (things cs 4) base (key_of true X 0 0) n r → (m : ℕ) (q : Rule) → MadeAt cs base n m q → q.left ≡ X → m ≤ r
last_made cs base n X r last m q at e = elim (cases_lt r m) [
  | inl lt ↦ absurd (last.after m at.0 lt at.1 (made_whole cs m q at.2 ∙ ap (λ (Y : Phrase). Some (key_of true Y 0 0)) e))
  | inr le ↦ le
]

pub number_some : (cs : List Cell) (base n : ℕ) (X : Phrase) (r k : ℕ) → (0 < r) × Last (things cs 4) base (key_of true X 0 0) n r → (cell_of cs r).wait ≡ Left k → NumberOf cs base n X (Some k)
number_some cs base n X r k last e =
    let f = last.1.found last.0 in
    let m = whole_made cs r X f.2 in
    (r, m.0, (f.0, f.1, m.1), m.2, e, last_made cs base n X r last.1)

pub number_bad : (cs : List Cell) (base n : ℕ) (X : Phrase) (r : ℕ) → (0 < r) × Last (things cs 4) base (key_of true X 0 0) n r → ((k : ℕ) → (cell_of cs r).wait ≡ Left k → ⊥) → NumberOf cs base n X None
number_bad cs base n X r last bad p q h e =
    let f = last.1.found last.0 in
    let m = whole_made cs r X f.2 in
    (r, m.0, (f.0, f.1, m.1), m.2, bad, last_made cs base n X r last.1 p q h e)

-- the number that the last of them has, if it has one
pub number_left : (cs : List Cell) (base n : ℕ) (X : Phrase) (r : ℕ) (o : Option ℕ) → (0 < r) × Last (things cs 4) base (key_of true X 0 0) n r
    → MatchOption o ((k : ℕ) → (cell_of cs r).wait ≢ Left k) (λ k. (cell_of cs r).wait ≡ Left k) → NumberOf cs base n X o
number_left cs base n X r None last bad = number_bad cs base n X r last bad
number_left cs base n X r (Some k) last e = number_some cs base n X r k last e

-- the number that is known, or the next one
pub numbered_one : (cs cs' : List Cell) (base p count r : ℕ) (q : Rule) (o : Option ℕ) → FactAt cs p (fact.Made q) → NumberOf cs base p q.left o → cs' ≡ set cs p (with_wait (cell_of cs p) (Left (unwrap_or o count)))
    → r ≡ cond (is_some o) count (count + 1) → NumberedOne cs cs' base p count r
numbered_one cs cs' base p count r q None at o is e = new q at o is e
numbered_one cs cs' base p count r q (Some k) at o is e = again q k at o is e

-- where only numbers changed, the log is a log still
thing_kept : (c d : Cell) (s : ℕ) (o : Option Rule) → made_in c.row ≡ o → d ≡ with_wait c d.wait → (made_in c.row ≡ None → d ≡ c) → thing_at d s ≡ thing_at c s
unfolding thing_at
thing_kept c d s None e k h = let same = h e in ap (λ (x : Cell). row_at x.row x.wait s) same
thing_kept c d s (Some q) e k h =
    let row_is = made_row c.row q (sym e) in
    ap (λ (x : Cell). row_at x.row x.wait s) k ∙ (ap (λ (r : Row). row_at r d.wait s) row_is ∙ sym (ap (λ (r : Row). row_at r c.wait s) row_is))

things_kept : (cs cs' : List Cell) (base n : ℕ) → Renumbered cs cs' base n → (s p : ℕ) → things cs' s p ≡ things cs s p
things_kept cs cs' base n k s p = thing_kept (cell_of cs p) (cell_of cs' p) s (made_in (cell_of cs p).row) refl (k.only p) (λ e. k.others p (λ r m. not_made cs p e r m.2))

links_kept : (cs cs' : List Cell) (base n : ℕ) → Renumbered cs cs' base n → (s p : ℕ) → links cs' s p ≡ links cs s p
unfolding link_at
links_kept cs cs' base n k s p = ap (λ (x : Cell). link_at x s) (k.only p)

pub row_kept : (cs cs' : List Cell) (base n : ℕ) → Renumbered cs cs' base n → (p : ℕ) → (cell_of cs' p).row ≡ (cell_of cs p).row
row_kept cs cs' base n k p = ap (λ (x : Cell). x.row) (k.only p)

indexed_kept : (cs cs' : List Cell) (base m n : ℕ) → Renumbered cs cs' base m → (s : ℕ) → Indexed cs s base n → Indexed cs' s base n
indexed_kept cs cs' base m n k s h =
    let t : things cs s ≡ things cs' s = λ i p. sym (things_kept cs cs' base m k s p) i in
    let l : links cs s ≡ links cs' s = λ i p. sym (links_kept cs cs' base m k s p) i in
    let b : ℕ = order (n - base) in
    subst (λ (f : ℕ → Link). Index (things cs' s) f base b n n) l (subst (λ (f : ℕ → Option Thing). Index f (links cs s) base b n n) t h)

pub log_kept : (cs cs' : List Cell) (base m n limit : ℕ) → m ≤ n → Renumbered cs cs' base m → Log cs base n limit → Log cs' base n limit
log_kept cs cs' base m n limit mn k h = record {
  positive = h.positive;
  begun = h.begun;
  within = h.within;
  inside = omega (arith, k.len, h.inside);
  facts = λ p bp pn. let f = h.facts p bp pn in (f.0, row_kept cs cs' base m k p ∙ f.1);
  apart = λ p q f bp pn bq qn a b. h.apart p q f bp pn bq qn (sym (row_kept cs cs' base m k p) ∙ a) (sym (row_kept cs cs' base m k q) ∙ b);
  indexed = λ s lt. indexed_kept cs cs' base m n k s (h.indexed s lt);
  zero = λ p np pl. k.others p (λ r at. let lt = at.1 in omega arith) ∙ h.zero p np pl;
}

-- where the numbering has come to p
pub record Numbering (cs cs' : List Cell) (base n limit p count : ℕ) : Type 0 where
  pub log : Log cs' base n limit
  pub kept : Renumbered cs cs' base p
  pub phrases : List chart.Phrase
  pub total : length phrases ≡ count
  pub few : count + base ≤ p
  pub apart : Apart phrases
  pub from : (X : chart.Phrase) → Member X phrases → (m : ℕ) × (r : Rule) × MadeAt cs' base p m r × (phrase_of r.left ≡ X)
  pub numbers : InOrder cs' base p phrases
  pub order : Ordered cs' base p phrases

pub numbering_first : (cs : List Cell) (base n limit : ℕ) → Log cs base n limit → Numbering cs cs base n limit base 0
numbering_first cs base n limit l = record {
  log = l;
  kept = record { len = refl; only = λ p. refl; others = λ p h. refl };
  phrases = [];
  total = refl;
  few = omega arith;
  apart = tt;
  from = λ X m. absurd m;
  numbers = λ p r m. absurd (let a = m.0 in let b = m.1 in omega arith);
  order = λ p k j r X m e lt f. absurd (let a = m.0 in let b = m.1 in omega arith);
}

-- a made rule before p + 1 is before p, where p holds none
before : (cs : List Cell) (base p m : ℕ) (r : Rule) → ((q : Rule) → FactAt cs p (fact.Made q) → ⊥) → MadeAt cs base (p + 1) m r → MadeAt cs base p m r
before cs base p m r none h = elim (cases_eq m p) [
  | inl e ↦ absurd (none r (subst (λ (v : ℕ). FactAt cs v (fact.Made r)) e h.2))
  | inr ne ↦ (h.0, omega (arith, h.1, ne), h.2)
]

wider : (cs : List Cell) (base p m : ℕ) (r : Rule) → MadeAt cs base p m r → MadeAt cs base (p + 1) m r
wider cs base p m r h = (h.0, omega (arith, h.1), h.2)

numbering_other : (cs c₁ : List Cell) (base n limit p count : ℕ) → Numbering cs c₁ base n limit p count → ((q : Rule) → FactAt c₁ p (fact.Made q) → ⊥) → Numbering cs c₁ base n limit (p + 1) count
numbering_other cs c₁ base n limit p count h none = record {
  log = h.log;
  kept = record { len = h.kept.len; only = h.kept.only; others = λ x f. h.kept.others x (λ r m. f r (wider cs base p x r m)) };
  phrases = h.phrases;
  total = h.total;
  few = omega (arith, h.few);
  apart = h.apart;
  from = λ X m. let f = h.from X m in (f.0, f.1, wider c₁ base p f.0 f.1 f.2, f.3);
  numbers = λ x r m. h.numbers x r (before c₁ base p x r none m);
  order = λ x k j r X m e lt f. let o = h.order x k j r X (before c₁ base p x r none m) e lt f in (o.0, o.1, wider c₁ base p o.0 o.1 o.2, o.3, o.4);
}

-- the cell p takes a number
module _ (cs c₁ c₂ : List Cell) (base p k : ℕ) (q : Rule) (in-range : base ≤ p) (inside : p < length c₁) (here : FactAt c₁ p (fact.Made q)) (is : c₂ ≡ set c₁ p (with_wait (cell_of c₁ p) (Left k))) where
  at_same : cell_of c₂ p ≡ with_wait (cell_of c₁ p) (Left k)
  at_same = ap (λ (l : List Cell). cell_of l p) is ∙ get_or-set_same c₁ p (with_wait (cell_of c₁ p) (Left k)) zero_cell inside

  at_other : (x : ℕ) → x ≢ p → cell_of c₂ x ≡ cell_of c₁ x
  at_other x ne = ap (λ (l : List Cell). cell_of l x) is ∙ get_or-set_other c₁ p x (with_wait (cell_of c₁ p) (Left k)) zero_cell ne

  rows_same : (x : ℕ) → (cell_of c₂ x).row ≡ (cell_of c₁ x).row
  rows_same x = elim (cases_eq x p) [
    | inl e ↦ subst (λ (v : ℕ). (cell_of c₂ v).row ≡ (cell_of c₁ v).row) (sym e) (ap (λ (c : Cell). c.row) at_same)
    | inr ne ↦ ap (λ (c : Cell). c.row) (at_other x ne)
  ]

  one_kept : Renumbered c₁ c₂ base (p + 1)
  one_kept = record {
    len = ap length is ∙ length-set c₁ p (with_wait (cell_of c₁ p) (Left k));
    only = λ x. elim (cases_eq x p) [
      | inl e ↦
          let w : Left k ≡ (cell_of c₂ p).wait = sym (ap (λ (c : Cell). c.wait) at_same) in
          subst (λ (v : ℕ). cell_of c₂ v ≡ with_wait (cell_of c₁ v) (cell_of c₂ v).wait) (sym e) (at_same ∙ ap (with_wait (cell_of c₁ p)) w)
      | inr ne ↦ let o = at_other x ne in o ∙ ap (with_wait (cell_of c₁ x)) (sym (ap (λ (c : Cell). c.wait) o))
    ];
    others = λ x f. elim (cases_eq x p) [
      | inl e ↦ absurd (f q (omega (arith, e), omega (arith, e), subst (λ (v : ℕ). FactAt c₁ v (fact.Made q)) (sym e) here))
      | inr ne ↦ at_other x ne
    ];
  }

  more_kept : Renumbered cs c₁ base p → Renumbered cs c₂ base (p + 1)
  more_kept h = record {
    len = one_kept.len ∙ h.len;
    only = λ x. one_kept.only x ∙ ap (λ (c : Cell). with_wait c (cell_of c₂ x).wait) (h.only x);
    others = λ x f.
        one_kept.others x (λ r m. f r (m.0, m.1, sym (row_kept cs c₁ base p h x) ∙ m.2)) ∙ h.others x (λ r m. f r (wider cs base p x r m));
  }

  -- with the phrases so far, and those to come
  number_more : (phrases after : List chart.Phrase) → slice_get after k ≡ Some (phrase_of q.left) → ((i : ℕ) (X : chart.Phrase) → slice_get phrases i ≡ Some X → slice_get after i ≡ Some X) → InOrder c₁ base p phrases
      → InOrder c₂ base (p + 1) after
  number_more phrases after there up old x r m = elim (cases_eq x p) [
    | inl e ↦
        let same : fact.Made r ≡ fact.Made q =
        (let a : row.TheVariants.Fact (fact.Made r) ≡ row.TheVariants.Fact (fact.Made q) = sym (subst (λ (v : ℕ). FactAt c₂ v (fact.Made r)) e m.2) ∙ (rows_same p ∙ here) in cc) in
        let rule : q ≡ r = cc in
        (k, subst (λ (v : ℕ). (cell_of c₂ v).wait ≡ Left k) (sym e) (ap (λ (c : Cell). c.wait) at_same), there ∙ ap (λ (v : Rule). Some (phrase_of v.left)) rule)
    | inr ne ↦
        let o = old x r (m.0, omega (arith, m.1, ne), sym (rows_same x) ∙ m.2) in
        (o.0, ap (λ (c : Cell). c.wait) (at_other x ne) ∙ o.1, up o.0 (phrase_of r.left) o.2)
  ]

  made_on : (m : ℕ) (r : Rule) → MadeAt c₁ base p m r → MadeAt c₂ base (p + 1) m r
  made_on m r h = (h.0, omega (arith, h.1), rows_same m ∙ h.2)

pub nth_member : {X : Type 0} (xs : List X) (k : ℕ) (x : X) → slice_get xs k ≡ Some x → Member x xs
nth_member [] k x e = absurd (let z : ◌≡◌ {A = ℕ} 0 1 = cc in omega arith)
nth_member (y ∷ xs) zero x e = inl (cc)
nth_member (y ∷ xs) (suc k) x e = inr (nth_member xs k x e)

nth_front : {X : Type 0} (xs ys : List X) (k : ℕ) (x : X) → slice_get xs k ≡ Some x → slice_get (xs ++ ys) k ≡ Some x
nth_front [] ys k x e = absurd (let z : ◌≡◌ {A = ℕ} 0 1 = cc in omega arith)
nth_front (y ∷ xs) ys zero x e = e
nth_front (y ∷ xs) ys (suc k) x e = nth_front xs ys k x e

nth_last : {X : Type 0} (xs : List X) (k : ℕ) (x : X) → length xs ≡ k → slice_get (xs ++ (x ∷ [])) k ≡ Some x
nth_last [] zero x e = refl
nth_last [] (suc k) x e = absurd (omega arith)
nth_last (y ∷ xs) zero x e = absurd (omega arith)
nth_last (y ∷ xs) (suc k) x e = nth_last xs k x (omega (arith, e))

nth_back : {X : Type 0} (xs ys : List X) (k : ℕ) (x : X) → k < length xs → slice_get (xs ++ ys) k ≡ Some x → slice_get xs k ≡ Some x
nth_back [] ys k x lt e = absurd (omega arith)
nth_back (y ∷ xs) ys zero x lt e = e
nth_back (y ∷ xs) ys (suc k) x lt e = nth_back xs ys k x (omega arith) e

-- each of the phrases is the left side of a made rule before p
abbrev Standing : List Cell → ℕ → ℕ → List chart.Phrase → Type 0
Standing cs base p phrases = (X : chart.Phrase) → Member X phrases → (m : ℕ) × (r : Rule) × MadeAt cs base p m r × (phrase_of r.left ≡ X)

-- the order stays where the cell p takes a number that is known, and where it takes a new one
order_known : (cs c₁ c₂ : List Cell) (base p number : ℕ) (q : Rule) → base ≤ p → p < length c₁ → FactAt c₁ p (fact.Made q) → c₂ ≡ set c₁ p (with_wait (cell_of c₁ p) (Left number)) → (phrases : List chart.Phrase) → Standing c₁ base p phrases
    → Ordered c₁ base p phrases → Ordered c₂ base (p + 1) phrases
order_known cs c₁ c₂ base p number q bp inside here is phrases from old x k j r X m e lt f = elim (cases_eq x p) [
  | inl same ↦
      let o = from X (nth_member phrases j X f) in
      let low = o.2.1 in
      (o.0, o.1, made_on cs c₁ c₂ base p number q bp inside here is o.0 o.1 o.2, o.3, omega (arith, same, low))
  | inr ne ↦
      let o = old x k j r X (m.0, omega (arith, m.1, ne), sym (rows_same cs c₁ c₂ base p number q bp inside here is x) ∙ m.2) e lt f in
      (o.0, o.1, made_on cs c₁ c₂ base p number q bp inside here is o.0 o.1 o.2, o.3, o.4)
]

order_new : (cs c₁ c₂ : List Cell) (base p number : ℕ) (q : Rule) → base ≤ p → p < length c₁ → FactAt c₁ p (fact.Made q) → c₂ ≡ set c₁ p (with_wait (cell_of c₁ p) (Left number)) → (phrases : List chart.Phrase) → Standing c₁ base p phrases
    → ((m : ℕ) (r : Rule) → MadeAt c₁ base p m r → phrase_of r.left ≡ phrase_of q.left → ⊥) → Ordered c₁ base p phrases → Ordered c₂ base (p + 1) (phrases ++ (phrase_of q.left ∷ []))
order_new cs c₁ c₂ base p number q bp inside here is phrases from fresh old x k j r X m e lt f =
    let last = phrase_of q.left ∷ [] in
    let size : length (phrases ++ last) ≡ length phrases + 1 = length-append phrases last in
    let top : k < length (phrases ++ last) = below_there (phrases ++ last) k (phrase_of r.left) e in
    let was : slice_get phrases j ≡ Some X = nth_back phrases last j X (omega (arith, top, size, lt)) f in
    elim (cases_eq x p) [
      | inl same ↦
          let o = from X (nth_member phrases j X was) in
          let low = o.2.1 in
          (o.0, o.1, made_on cs c₁ c₂ base p number q bp inside here is o.0 o.1 o.2, o.3, omega (arith, same, low))
      | inr ne ↦
          let a : MadeAt c₁ base p x r = (m.0, omega (arith, m.1, ne), sym (rows_same cs c₁ c₂ base p number q bp inside here is x) ∙ m.2) in
          elim (cases_lt k (length phrases)) [
            | inl below ↦
                let o = old x k j r X a (nth_back phrases last k (phrase_of r.left) below e) lt was in
                (o.0, o.1, made_on cs c₁ c₂ base p number q bp inside here is o.0 o.1 o.2, o.3, o.4)
            | inr past ↦
                let both : Some (phrase_of r.left) ≡ Some (phrase_of q.left) = sym e ∙ nth_last phrases k (phrase_of q.left) (omega (arith, top, size, past)) in
                absurd (fresh x r a (let one : phrase_of r.left ≡ phrase_of q.left = cc in one))
          ]
    ]

numbering_known : (cs c₁ c₂ : List Cell) (base n limit p count k : ℕ) (q : Rule) → base ≤ p → p < n → Numbering cs c₁ base n limit p count → FactAt c₁ p (fact.Made q) → NumberOf c₁ base p q.left (Some k)
    → c₂ ≡ set c₁ p (with_wait (cell_of c₁ p) (Left k)) → Numbering cs c₂ base n limit (p + 1) count
numbering_known cs c₁ c₂ base n limit p count k q bp pn h here o is =
    let inside : p < length c₁ = omega (arith, h.log.within, h.log.inside) in
    let num = h.numbers o.0 o.1 o.2 in
    let same : num.0 ≡ k = (let a : Left num.0 ≡ Left k = sym num.1 ∙ o.4 in cc) in
    let there : slice_get h.phrases k ≡ Some (phrase_of q.left) = ap (slice_get h.phrases) (sym same) ∙ (num.2 ∙ ap (λ (X : Phrase). Some (phrase_of X)) o.3) in
    record {
      log = log_kept c₁ c₂ base (p + 1) n limit (omega arith) (one_kept cs c₁ c₂ base p k q bp inside here is) h.log;
      kept = more_kept cs c₁ c₂ base p k q bp inside here is h.kept;
      phrases = h.phrases;
      total = h.total;
      few = omega (arith, h.few);
      apart = h.apart;
      from = λ X m. let f = h.from X m in (f.0, f.1, made_on cs c₁ c₂ base p k q bp inside here is f.0 f.1 f.2, f.3);
      numbers = number_more cs c₁ c₂ base p k q bp inside here is h.phrases h.phrases there (λ i X e. e) h.numbers;
      order = order_known cs c₁ c₂ base p k q bp inside here is h.phrases h.from h.order;
    }

numbering_new : (cs c₁ c₂ : List Cell) (base n limit p count : ℕ) (q : Rule) → base ≤ p → p < n → Numbering cs c₁ base n limit p count → FactAt c₁ p (fact.Made q) → NumberOf c₁ base p q.left None
    → c₂ ≡ set c₁ p (with_wait (cell_of c₁ p) (Left count)) → Numbering cs c₂ base n limit (p + 1) (count + 1)
numbering_new cs c₁ c₂ base n limit p count q bp pn h here o is =
    let inside : p < length c₁ = omega (arith, h.log.within, h.log.inside) in
    let X : chart.Phrase = phrase_of q.left in
    let fresh : (m : ℕ) (r : Rule) → MadeAt c₁ base p m r → phrase_of r.left ≡ X → ⊥ =
    (λ m r at e.
    let bad = o m r at (phrase_apart r.left q.left e) in
    let num = h.numbers bad.0 bad.1 bad.2 in
    bad.4 num.0 num.1) in
    record {
      log = log_kept c₁ c₂ base (p + 1) n limit (omega arith) (one_kept cs c₁ c₂ base p count q bp inside here is) h.log;
      kept = more_kept cs c₁ c₂ base p count q bp inside here is h.kept;
      phrases = h.phrases ++ (X ∷ []);
      total = length-append h.phrases (X ∷ []) ∙ ap (λ (v : ℕ). v + 1) h.total;
      few = omega (arith, h.few);
      apart = apart_append h.phrases (X ∷ []) h.apart ((λ m. m), tt)
          (λ Y a b. elim b [
            | inl e ↦ let f = h.from Y a in fresh f.0 f.1 f.2 (f.3 ∙ e)
            | inr z ↦ absurd z
          ]);
      from = λ Y m. elim (of_append Y h.phrases (X ∷ []) m) [
        | inl a ↦ let f = h.from Y a in (f.0, f.1, made_on cs c₁ c₂ base p count q bp inside here is f.0 f.1 f.2, f.3)
        | inr b ↦ elim b [
          | inl e ↦ (p, q, (bp, omega arith, rows_same cs c₁ c₂ base p count q bp inside here is p ∙ here), sym e)
          | inr z ↦ absurd z
        ]
      ];
      numbers = number_more cs c₁ c₂ base p count q bp inside here is h.phrases (h.phrases ++ (X ∷ [])) (nth_last h.phrases count X h.total) (λ i Y e. nth_front h.phrases (X ∷ []) i Y e) h.numbers;
      order = order_new cs c₁ c₂ base p count q bp inside here is h.phrases h.from fresh h.order;
    }

pub numbering_again : (cs c₁ c₂ : List Cell) (base n limit p count r : ℕ) → base ≤ p → p < n → Numbering cs c₁ base n limit p count → NumberedOne c₁ c₂ base p count r → Numbering cs c₂ base n limit (p + 1) r
numbering_again cs c₁ c₂ base n limit p count r bp pn h (other none is e) =
    subst (λ (l : List Cell). Numbering cs l base n limit (p + 1) r) (sym is) (subst (λ (v : ℕ). Numbering cs c₁ base n limit (p + 1) v) (sym e) (numbering_other cs c₁ base n limit p count h none))
numbering_again cs c₁ c₂ base n limit p count r bp pn h (again q k here o is e) =
    subst (λ (v : ℕ). Numbering cs c₂ base n limit (p + 1) v) (sym e) (numbering_known cs c₁ c₂ base n limit p count k q bp pn h here o is)
numbering_again cs c₁ c₂ base n limit p count r bp pn h (new q here o is e) =
    subst (λ (v : ℕ). Numbering cs c₂ base n limit (p + 1) v) (sym e) (numbering_new cs c₁ c₂ base n limit p count q bp pn h here o is)

-- the state and the facts stay
state_kept : (g : Grammar) (w : List ℕ) (cs cs' : List Cell) (base n limit : ℕ) → Renumbered cs cs' base n → State g w cs base n limit → State g w cs' base n limit
state_kept g w cs cs' base n limit k s = record {
  log = log_kept cs cs' base n n limit (omega arith) k s.log;
  sound = λ f h. s.sound f (h.0, h.1, h.2, sym (row_kept cs cs' base n k h.0) ∙ h.3);
  told = λ p x bp pn e.
      let was : FactAt cs p (fact.Item x) = sym (row_kept cs cs' base n k p) ∙ e in
      let same = k.others p (λ r m. let a : row.TheVariants.Fact (fact.Item x) ≡ row.TheVariants.Fact (fact.Made r) = sym was ∙ m.2 in let z : ◌≡◌ {A = ℕ} 0 1 = cc in omega arith) in
      subst (λ (c : Cell). Told g x c.wait) (sym same) (s.told p x bp pn was);
}

whole_kept : (g : Grammar) (w : List ℕ) (cs cs' : List Cell) (base n : ℕ) → Renumbered cs cs' base n → Whole g w cs base n → Whole g w cs' base n
whole_kept g w cs cs' base n k h z c = let a = h z c in (a.0, (a.1.0, a.1.1, a.1.2, row_kept cs cs' base n k a.1.0 ∙ a.1.3), a.2)

-- a made rule of the chart is a made rule in a cell
meant_made : (f : Fact) (r : chart.Rule) → meant f ≡ made r → (q : Rule) × (f ≡ fact.Made q) × (rule_of q ≡ r)
meant_made (fact.Item x) r e = absurd (let z : ◌≡◌ {A = ℕ} 0 1 = cc in omega arith)
meant_made (fact.Made q) r e = (q, refl, cc)

pub made_there : (g : Grammar) (w : List ℕ) (cs : List Cell) (base n : ℕ) (r : chart.Rule) → Whole g w cs base n → Chart g w (made r) → (p : ℕ) × (q : Rule) × MadeAt cs base n p q × (rule_of q ≡ r)
made_there g w cs base n r h c =
    let a = h (made r) c in
    let m = meant_made a.0 r a.2 in
    (a.1.0, m.0, (a.1.1, a.1.2, subst (λ (f : Fact). FactAt cs a.1.0 f) m.1 a.1.3), m.2)

pub numbered_all : (cs cs' : List Cell) (base n limit count : ℕ) → Numbering cs cs' base n limit n count → NumberedAll cs cs' base n limit count
numbered_all cs cs' base n limit count h g w s whole =
    let s' = state_kept g w cs cs' base n limit h.kept s in
    let whole' = whole_kept g w cs cs' base n h.kept whole in (
      s',
      whole',
      (
        h.phrases,
        record {
          listed = record {
            apart = h.apart;
            exactly = λ X. (
              (λ m. let f = h.from X m in (rule_of f.1, s'.sound (fact.Made f.1) (f.0, f.2.0, f.2.1, f.2.2), f.3)),
              (λ d.
                  let t = made_there g w cs' base n d.0 whole' d.1 in
                  let num = h.numbers t.0 t.1 t.2 in
                  nth_member h.phrases num.0 X (num.2 ∙ ap Some (ap (λ (v : chart.Rule). v.left) t.3 ∙ d.2))),
            );
          };
          numbers = h.numbers;
        },
        h.total,
        h.order,
      ),
    )

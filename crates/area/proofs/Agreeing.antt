-- The facts in cells depend on the cells before the limit only: `charted_agree`; and they may have less room, `charted_shrink`.
use Rattle.std.proofs.Common.{◌≡◌, ℕ, ◌<◌, ◌≤◌, List, length, sym, ap, ◌∙◌, subst, arith}
use Rattle.grammar.specs.Grammar.{Grammar}
use Rattle.cells.specs.declared.Cell.{Cell}
use Rattle.cells.specs.declared.Waiting.{Waiting}
use Rattle.cells.specs.declared.Fact.{Fact}
use Rattle.cells.specs.declared.Fact.TheVariants as fact
use Rattle.fact_log.specs.Index.{cell_of}
use Rattle.fact_log.specs.Log.{FactAt, Logged, Log}
use Rattle.fact_log.proofs.Buckets.{indexed_below}
use Rattle.steps.specs.Waits.{Told}
use Rattle.extending.specs.Charted.{Charted}

pub log_shrink : (cs : List Cell) (base n m limit : ℕ) → n ≤ m → m ≤ limit → Log cs base n limit → Log cs base n m
log_shrink cs base n m limit nm ml l =
    record {
      positive = l.positive;
      begun = l.begun;
      within = nm;
      inside = omega (arith, l.inside);
      facts = l.facts;
      apart = l.apart;
      indexed = l.indexed;
      zero = λ p np pm. l.zero p np (omega arith);
    }

pub charted_shrink : (g : Grammar) (w : List ℕ) (cs : List Cell) (base n m limit : ℕ) → n ≤ m → m ≤ limit → Charted g w cs base n limit → Charted g w cs base n m
charted_shrink g w cs base n m limit nm ml k =
    record { state = record { log = log_shrink cs base n m limit nm ml k.state.log; sound = k.state.sound; told = k.state.told }; whole = k.whole }

fact_agree : (cs cs' : List Cell) (p : ℕ) (f : Fact) → cell_of cs' p ≡ cell_of cs p → FactAt cs p f → FactAt cs' p f
fact_agree cs cs' p f e a = ap (λ (c : Cell). c.row) e ∙ a

log_agree : (cs cs' : List Cell) (base n limit : ℕ) → length cs' ≡ length cs → ((p : ℕ) → p < limit → cell_of cs' p ≡ cell_of cs p) → Log cs base n limit → Log cs' base n limit
log_agree cs cs' base n limit len same l =
    let in-log : (p : ℕ) → p < n → cell_of cs' p ≡ cell_of cs p = λ p pn. same p (omega (arith, l.within)) in
    record {
      positive = l.positive;
      begun = l.begun;
      within = l.within;
      inside = omega (arith, l.inside);
      facts = λ p bp pn. let f = l.facts p bp pn in (f.0, fact_agree cs cs' p f.0 (in-log p pn) f.1);
      apart = λ p q f bp pn bq qn a b. l.apart p q f bp pn bq qn (fact_agree cs' cs p f (sym (in-log p pn)) a) (fact_agree cs' cs q f (sym (in-log q qn)) b);
      indexed = λ s five. indexed_below cs cs' s base n in-log (l.indexed s five);
      zero = λ p np pl. same p pl ∙ l.zero p np pl;
    }

logged_agree : (cs cs' : List Cell) (base n : ℕ) (f : Fact) → ((p : ℕ) → p < n → cell_of cs' p ≡ cell_of cs p) → Logged cs base n f → Logged cs' base n f
logged_agree cs cs' base n f same h = (h.0, h.1, h.2, fact_agree cs cs' h.0 f (same h.0 h.2) h.3)

pub charted_agree : (g : Grammar) (w : List ℕ) (cs cs' : List Cell) (base n limit : ℕ) → length cs' ≡ length cs → ((p : ℕ) → p < limit → cell_of cs' p ≡ cell_of cs p) → Charted g w cs base n limit → Charted g w cs' base n limit
charted_agree g w cs cs' base n limit len same k =
    let l = k.state.log in
    let in-log : (p : ℕ) → p < n → cell_of cs' p ≡ cell_of cs p = λ p pn. same p (omega (arith, l.within)) in
    record {
      state =
          record {
            log = log_agree cs cs' base n limit len same l;
            sound = λ f h. k.state.sound f (logged_agree cs' cs base n f (λ p pn. sym (in-log p pn)) h);
            told = λ p x bp pn e.
                subst (λ (v : Waiting). Told g x v) (ap (λ (c : Cell). c.wait) (sym (in-log p pn))) (k.state.told p x bp pn (fact_agree cs' cs p (fact.Item x) (sym (in-log p pn)) e));
          };
      whole = λ z c. let h = k.whole z c in (h.0, logged_agree cs cs' base n h.0 in-log h.1, h.2);
    }

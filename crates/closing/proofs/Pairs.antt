-- Joining the facts of two cells: nothing is left out (`pair_none`, `pair_some`), and what is added is in the chart (`pair_chart`).
use Rattle.std.proofs.Common.{◌≡◌, ℕ, ◌<◌, ◌≤◌, List, Some, None, Option, sym, ap, ◌∙◌, subst}
use Rattle.grammar.specs.Grammar.{Grammar, and_then}
use Rattle.faults.specs.Sound.{Sound}
use Rattle.chart.specs.Chart.{Chart, Join, two}
use Rattle.cells.specs.declared.Cell.{Cell}
use Rattle.cells.specs.declared.Row.{Row}
use Rattle.cells.specs.declared.Row as row
use Rattle.cells.specs.declared.Rule.{Rule}
use Rattle.cells.specs.declared.Item.{Item}
use Rattle.cells.specs.declared.Fact.{Fact}
use Rattle.cells.specs.declared.Fact.TheVariants as fact
use Rattle.cells.specs.Facts.{meant}
use Rattle.fact_log.specs.Index.{cell_of}
use Rattle.fact_log.specs.Log.{FactAt}
use Rattle.closing.specs.State.{Has, State, Outcome}
use Rattle.closing.specs.Joined.{fact_in, item_of, made_of, item_in, made_in, JoinedOf, PairIn}
use Rattle.closing.proofs.Growing.{grown_same, outcome_so}

pub row_of : (r : Row) (f : Fact) → Some f ≡ fact_in r → r ≡ row.TheVariants.Fact f
row_of row.TheVariants.Nothing f e = cc
row_of (row.TheVariants.Category d h p) f e = cc
row_of (row.TheVariants.Function x c n) f e = cc
row_of (row.TheVariants.Constituent s n) f e = cc
row_of (row.TheVariants.Symbol s) f e = cc
row_of row.TheVariants.Empty f e = cc
row_of (row.TheVariants.Place c g x n p) f e = cc
row_of (row.TheVariants.Argument c) f e = cc
row_of (row.TheVariants.Token t) f e = cc
row_of (row.TheVariants.Fact h) f e = cc

item_of_lem : (o : Option Fact) (x : Item) → Some x ≡ and_then o item_of → o ≡ Some (fact.Item x)
item_of_lem None x e = cc
item_of_lem (Some (fact.Item y)) x e = cc
item_of_lem (Some (fact.Made q)) x e = cc

made_of_lem : (o : Option Fact) (q : Rule) → Some q ≡ and_then o made_of → o ≡ Some (fact.Made q)
made_of_lem None q e = cc
made_of_lem (Some (fact.Item y)) q e = cc
made_of_lem (Some (fact.Made r)) q e = cc

pub item_row : (r : Row) (x : Item) → Some x ≡ item_in r → r ≡ row.TheVariants.Fact (fact.Item x)
item_row r x e = row_of r (fact.Item x) (sym (item_of_lem (fact_in r) x e))

pub made_row : (r : Row) (q : Rule) → Some q ≡ made_in r → r ≡ row.TheVariants.Fact (fact.Made q)
made_row r q e = row_of r (fact.Made q) (sym (made_of_lem (fact_in r) q e))

pub one_fact_lem : (cs : List Cell) (p : ℕ) (f h : Fact) → FactAt cs p f → FactAt cs p h → f ≡ h
one_fact_lem cs p f h a b = cc

pub pair_no_item : (g : Grammar) (w : List ℕ) (cs : List Cell) (base n limit i m : ℕ) → State g w cs base n limit → None ≡ item_in (cell_of cs i).row → Outcome g w cs cs base n limit (λ e. PairIn g cs cs base i m e) (Some n)
pair_no_item g w cs base n limit i m s e = (grown_same g w cs base n limit s, λ x q z a b j. let h : ◌≡◌ {A = Option Item} None (Some x) = e ∙ ap item_in a in cc)

pub pair_no_made : (g : Grammar) (w : List ℕ) (cs : List Cell) (base n limit i m : ℕ) → State g w cs base n limit → None ≡ made_in (cell_of cs m).row → Outcome g w cs cs base n limit (λ e. PairIn g cs cs base i m e) (Some n)
pair_no_made g w cs base n limit i m s e = (grown_same g w cs base n limit s, λ x q z a b j. let h : ◌≡◌ {A = Option Rule} None (Some q) = e ∙ ap made_in b in cc)

pub pair_none : (g : Grammar) (w : List ℕ) (cs : List Cell) (base n limit i m : ℕ) (x : Item) (q : Rule) → State g w cs base n limit → Sound g → FactAt cs i (fact.Item x) → FactAt cs m (fact.Made q) → base ≤ i → i < n
    → JoinedOf x (cell_of cs i).wait q None → Outcome g w cs cs base n limit (λ e. PairIn g cs cs base i m e) (Some n)
pair_none g w cs base n limit i m x q s sd a b bi lt k = (
  grown_same g w cs base n limit s,
  λ x' q' z a' b' j.
      let ex : x' ≡ x = (let f = one_fact_lem cs i (fact.Item x') (fact.Item x) a' a in cc) in
      let eq : q' ≡ q = (let f = one_fact_lem cs m (fact.Made q') (fact.Made q) b' b in cc) in
      absurd (k g sd (s.told i x bi lt a) z (subst (λ (v : Rule). Join g (meant (fact.Item x)) (meant (fact.Made v)) z) eq (subst (λ (v : Item). Join g (meant (fact.Item v)) (meant (fact.Made q')) z) ex j))),
)

pub pair_chart : (g : Grammar) (w : List ℕ) (cs : List Cell) (base n limit i m : ℕ) (x : Item) (q : Rule) (f : Fact) → State g w cs base n limit → Sound g → FactAt cs i (fact.Item x) → FactAt cs m (fact.Made q) → base ≤ i → i < n → base ≤ m → m < n
    → JoinedOf x (cell_of cs i).wait q (Some f) → Chart g w (meant f)
pair_chart g w cs base n limit i m x q f s sd a b bi lt bm mt k =
    two (s.sound (fact.Item x) (i, bi, lt, a)) (s.sound (fact.Made q) (m, bm, mt, b)) (k g sd (s.told i x bi lt a)).0

pub pair_some : (g : Grammar) (w : List ℕ) (cs cs' : List Cell) (base n limit i m : ℕ) (x : Item) (q : Rule) (f : Fact) (r : Option ℕ) → State g w cs base n limit → Sound g → FactAt cs i (fact.Item x) → FactAt cs m (fact.Made q) → base ≤ i → i < n
    → JoinedOf x (cell_of cs i).wait q (Some f) → Outcome g w cs cs' base n limit (λ e. Has cs' base e (meant f)) r → Outcome g w cs cs' base n limit (λ e. PairIn g cs cs' base i m e) r
pair_some g w cs cs' base n limit i m x q f r s sd a b bi lt k o =
    outcome_so g w cs cs' base n limit (λ e. Has cs' base e (meant f)) (λ e. PairIn g cs cs' base i m e) r
    (λ e grown h x' q' z a' b' j.
    let ex : x' ≡ x = (let u = one_fact_lem cs i (fact.Item x') (fact.Item x) a' a in cc) in
    let eq : q' ≡ q = (let u = one_fact_lem cs m (fact.Made q') (fact.Made q) b' b in cc) in
    let same = (k g sd (s.told i x bi lt a)).1 z (subst (λ (v : Rule). Join g (meant (fact.Item x)) (meant (fact.Made v)) z) eq (subst (λ (v : Item). Join g (meant (fact.Item v)) (meant (fact.Made q')) z) ex j)) in
    (h.0, h.1, h.2 ∙ sym same)) o

-- An area with a grammar and no token: what the first chart is built on (`start_ready`), and what it leaves (`start_held`, `start_few`,
-- `start_short`).
use Rattle.std.proofs.Common.{◌≡◌, ℕ, zero, suc, ◌-◌, ◌<◌, ◌≤◌, List, [], ◌∷◌, ◌++◌, length, get_or, take, drop, sym, refl, ap, ◌∙◌, subst, arith, length-append}
use Rattle.std.proofs.lemmas.List.{length-drop, drop-replicate}
use Rattle.grammar.specs.Grammar.{Grammar}
use Rattle.faults.specs.Sound.{Sound}
use Rattle.faults.proofs.Made.{below_there}
use Rattle.soundness.specs.Opening.{Accepted}
use Rattle.soundness.specs.declared.opening.Shape.{Shape}
use Rattle.chart.specs.Chart.{grammar_cells}
use Rattle.cells.specs.declared.Cell.{Cell}
use Rattle.cells.specs.Facts.{zero_cell}
use Rattle.rows.specs.declared.counts.Counts.{Counts}
use Rattle.rows.specs.Counted.{CountsOf}
use Rattle.rows.specs.Links.{Linked}
use Rattle.rows.specs.Meaning.{rows_meaning}
use Rattle.copying.specs.Copied.{grammar_part, Copied}
use Rattle.fact_log.specs.Index.{cell_of}
use Rattle.fact_log.specs.Log.{Log, Later}
use Rattle.fact_log.proofs.Buckets.{indexed_none}
use Rattle.closing.specs.Ready.{grammar_in}
use Rattle.closing.proofs.Standing.{same_rows}
use Rattle.extending.specs.Charted.{Charted, More}
use Rattle.area.specs.Held.{Held, TooFew, AllZero}
use Rattle.area.proofs.Cleared.{get_d_replicate}

-- a sound grammar has a category
pub some_category : (g : Grammar) → Sound g → 0 < grammar_cells g
some_category g sd = let lt = below_there g.dimensions g.start 1 sd.start in omega arith

take_front : (xs ys : List Cell) (k : ℕ) → length xs ≡ k → take k (xs ++ ys) ≡ xs
take_front [] ys zero e = refl
take_front [] ys (suc k) e = absurd (omega (arith, e))
take_front (x ∷ xs) ys zero e = absurd (omega (arith, e))
take_front (x ∷ xs) ys (suc k) e = ap (λ (v : List Cell). x ∷ v) (take_front xs ys k (omega (arith, e)))

past_front : (xs ys : List Cell) (p : ℕ) → length xs ≤ p → get_or (xs ++ ys) p zero_cell ≡ get_or ys (p - length xs) zero_cell
past_front [] ys p le = let e : p ≡ p - 0 = omega arith in ap (λ (k : ℕ). get_or ys k zero_cell) e
past_front (x ∷ xs) ys zero le = absurd (omega arith)
past_front (x ∷ xs) ys (suc p) le = past_front xs ys p (omega arith) ∙ (let e : p - length xs ≡ suc p - suc (length xs) = omega arith in ap (λ (k : ℕ). get_or ys k zero_cell) e)

-- What a grammar copied into zero cells is.
pub record Started (g : Grammar) (hs : List ℕ) (counts : Counts) (cs : List Cell) : Type 0 where
  pub rows : take (grammar_cells g) cs ≡ grammar_part g hs
  pub meant : grammar_in cs (grammar_cells g) counts ≡ g
  pub linked : Linked (take (grammar_cells g) cs) counts
  pub log : Log cs (grammar_cells g) (grammar_cells g) (length cs)

pub started : (g : Grammar) (s : Shape) (counts : Counts) (before cs : List Cell) → Accepted g s → CountsOf g counts → AllZero before → grammar_cells g ≤ length before → Copied g s.heights before cs → Started g s.heights counts cs
unfolding grammar_in
started g s counts before cs a n z fits k =
    let gc = grammar_cells g in
    let front : take gc cs ≡ grammar_part g s.heights = ap (take gc) k.cells ∙ take_front (grammar_part g s.heights) (drop gc before) gc k.many in
    let size : length cs ≡ length before = ap length k.cells ∙ (let a = length-append (grammar_part g s.heights) (drop gc before) in let d = length-drop gc before in let m = k.many in omega arith) in
    let blank : (p : ℕ) → gc ≤ p → cell_of cs p ≡ zero_cell =
    λ p le.
    ap (λ (xs : List Cell). cell_of xs p) k.cells
    ∙ (past_front (grammar_part g s.heights) (drop gc before) p (omega (arith, k.many))
    ∙ (ap (λ (xs : List Cell). get_or (drop gc xs) (p - length (grammar_part g s.heights)) zero_cell) z
    ∙ (ap (λ (xs : List Cell). get_or xs (p - length (grammar_part g s.heights)) zero_cell) (drop-replicate gc (length before) zero_cell) ∙ get_d_replicate (length before - gc) (p - length (grammar_part g s.heights)) zero_cell))) in
    record {
      rows = front;
      meant = ap (λ (xs : List Cell). rows_meaning xs counts) front ∙ k.meaning counts n;
      linked = subst (λ (xs : List Cell). Linked xs counts) (sym front) (k.linked counts n);
      log =
          record {
            positive = some_category g a.sound;
            begun = omega arith;
            within = omega (arith, size);
            inside = omega arith;
            facts = λ p bp pn. absurd (omega arith);
            apart = λ p q f bp pn bq qn. absurd (omega arith);
            indexed = λ i five. indexed_none cs i gc;
            zero = λ p np pl. blank p np;
          };
    }

pub start_ready : (g : Grammar) (s : Shape) (counts : Counts) (cs : List Cell) (base len : ℕ) → Accepted g s → base ≡ grammar_cells g → Started g s.heights counts cs → len ≡ length cs
    → Sound (grammar_in cs base counts) × Linked (take base cs) counts × Log cs base base len
start_ready g s counts cs base len a is st e =
    subst (λ (b : ℕ). Sound (grammar_in cs b counts) × Linked (take b cs) counts × Log cs b b len) (sym is)
    (subst (λ (v : Grammar). Sound v) (sym st.meant) a.sound, st.linked, subst (λ (n : ℕ). Log cs (grammar_cells g) (grammar_cells g) n) (sym e) st.log)

pub start_held : (g : Grammar) (s : Shape) (counts : Counts) (cs c₂ : List Cell) (base e : ℕ) → Accepted g s → CountsOf g counts → base ≡ grammar_cells g → Started g s.heights counts cs
    → Charted (grammar_in cs base counts) [] c₂ base e (length cs) × Later cs c₂ base base (length cs) × (base ≤ e) → Held g [] c₂ (record { counts = counts; held = 0; end = e })
unfolding grammar_in
start_held g s counts cs c₂ base e a n is st o =
    let gc = grammar_cells g in
    let later : Later cs c₂ gc gc (length cs) = subst (λ (b : ℕ). Later cs c₂ b b (length cs)) is o.1 in
    let made : Charted g [] c₂ gc e (length cs) = subst (λ (v : Grammar). Charted v [] c₂ gc e (length cs)) st.meant (subst (λ (b : ℕ). Charted (grammar_in cs b counts) [] c₂ b e (length cs)) is o.0) in
    let rows = same_rows cs c₂ gc gc (length cs) later in
    let room : length cs ≡ length c₂ - 0 = omega (arith, later.len) in
    record {
      heights = s.heights;
      least = a.heights;
      sound = a.sound;
      counted = n;
      rows = rows ∙ st.rows;
      meant = ap (λ (xs : List Cell). rows_meaning xs counts) rows ∙ st.meant;
      linked = subst (λ (xs : List Cell). Linked xs counts) (sym rows) st.linked;
      many = refl;
      few = omega arith;
      known = tt;
      fits = omega arith;
      tokens = λ i lt. absurd (omega arith);
      charted = subst (λ (m : ℕ). Charted g [] c₂ gc e m) room made;
    }

pub start_few : (g : Grammar) (counts : Counts) (cs : List Cell) (base len : ℕ) (hs : List ℕ) → base ≡ grammar_cells g → Started g hs counts cs → len ≡ length cs → More (grammar_in cs base counts) [] (length cs - base) → TooFew g [] len
start_few g counts cs base len hs is st e m =
    let k : More g [] (length cs - grammar_cells g) = subst (λ (v : Grammar). More v [] (length cs - grammar_cells g)) st.meant (subst (λ (b : ℕ). More (grammar_in cs b counts) [] (length cs - b)) is m) in
    let bound = k.more in
    let fits = st.log.within in
    record { facts = k.facts; apart = k.apart; sound = k.sound; more = omega (arith, e) }

pub start_short : (g : Grammar) (base len : ℕ) → base ≡ grammar_cells g → len < base → TooFew g [] len
start_short g base len is lt = record { facts = []; apart = tt; sound = λ z m. absurd m; more = omega (arith, is) }

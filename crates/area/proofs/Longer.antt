-- One token more in an area: what extending the chart rests on (`held_ready`), and what it leaves (`held_more`, `held_unmoved`, `held_few`, `held_none`).
use Rattle.std.proofs.Common.{◌≡◌, ℕ, suc, ◌-◌, ◌<◌, ◌≤◌, List, [], ◌∷◌, ◌++◌, length, take, set, sym, ap, ◌∙◌, subst, inl, inr, arith, length-set, get_or-set_other}
use Rattle.std.proofs.lemmas.Bool.{cases_lt}
use Rattle.grammar.specs.Grammar.{Grammar}
use Rattle.faults.specs.Sound.{Sound}
use Rattle.chart.specs.Chart.{grammar_cells}
use Rattle.chart.proofs.Growth.{grows}
use Rattle.cells.specs.declared.Cell.{Cell}
use Rattle.cells.specs.declared.Row.TheVariants.{Token}
use Rattle.cells.specs.Facts.{zero_cell}
use Rattle.rows.specs.declared.counts.Counts.{Counts}
use Rattle.rows.specs.Links.{Linked}
use Rattle.rows.specs.Meaning.{rows_meaning}
use Rattle.copying.specs.Written.{plain}
use Rattle.fact_log.specs.Index.{cell_of}
use Rattle.fact_log.specs.Log.{Later}
use Rattle.closing.specs.Ready.{grammar_in}
use Rattle.closing.proofs.Standing.{take_same, same_rows}
use Rattle.extending.specs.Charted.{Charted, More, Before, facts_from}
use Rattle.extending.proofs.Counted.{charted_list, log_length}
use Rattle.area.specs.declared.numbers.Numbers.{Numbers}
use Rattle.area.specs.Held.{Held, TooFew, Unmoved}
use Rattle.area.specs.Opened.{one_more}
use Rattle.area.proofs.Agreeing.{charted_shrink, charted_agree}
use Rattle.area.proofs.FarEnd.{tokens_more, all_more, one_longer}

-- What the chart of one token more is built on.
pub record Extendable (cs : List Cell) (counts : Counts) (tokens : List ℕ) (base n limit : ℕ) : Type 0 where
  pub sound : Sound (grammar_in cs base counts)
  pub linked : Linked (take base cs) counts
  pub tokens_few : length tokens ≤ 200
  pub before : Before (grammar_in cs base counts) tokens cs base n limit

pub held_ready : (g : Grammar) (w : List ℕ) (cs : List Cell) (n : Numbers) → Held g w cs n → (base : ℕ) → base ≡ grammar_cells g → (tokens : List ℕ) (t : ℕ) → tokens ≡ w ++ (t ∷ []) → (limit : ℕ) → n.end ≤ limit → suc limit ≡ length cs - length w
    → Extendable cs n.counts tokens base n.end limit
held_ready g w cs n h base is tokens t ts limit le lim =
    let few = h.few in
    let longer = one_longer w t in
    subst (λ (b : ℕ). Extendable cs n.counts tokens b n.end limit) (sym is)
    (record {
      sound = subst (λ (v : Grammar). Sound v) (sym h.meant) h.sound;
      linked = h.linked;
      tokens_few = omega (arith, ap length ts, longer);
      before =
          subst (λ (v : Grammar). Before v tokens cs (grammar_cells g) n.end limit) (sym h.meant)
          (record { w = w; t = t; is = ts; charted = charted_shrink g w cs (grammar_cells g) n.end limit (length cs - length w) le (omega (arith, lim)) h.charted });
    })

-- the chart of one token more has too many facts
pub held_few : (g : Grammar) (w : List ℕ) (cs : List Cell) (n : Numbers) → Held g w cs n → (base : ℕ) → base ≡ grammar_cells g → (tokens : List ℕ) (t : ℕ) → tokens ≡ w ++ (t ∷ []) → (limit : ℕ) → n.end ≤ limit → suc limit ≡ length cs - length w
    → More (grammar_in cs base n.counts) tokens (limit - base) → TooFew g (w ++ (t ∷ [])) (length cs)
held_few g w cs n h base is tokens t ts limit le lim m =
    let k : More g (w ++ (t ∷ [])) (limit - grammar_cells g) =
    subst (λ (v : List ℕ). More g v (limit - grammar_cells g)) ts (subst (λ (v : Grammar). More v tokens (limit - grammar_cells g)) h.meant (subst (λ (b : ℕ). More (grammar_in cs b n.counts) tokens (limit - b)) is m)) in
    let longer = one_longer w t in
    let bound = k.more in
    let fits = h.fits in
    let log = h.charted.state.log.begun in
    record { facts = k.facts; apart = k.apart; sound = k.sound; more = omega arith }

-- there is no cell for the token
pub held_none : (g : Grammar) (w : List ℕ) (cs : List Cell) (n : Numbers) → Held g w cs n → (t : ℕ) → length cs - length w ≤ n.end → TooFew g (w ++ (t ∷ [])) (length cs)
held_none g w cs n h t le =
    let l = charted_list g w cs (grammar_cells g) n.end (length cs - length w) h.charted in
    let size = log_length cs (grammar_cells g) n.end (length cs - length w) h.charted.state.log in
    let longer = one_longer w t in
    let begun = h.charted.state.log.begun in
    record {
      facts = facts_from cs (grammar_cells g) (n.end - grammar_cells g);
      apart = l.apart;
      sound = λ z m. grows g w (t ∷ []) ((l.exactly z).0 m);
      more = omega arith;
    }

meant_same : (counts : Counts) (cs cs' : List Cell) (base : ℕ) → take base cs' ≡ take base cs → grammar_in cs' base counts ≡ grammar_in cs base counts
unfolding grammar_in
meant_same counts cs cs' base e = ap (λ (xs : List Cell). rows_meaning xs counts) e

pub held_more : (g : Grammar) (w : List ℕ) (cs c₁ : List Cell) (n : Numbers) → Held g w cs n → (base : ℕ) → base ≡ grammar_cells g → (tokens : List ℕ) (t : ℕ) → tokens ≡ w ++ (t ∷ []) → (limit e : ℕ) → n.end ≤ limit → suc limit ≡ length cs - length w
    → t < n.counts.tokens → length w < 64 → Charted (grammar_in cs base n.counts) tokens c₁ base e limit × Later cs c₁ base n.end limit × (n.end ≤ e)
    → Held g (w ++ (t ∷ [])) (set c₁ limit (plain (Token t))) (one_more n e)
held_more g w cs c₁ n h base is tokens t ts limit e le lim known few out =
    let gc = grammar_cells g in
    let c₂ = set c₁ limit (plain (Token t)) in
    let made : Charted g (w ++ (t ∷ [])) c₁ gc e limit =
    subst (λ (v : List ℕ). Charted g v c₁ gc e limit) ts (subst (λ (v : Grammar). Charted v tokens c₁ gc e limit) h.meant (subst (λ (b : ℕ). Charted (grammar_in cs b n.counts) tokens c₁ b e limit) is out.0)) in
    let later : Later cs c₁ gc n.end limit = subst (λ (b : ℕ). Later cs c₁ b n.end limit) is out.1 in
    let longer = one_longer w t in
    let fits = h.fits in
    let log = h.charted.state.log.begun in
    let len₂ : length c₂ ≡ length c₁ = length-set c₁ limit (plain (Token t)) in
    let len : length c₂ ≡ length cs = len₂ ∙ later.len in
    let below : (p : ℕ) → p < limit → cell_of c₂ p ≡ cell_of c₁ p = λ p lt. get_or-set_other c₁ limit p (plain (Token t)) zero_cell (λ q. omega (arith, q)) in
    let rows : take gc c₂ ≡ take gc cs = take_same c₂ c₁ gc len₂ (λ p lt. below p (omega arith)) ∙ same_rows cs c₁ gc n.end limit later in
    let room : length c₂ - length (w ++ (t ∷ [])) ≡ limit = omega (arith, len, longer) in
    record {
      heights = h.heights;
      least = h.least;
      sound = h.sound;
      counted = h.counted;
      rows = rows ∙ h.rows;
      meant = meant_same n.counts cs c₂ gc rows ∙ h.meant;
      linked = subst (λ (xs : List Cell). Linked xs n.counts) (sym rows) h.linked;
      many = omega (arith, h.many, longer);
      few = omega (arith, longer);
      known = all_more (λ v. v < g.tokens) w t h.known (subst (λ (v : ℕ). t < v) h.counted.tokens known);
      fits = omega (arith, len, longer);
      tokens = tokens_more cs c₁ w t limit later.len (omega arith) (λ p lp. later.outside p (inr lp)) h.tokens;
      charted = subst (λ (m : ℕ). Charted g (w ++ (t ∷ [])) c₂ gc e m) (sym room) (charted_agree g (w ++ (t ∷ [])) c₁ c₂ gc e limit len₂ below made);
    }

-- what stands before the facts' end stays, and what stands behind the limit; between there is nothing
pub held_unmoved : (g : Grammar) (w : List ℕ) (cs c₁ : List Cell) (n : Numbers) → Held g w cs n → (base : ℕ) (limit : ℕ) (x : Cell) → n.end ≤ limit → suc limit ≡ length cs - length w → Later cs c₁ base n.end limit → Unmoved cs (set c₁ limit x)
held_unmoved g w cs c₁ n h base limit x le lim later p stands = elim (cases_lt p n.end) [
  | inl lt ↦ ap (λ (c : Cell). c.row) (get_or-set_other c₁ limit p x zero_cell (λ q. omega (arith, q, lt, le))) ∙ (later.rows p lt).0
  | inr ge ↦ elim (cases_lt p (suc limit)) [
    | inl lt ↦ absurd (stands (ap (λ (c : Cell). c.row) (h.charted.state.log.zero p ge (omega (arith, lt, lim)))))
    | inr past ↦ ap (λ (c : Cell). c.row) (get_or-set_other c₁ limit p x zero_cell (λ q. omega (arith, q, past)) ∙ later.outside p (inr (omega (arith, past))))
  ]
]

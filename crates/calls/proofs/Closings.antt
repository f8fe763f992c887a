-- Closing keeps what the area holds, and its bound on heights is enough: `closes`.
use Rattle.std.proofs.Common.{◌≡◌, ℕ, suc, ◌+◌, ◌-◌, ◌<◌, ◌≤◌, List, length, take, sym, ap, ◌∙◌, subst, arith}
use Rattle.grammar.specs.Grammar.{Grammar}
use Rattle.chart.specs.Chart.{grammar_cells}
use Rattle.chart.proofs.Faultless.{faultless_sound}
use Rattle.chart.proofs.Heights.{low_tree}
use Rattle.cells.specs.declared.Cell.{Cell}
use Rattle.rows.specs.Links.{Linked}
use Rattle.rows.specs.Meaning.{rows_meaning}
use Rattle.fact_log.specs.Index.{cell_of}
use Rattle.fact_log.specs.Log.{Log}
use Rattle.closing.specs.Ready.{grammar_in}
use Rattle.closing.specs.declared.Room.{Room}
use Rattle.closing.proofs.Standing.{take_same}
use Rattle.weigh.specs.Numbers.{Renumbered, NumberedAll}
use Rattle.weigh.proofs.Listed.{bound_known}
use Rattle.area.specs.declared.numbers.Numbers.{Numbers}
use Rattle.area.specs.Held.{Held}
use Rattle.area.specs.Contents.{RoomOf}
use Rattle.calls.specs.Closed.{Closes}

-- the cells that the numbers name hold a log of facts
pub log_there : (g : Grammar) (w : List ℕ) (cs : List Cell) (n : Numbers) (r : Room) → Held g w cs n → RoomOf g w cs r → Log cs r.base n.end r.limit
log_there g w cs n r h o = subst (λ (b : ℕ). Log cs b n.end r.limit) (sym o.0) (subst (λ (k : ℕ). Log cs (grammar_cells g) n.end k) (sym o.1) h.charted.state.log)

-- the bound fits where the facts end
pub bound_fits : (g : Grammar) (w : List ℕ) (cs : List Cell) (n : Numbers) (r : Room) (count : ℕ) → Held g w cs n → RoomOf g w cs r → count + r.base ≤ n.end → n.counts.categories + count ≤ n.end
bound_fits g w cs n r count h o few =
    let categories = h.counted.categories in
    let is = o.0 in
    omega arith

pub closes : (g : Grammar) (w : List ℕ) (cs c₁ : List Cell) (n : Numbers) (r : Room) (count : ℕ) → Held g w cs n → RoomOf g w cs r → Renumbered cs c₁ r.base n.end → NumberedAll cs c₁ r.base n.end r.limit count
    → Closes g w c₁ n (record { phrases = count; bound = n.counts.categories + count })
unfolding grammar_in
closes g w cs c₁ n r count h o kept all =
    let base = r.base in
    let limit = r.limit in
    let is = o.0 in
    let gc = grammar_cells g in
    let room = o.1 in
    let kept₁ : Renumbered cs c₁ gc n.end = subst (λ (b : ℕ). Renumbered cs c₁ b n.end) is kept in
    let all₁ : NumberedAll cs c₁ gc n.end (length cs - length w) count = subst (λ (k : ℕ). NumberedAll cs c₁ gc n.end k count) room (subst (λ (b : ℕ). NumberedAll cs c₁ b n.end limit count) is all) in
    let A = all₁ g w h.charted.state h.charted.whole in
    let before : (p : ℕ) → p < gc → cell_of c₁ p ≡ cell_of cs p = λ p lt. kept₁.others p (λ r m. let b = m.0 in omega arith) in
    let after : (p : ℕ) → n.end ≤ p → cell_of c₁ p ≡ cell_of cs p = λ p le. kept₁.others p (λ r m. let b = m.1 in omega arith) in
    let rows : take gc c₁ ≡ take gc cs = take_same c₁ cs gc kept₁.len before in
    let len = kept₁.len in
    let within = h.charted.state.log.within in
    let begun = h.charted.state.log.begun in
    let positive = h.charted.state.log.positive in
    let size : length c₁ - length w ≡ length cs - length w = ap (λ (k : ℕ). k - length w) len in
    let held : Held g w c₁ n =
    record {
      heights = h.heights;
      least = h.least;
      sound = h.sound;
      counted = h.counted;
      rows = rows ∙ h.rows;
      meant = ap (λ (xs : List Cell). rows_meaning xs n.counts) rows ∙ h.meant;
      linked = subst (λ (xs : List Cell). Linked xs n.counts) (sym rows) h.linked;
      many = h.many;
      few = h.few;
      known = h.known;
      fits = let f = h.fits in omega arith;
      tokens = λ i lt. ap (λ (k : ℕ). cell_of c₁ (k - suc i)) len ∙ (after (length cs - suc i) (omega arith) ∙ h.tokens i lt);
      charted = subst (λ (k : ℕ). Rattle.extending.specs.Charted.Charted g w c₁ gc n.end k) (sym size) (record { state = A.0; whole = A.1 });
    } in
    let P = A.2 in
    let categories = h.counted.categories in
    let q = n.counts.categories + count in
    let is_bound : q ≡ length g.dimensions + count = omega (arith, categories) in
    let bound = subst (λ (b : ℕ). Rattle.chart.specs.Chart.Bound g w b) (sym is_bound) (subst (λ (k : ℕ). Rattle.chart.specs.Chart.Bound g w (length g.dimensions + k)) P.2 (bound_known g w c₁ gc n.end P.0 P.1)) in
    record {
      closed = record { held = held; phrases = P.0; numbered = P.1; size = P.2 };
      is_bound = is_bound;
      bound = bound;
      low = λ c. low_tree g (faultless_sound g h.sound) w q bound c;
    }

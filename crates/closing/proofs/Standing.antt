-- The grammar in the first cells stays while facts are added after it: `same_grammar`, `ready_later`.
use Rattle.std.proofs.Common.{◌≡◌, ℕ, zero, suc, ◌<◌, List, [], ◌∷◌, length, get_or, take, sym, refl, ap, subst, inl, arith}
use Rattle.grammar.specs.Grammar.{Grammar}
use Rattle.faults.specs.Sound.{Sound}
use Rattle.cells.specs.declared.Cell.{Cell}
use Rattle.cells.specs.Facts.{zero_cell}
use Rattle.rows.specs.declared.counts.Counts.{Counts}
use Rattle.rows.specs.Meaning.{rows_meaning}
use Rattle.rows.specs.Links.{Linked}
use Rattle.fact_log.specs.Log.{Later}
use Rattle.closing.specs.State.{State, Grown, Full}
use Rattle.closing.proofs.Growing.{grown_more, full_more}
use Rattle.closing.specs.Ready.{grammar_in}
use Rattle.closing.specs.declared.Run.{Run}
use Rattle.closing.specs.Runs.{grammar_of, ReadyTo, Grows, Fills}

pub take_same : (xs ys : List Cell) (k : ℕ) → length xs ≡ length ys → ((p : ℕ) → p < k → get_or xs p zero_cell ≡ get_or ys p zero_cell) → take k xs ≡ take k ys
take_same xs ys zero l e = refl
take_same [] [] (suc k) l e = refl
take_same [] (y ∷ ys) (suc k) l e = absurd (omega arith)
take_same (x ∷ xs) [] (suc k) l e = absurd (omega arith)
take_same (x ∷ xs) (y ∷ ys) (suc k) l e =
    let h : x ≡ y = e 0 (omega arith) in
    let t = take_same xs ys k (omega arith) (λ p lt. e (suc p) (omega arith)) in
    cc

pub same_rows : (cs cs' : List Cell) (base n limit : ℕ) → Later cs cs' base n limit → take base cs' ≡ take base cs
same_rows cs cs' base n limit k = take_same cs' cs base k.len (λ p lt. k.outside p (inl lt))

pub same_grammar : (counts : Counts) (cs cs' : List Cell) (base n limit : ℕ) → Later cs cs' base n limit → grammar_in cs' base counts ≡ grammar_in cs base counts
unfolding grammar_in
same_grammar counts cs cs' base n limit k = ap (λ (xs : List Cell). rows_meaning xs counts) (same_rows cs cs' base n limit k)

pub ready_later : (r : Run) {cs cs' : List Cell} {n e : ℕ} → ReadyTo r cs n → Grows r cs cs' n e → ReadyTo r cs' e
ready_later r {cs} {cs'} {n} {e} h g =
    let same = sym (same_grammar r.counts cs cs' r.room.base n r.room.limit g.later) in
    record {
      sound = subst (λ (v : Grammar). Sound v) same h.sound;
      linked = subst (λ (v : List Cell). Linked v r.counts) (sym (same_rows cs cs' r.room.base n r.room.limit g.later)) h.linked;
      few = h.few;
      state = subst (λ (v : Grammar). State v r.tokens.now cs' r.room.base e r.room.limit) same g.state;
    }

-- what holds with the grammar of the cells as they are now holds with that of the cells as they were, and the other way
pub at_entry : (r : Run) (P : Grammar → Type 0) {cs cs' : List Cell} {n : ℕ} → Later cs cs' r.room.base n r.room.limit → P (grammar_of r cs') → P (grammar_of r cs)
at_entry r P {cs} {cs'} {n} k x = subst P (same_grammar r.counts cs cs' r.room.base n r.room.limit k) x

pub at_exit : (r : Run) (P : Grammar → Type 0) {cs cs' : List Cell} {n : ℕ} → Later cs cs' r.room.base n r.room.limit → P (grammar_of r cs) → P (grammar_of r cs')
at_exit r P {cs} {cs'} {n} k x = subst P (sym (same_grammar r.counts cs cs' r.room.base n r.room.limit k)) x

pub full_later : (r : Run) {cs mid after : List Cell} {n m : ℕ} → Grows r cs mid n m → Fills r mid after m → Fills r cs after n
full_later r {cs} {mid} {after} {n} {m} g f =
    full_more (grammar_of r cs) r.tokens.now cs mid after r.room.base n m r.room.limit g (at_entry r (λ (v : Grammar). Full v r.tokens.now mid after r.room.base m r.room.limit) g.later f)

pub grown_later : (r : Run) {cs mid after : List Cell} {n m e : ℕ} → Grows r cs mid n m → Grows r mid after m e → Grows r cs after n e
grown_later r {cs} {mid} {after} {n} {m} {e} g f =
    grown_more (grammar_of r cs) r.tokens.now cs mid after r.room.base n m e r.room.limit g (at_entry r (λ (v : Grammar). Grown v r.tokens.now mid after r.room.base m e r.room.limit) g.later f)

-- How the records of a file follow one another. Assumes nothing.
use Rattle.std.proofs.Common.{◌≡◌, ℕ, zero, suc, ◌+◌, ◌-◌, ◌<◌, ◌≤◌, Bool, true, false, cond, ltb, leb, List, [], ◌∷◌, length, Some, None, Ok, Err, Option, Result, sym, refl, ap, ◌∙◌, subst, arith, length-drop, length-take, ltb-false, lt-ltb, le-leb}
use borrow.Author.Tests.{lt-leb}
use Rattle.std.specs.List.{between}
use Rattle.records.specs.declared.kinds.Kind.{Kind}
use Rattle.std.proofs.lemmas.Option.{none-some, same_Some}
use Rattle.std.specs.Result.{result_ok}
use Rattle.records.specs.declared.kinds.ReadFault.{ReadFault}
use Rattle.records.specs.declared.records.Record.{Record}
use Rattle.records.specs.Kinds.{fault_listed, kind_number, kind_of, body_fits, may_follow}
use Rattle.std.specs.Result.{result_map_both}
use Rattle.records.specs.Records.{Entry, viewed, word_at, after_entry, entry_if, entry_of, entry_at, row_after, entries_within, entries_from, consed, at_end, read_next, read_within, read_from}

-- what is known of a record that stands at o
pub record Stands (bs : List ℕ) (o : ℕ) (e : Entry) : Type 0 where
  pub here : e.offset ≡ o
  pub inside : after_entry e ≤ length bs
  pub fits : body_fits e.kind (length e.body) ≡ true
  pub named : kind_of (word_at bs (o + 2)) ≡ Some e.kind
  pub long : word_at bs o ≡ 2 + length e.body
  pub part : e.body ≡ between (o + 4) (o + 2 + word_at bs o) bs

module _ (bs : List ℕ) (o : ℕ) where
  body_length : o + 2 + word_at bs o ≤ length bs → length (between (o + 4) (o + 2 + word_at bs o) bs) ≡ word_at bs o - 2
  body_length h = simp (length-take, length-drop) (omega arith)

  stands_if : (k : Kind) (b : Bool) (e : Entry) → kind_of (word_at bs (o + 2)) ≡ Some k → body_fits k (word_at bs o - 2) ≡ b → o + 2 + word_at bs o ≤ length bs → 2 ≤ word_at bs o → entry_if b (record { offset = o; kind = k; body = between (o + 4) (o + 2 + word_at bs o) bs }) o ≡ Ok e → Stands bs o e
  stands_if k true e n f inside least h =
      let long = body_length inside in
      let made : Entry = record { offset = o; kind = k; body = between (o + 4) (o + 2 + word_at bs o) bs } in
      let same : made ≡ e = cc in
      let there : Stands bs o made = record { here = refl; inside = omega (arith, long); fits = ap (body_fits k) long ∙ f; named = n; long = omega (arith, long); part = refl } in
      subst (Stands bs o) same there
  stands_if k false e n f inside least h = absurd (let z : ◌≡◌ {A = ℕ} 0 1 = cc in omega arith)

  stands_of : (m : Option Kind) (e : Entry) → kind_of (word_at bs (o + 2)) ≡ m → o + 2 + word_at bs o ≤ length bs → 2 ≤ word_at bs o → entry_of m bs o ≡ Ok e → Stands bs o e
  stands_of None e n inside least h = absurd (let z : ◌≡◌ {A = ℕ} 0 1 = cc in omega arith)
  stands_of (Some k) e n inside least h = stands_if k (body_fits k (word_at bs o - 2)) e n refl inside least h

  stands_by : (a b c : Bool) (e : Entry) → ltb (length bs) (o + 2) ≡ a → ltb (length bs) (o + 2 + word_at bs o) ≡ b → ltb (word_at bs o) 2 ≡ c → cond a (Err (1 ∷ o ∷ [])) (cond b (Err (1 ∷ o ∷ [])) (cond c (Err (2 ∷ o ∷ [])) (entry_of (kind_of (word_at bs (o + 2))) bs o))) ≡ Ok e → Stands bs o e
  stands_by true b c e p q r h = absurd (let z : ◌≡◌ {A = ℕ} 0 1 = cc in omega arith)
  stands_by false true c e p q r h = absurd (let z : ◌≡◌ {A = ℕ} 0 1 = cc in omega arith)
  stands_by false false true e p q r h = absurd (let z : ◌≡◌ {A = ℕ} 0 1 = cc in omega arith)
  stands_by false false false e p q r h = stands_of (kind_of (word_at bs (o + 2))) e refl (omega (arith, ltb-false)) (omega (arith, ltb-false)) h

  pub stands : (e : Entry) → entry_at bs o ≡ Ok e → Stands bs o e
  stands e h = stands_by _ _ _ e refl refl refl h

pub past : (bs : List ℕ) (o : ℕ) → length bs < o + 2 → entry_at bs o ≡ Err (1 ∷ o ∷ [])
past bs o h = let t = lt-ltb (length bs) (o + 2) h in rw t

alike : (r : Result Entry (List ℕ)) (f g : Entry → List Entry) → ((e : Entry) → r ≡ Ok e → f e ≡ g e) → row_after r f ≡ row_after r g
alike (Ok e) f g h = ap (λ es. e ∷ es) (h e refl)
alike (Err x) f g h = refl

none_past : (n : ℕ) (bs : List ℕ) (o : ℕ) → length bs < o → entries_within (suc n) bs o ≡ []
none_past n bs o h = ap (λ r. row_after r (λ e. entries_within n bs (after_entry e))) (past bs o (omega arith))

-- as many turns as are needed are as good as any
more_turns : (m n : ℕ) (bs : List ℕ) (o : ℕ) → length bs < m + o → length bs < n + o → entries_within m bs o ≡ entries_within n bs o
more_turns zero zero bs o p q = refl
more_turns zero (suc n) bs o p q = sym (none_past n bs o (omega arith))
more_turns (suc m) zero bs o p q = none_past m bs o (omega arith)
more_turns (suc m) (suc n) bs o p q =
    alike (entry_at bs o) (λ e. entries_within m bs (after_entry e)) (λ e. entries_within n bs (after_entry e))
    (λ e h. let s = stands bs o e h in more_turns m n bs (after_entry e) (omega arith) (omega arith))

-- a record, and the row after it
pub entries_more : (bs : List ℕ) (o : ℕ) (e : Entry) → entry_at bs o ≡ Ok e → entries_from bs o ≡ e ∷ entries_from bs (after_entry e)
unfolding entries_from
entries_more bs o e h =
    let s = stands bs o e h in
    ap (λ r. row_after r (λ x. entries_within (length bs) bs (after_entry x))) h
    ∙ ap (λ es. e ∷ es) (more_turns (length bs) (suc (length bs)) bs (after_entry e) (omega arith) (omega arith))

pub entries_none : (bs : List ℕ) (o : ℕ) (f : List ℕ) → entry_at bs o ≡ Err f → entries_from bs o ≡ []
unfolding entries_from
entries_none bs o f h = ap (λ r. row_after r (λ x. entries_within (length bs) bs (after_entry x))) h

-- reading goes the same way
alike_read : (r : Result Entry (List ℕ)) (o last : ℕ) (f g : Entry → Result (List Entry) (List ℕ)) → ((e : Entry) → r ≡ Ok e → f e ≡ g e) → read_next r o last f ≡ read_next r o last g
alike_read (Ok e) o last f g h = ap (λ x. cond (may_follow last e.kind) (consed e x) (Err (3 ∷ o ∷ []))) (h e refl)
alike_read (Err x) o last f g h = refl

more_read : (m n : ℕ) (bs : List ℕ) (o last : ℕ) → o ≤ length bs → length bs < m + o → length bs < n + o → read_within m bs o last ≡ read_within n bs o last
more_read zero n bs o last i p q = absurd (omega arith)
more_read (suc m) zero bs o last i p q = absurd (omega arith)
more_read (suc m) (suc n) bs o last i p q =
    ap (λ x. cond (leb (length bs) o) (at_end o last) x)
    (alike_read (entry_at bs o) o last (λ e. read_within m bs (after_entry e) (kind_number e.kind)) (λ e. read_within n bs (after_entry e) (kind_number e.kind))
    (λ e h. let s = stands bs o e h in more_read m n bs (after_entry e) (kind_number e.kind) s.inside (omega arith) (omega arith)))

module _ (bs : List ℕ) (o last : ℕ) where
  abbrev next : Entry → Result (List Entry) (List ℕ)
  next e = read_within (length bs) bs (after_entry e) (kind_number e.kind)

  pub read_end : length bs ≤ o → read_from bs o last ≡ at_end o last
  unfolding read_from
  read_end h = ap (λ b. cond b (at_end o last) (read_next (entry_at bs o) o last next)) (le-leb (length bs) o h)

  inside : o < length bs → read_from bs o last ≡ read_next (entry_at bs o) o last next
  unfolding read_from
  inside h = ap (λ b. cond b (at_end o last) (read_next (entry_at bs o) o last next)) (lt-leb (length bs) o h)

  pub read_fault : (f : List ℕ) → o < length bs → entry_at bs o ≡ Err f → read_from bs o last ≡ Err f
  read_fault f h e = inside h ∙ ap (λ r. read_next r o last next) e

  pub read_misplaced : (e : Entry) → o < length bs → entry_at bs o ≡ Ok e → may_follow last e.kind ≡ false → read_from bs o last ≡ Err (3 ∷ o ∷ [])
  read_misplaced e h r f =
      inside h ∙ ap (λ r. read_next r o last next) r ∙ ap (λ b. cond b (consed e (next e)) (Err (3 ∷ o ∷ []))) f

  pub read_more : (e : Entry) → o < length bs → entry_at bs o ≡ Ok e → may_follow last e.kind ≡ true → read_from bs o last ≡ consed e (read_from bs (after_entry e) (kind_number e.kind))
  unfolding read_from
  read_more e h r f =
      let s = stands bs o e r in
      inside h ∙ ap (λ r. read_next r o last next) r ∙ ap (λ b. cond b (consed e (next e)) (Err (3 ∷ o ∷ []))) f
      ∙ ap (consed e) (more_read (length bs) (suc (length bs)) bs (after_entry e) (kind_number e.kind) s.inside (omega arith) (omega arith))

-- what reading the record at an offset says of the records from there on
pub none_left : (bs : List ℕ) (o : ℕ) (r : Result Record ReadFault) → result_map_both viewed fault_listed r ≡ entry_at bs o → result_ok r ≡ None → entries_from bs o ≡ []
none_left bs o (Ok x) h n = absurd (none-some x (sym n))
none_left bs o (Err f) h n = entries_none bs o (fault_listed f) (sym h)

pub one_left : (bs : List ℕ) (o : ℕ) (r : Result Record ReadFault) (x : Record) → result_map_both viewed fault_listed r ≡ entry_at bs o → result_ok r ≡ Some x → entries_from bs o ≡ viewed x ∷ entries_from bs (after_entry (viewed x))
one_left bs o (Ok y) x h s = entries_more bs o (viewed x) (sym h ∙ ap (λ z. Ok (viewed z)) (same_Some y x s))
one_left bs o (Err f) x h s = absurd (none-some x s)

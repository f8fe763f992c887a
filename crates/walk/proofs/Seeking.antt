-- The chains that look through the records of a file, and the records that they give. Assumes nothing.
use Rattle.std.proofs.Common.{◌≡◌, ℕ, zero, suc, ◌+◌, ◌-◌, ◌<◌, ◌≤◌, Bool, true, false, cond, List, [], ◌∷◌, length, take, IfSome, Some, None, Ok, Err, MatchOption, Option, unwrap_or, Result, sym, refl, ap, ◌∙◌, subst, arith}
use Rattle.std.proofs.lemmas.List.Elements.{All-nil, All-cons, All-filter, All-take}
use Rattle.std.proofs.lemmas.Option.{slice_get_within, get_or_from_slice_get}
use Rattle.std.specs.List.{All, prefix_len, slice_get, take_while}
use Rattle.std.specs.Option.{option_map}
use Rattle.records.specs.declared.records.Record.{Record}
use Rattle.walk.specs.declared.seek.Group.{Group}
use Rattle.walk.specs.Groups.{belongs, grouped}
use Rattle.records.specs.Meaning.{constituents_first, head_number, is_constituent, most, words_in}
use Rattle.records.specs.Records.{Entry, viewed, Within, after_entry, entry_at, entries_from}
use Rattle.records.proofs.Rows.{stands, past, entries_more, entries_none}

-- the constituents at the front are what passes the test from the front on
pub constituents_are : (es : List Entry) → constituents_first es ≡ take_while is_constituent es
constituents_are [] = refl
constituents_are (e ∷ es) = here (is_constituent e) (constituents_are es)
  where
    here : (b : Bool) → constituents_first es ≡ take_while is_constituent es → cond b (e ∷ constituents_first es) [] ≡ take (cond b (1 + prefix_len is_constituent es) 0) (e ∷ es)
    here true h = let on : 1 + prefix_len is_constituent es ≡ suc (prefix_len is_constituent es) = omega arith in ap (λ xs. e ∷ xs) h ∙ ap (λ n. take n (e ∷ es)) (sym on)
    here false h = refl

module _ (bs : List ℕ) where
  each_step : (P : Entry → Type 0) → ((o : ℕ) (e : Entry) → entry_at bs o ≡ Ok e → P e) → (o : ℕ) (r : Result Entry (List ℕ)) → entry_at bs o ≡ r → ((e : Entry) → r ≡ Ok e → All P (entries_from bs (after_entry e))) → All P (entries_from bs o)
  each_step P each o (Err f) read on = subst (All P) (sym (entries_none bs o f read)) (All-nil P)
  each_step P each o (Ok e) read on = subst (All P) (sym (entries_more bs o e read)) (All-cons P e (entries_from bs (after_entry e)) (each o e read) (on e refl))

  -- what holds of each record that stands at an offset holds of the whole row
  each_within : (P : Entry → Type 0) → ((o : ℕ) (e : Entry) → entry_at bs o ≡ Ok e → P e) → (n o : ℕ) → length bs < n + o → All P (entries_from bs o)
  each_within P each zero o h = subst (All P) (sym (entries_none bs o _ (past bs o (omega arith)))) (All-nil P)
  each_within P each (suc n) o h = each_step P each o (entry_at bs o) refl (λ e r. let s = stands bs o e r in each_within P each n (after_entry e) (omega arith))

  each_grouped : (P : Entry → Type 0) → ((o : ℕ) (e : Entry) → entry_at bs o ≡ Ok e → P e) → (group : Group) → All P (grouped group (entries_from bs 0))
  unfolding grouped
  each_grouped P each group = All-filter (λ x. belongs group x.kind) P (entries_from bs 0) (each_within P each (suc (length bs)) 0 (omega arith))

  -- each record lies within the file
  found_inside : (group : Group) (i : ℕ) (e : Entry) → slice_get (take most (grouped group (entries_from bs 0))) i ≡ Some e → Within bs e
  found_inside group i e h =
      let all = All-take (Within bs) most (grouped group (entries_from bs 0)) (each_grouped (Within bs) (λ o x r. let s = stands bs o x r in s.inside) group) in
      subst (Within bs) (get_or_from_slice_get _ i e e h) (all i e (slice_get_within _ i e h))

  -- and is read where it begins
  pub read_there : (group : Group) (i : ℕ) (e : Entry) → slice_get (grouped group (entries_from bs 0)) i ≡ Some e → entry_at bs e.offset ≡ Ok e
  read_there group i e h =
      let Read : Entry → Type 0 = λ x. entry_at bs x.offset ≡ Ok x in
      let all = each_grouped Read (λ o x r. let s = stands bs o x r in ap (entry_at bs) s.here ∙ r) group in
      subst Read (get_or_from_slice_get _ i e e h) (all i e (slice_get_within _ i e h))

  pub result_inside : (group : Group) (i : ℕ) (r : Option Record) → option_map viewed r ≡ slice_get (take most (grouped group (entries_from bs 0))) i → IfSome r (λ x. Within bs (viewed x))
  result_inside group i None h = tt
  result_inside group i (Some x) h = found_inside group i (viewed x) (sym h)

  few_step : (n o : ℕ) (r : Result Entry (List ℕ)) → entry_at bs o ≡ r → length bs ≤ n + o → ((e : Entry) → r ≡ Ok e → length (entries_from bs (after_entry e)) ≤ length bs - after_entry e) → length (entries_from bs o) ≤ length bs - o
  few_step n o (Err f) read h on = let none = ap length (entries_none bs o f read) in omega (arith, none)
  few_step n o (Ok e) read h on =
      let s = stands bs o e read in
      let more = ap length (entries_more bs o e read) in
      let rest = on e refl in
      omega (arith, more, rest, s.here, s.inside)

  -- no more records are left than bytes
  few_left : (n o : ℕ) → length bs ≤ n + o → length (entries_from bs o) ≤ length bs - o
  few_left zero o h = few_step zero o (entry_at bs o) refl h (λ e r. let s = stands bs o e r in absurd (omega (arith, s.here, s.inside)))
  few_left (suc n) o h = few_step (suc n) o (entry_at bs o) refl h (λ e r. let s = stands bs o e r in few_left n (after_entry e) (omega (arith, s.here)))

  pub few : (o : ℕ) → length (entries_from bs o) ≤ length bs
  few o = let h = few_left (length bs) o (omega arith) in omega (arith, h)

-- a number of the first record, 0 where there is none
pub number_of_first : (es rest : List Entry) (r : Option Record) (m : Option ℕ) (i : ℕ) → MatchOption r ((es ≡ []) × (rest ≡ [])) (λ x. es ≡ viewed x ∷ rest) → MatchOption r (m ≡ None) (λ x. m ≡ slice_get (words_in x.body.now) i) → unwrap_or m 0 ≡ head_number es i
number_of_first es rest None m i h n = ap (λ x. unwrap_or x 0) n ∙ sym (ap (λ xs. head_number xs i) h.0)
number_of_first es rest (Some x) m i h n = ap (λ y. unwrap_or y 0) n ∙ sym (ap (λ xs. head_number xs i) h)

-- Listing where the records of a group begin, and finding one by that. Assumes nothing.
use Rattle.std.proofs.Common.{◌≡◌, ℕ, zero, suc, ◌+◌, ◌-◌, ◌<◌, ◌≤◌, min, Bool, true, false, cond, List, [], ◌∷◌, map, length, get_or, take, drop, set, Some, None, Ok, Err, Option, Result, sym, refl, ap, ◌∙◌, subst, arith, length-drop, length-take, length-set}
use Rattle.std.proofs.lemmas.List.{drop-drop}
use Rattle.std.proofs.lemmas.Option.{none-some, same_Some, slice_get-map, slice_get_past, slice_get_within}
use Rattle.std.specs.List.{filter, slice_get}
use Rattle.std.specs.Option.{option_map}
use Rattle.std.specs.Result.{result_map_both, result_ok}
use Rattle.records.specs.declared.kinds.ReadFault.{ReadFault}
use Rattle.records.specs.declared.records.Record.{Record}
use Rattle.records.specs.Kinds.{fault_listed}
use Rattle.records.specs.Meaning.{most}
use Rattle.records.specs.Records.{Entry, viewed, after_entry, entry_at, entries_from}
use Rattle.records.proofs.Rows.{entries_more, entries_none, stands}
use Rattle.walk.specs.declared.catalogue.Catalogue.{Catalogue}
use Rattle.walk.specs.declared.seek.Group.{Group}
use Rattle.walk.specs.Catalogue.{Catalogued, offset_of}
use Rattle.walk.specs.Groups.{belongs, grouped}
use Rattle.walk.proofs.Nth.{nth_take}
use Rattle.walk.proofs.Seeking.{few, read_there}

-- what stands first in the rest of a list
first_left : {X : Type 0} (n : ℕ) (xs : List X) → slice_get (drop n xs) 0 ≡ slice_get xs n
first_left zero xs = refl
first_left (suc n) [] = refl
first_left (suc n) (x ∷ xs) = first_left n xs

few_pass : {X : Type 0} (p : X → Bool) (xs : List X) → length (filter p xs) ≤ length xs
few_pass p [] = omega arith
few_pass p (x ∷ xs) = here (p x) (few_pass p xs)
  where
    here : (b : Bool) → length (filter p xs) ≤ length xs → length (cond b (x ∷ filter p xs) (filter p xs)) ≤ length (x ∷ xs)
    here true h = omega arith
    here false h = omega arith

-- a list of numbers, up to n, is that of ys as far as it goes
abbrev pub Lists : List ℕ → ℕ → List ℕ → Type 0
Lists xs n ys = (i x : ℕ) → i < n → slice_get xs i ≡ Some x → slice_get ys i ≡ Some x

-- one more is written
one_more : (xs ys : List ℕ) (n y : ℕ) → slice_get ys n ≡ Some y → Lists xs n ys → (i x : ℕ) → i < suc n → slice_get (set xs n y) i ≡ Some x → slice_get ys i ≡ Some x
one_more [] ys n y at old i x h s = absurd (none-some x s)
one_more (z ∷ xs) ys zero y at old zero x h s = at ∙ s
one_more (z ∷ xs) ys zero y at old (suc i) x h s = absurd (omega arith)
one_more (z ∷ xs) [] (suc n) y at old i x h s = absurd (none-some y at)
one_more (z ∷ xs) (w ∷ ys) (suc n) y at old zero x h s = old 0 x (omega arith) s
one_more (z ∷ xs) (w ∷ ys) (suc n) y at old (suc i) x h s = one_more xs ys n y at (λ j v q. old (suc j) v (omega arith)) i x (omega arith) s

-- or there is no room for it
no_more : (xs ys : List ℕ) (n : ℕ) → length xs ≤ n → Lists xs n ys → (i x : ℕ) → i < suc n → slice_get xs i ≡ Some x → slice_get ys i ≡ Some x
no_more xs ys n full old i x h s = let inside = slice_get_within xs i x s in old i x (omega arith) s

-- what the loop over the records has come to at an offset
pub record Sofar (bs : List ℕ) (group : Group) (offsets : List ℕ) (count o : ℕ) : Type 0 where
  pub whole : length offsets ≡ 512
  pub left : drop count (grouped group (entries_from bs 0)) ≡ grouped group (entries_from bs o)
  pub some : count ≤ length (grouped group (entries_from bs 0))
  pub listed : Lists offsets count (map offset_of (grouped group (entries_from bs 0)))

module _ (bs : List ℕ) (group : Group) where
  abbrev offsets_all : List ℕ
  offsets_all = map offset_of (grouped group (entries_from bs 0))

  grouped_none : (o : ℕ) (f : List ℕ) → entry_at bs o ≡ Err f → grouped group (entries_from bs o) ≡ []
  unfolding grouped
  grouped_none o f h = ap (grouped group) (entries_none bs o f h)

  grouped_more : (o : ℕ) (e : Entry) (b : Bool) → entry_at bs o ≡ Ok e → belongs group e.kind ≡ b → grouped group (entries_from bs o) ≡ cond b (e ∷ grouped group (entries_from bs (after_entry e))) (grouped group (entries_from bs (after_entry e)))
  unfolding grouped
  grouped_more o e b h k =
      ap (grouped group) (entries_more bs o e h)
      ∙ ap (λ c. cond c (e ∷ grouped group (entries_from bs (after_entry e))) (grouped group (entries_from bs (after_entry e)))) k

  -- where the record of index i of the group begins, of those from p on; and what stands from o on
  abbrev BeginsAt : ℕ → ℕ → ℕ → Type 0
  BeginsAt p i o = slice_get (map offset_of (grouped group (entries_from bs p))) i ≡ Some o

  abbrev RestAt : ℕ → ℕ → ℕ → Type 0
  RestAt p i o = grouped group (entries_from bs o) ≡ drop i (grouped group (entries_from bs p))

  rest_one : (p o : ℕ) (e : Entry) (b : Bool) (i : ℕ) → entry_at bs p ≡ Ok e → belongs group e.kind ≡ b → BeginsAt p i o → ((j : ℕ) → BeginsAt (after_entry e) j o → RestAt (after_entry e) j o) → RestAt p i o
  rest_one p o e false i read k h next =
      let same = grouped_more p e false read k in
      next i (sym (ap (λ es. slice_get (map offset_of es) i) same) ∙ h) ∙ ap (drop i) (sym same)
  rest_one p o e true zero read k h next =
      let same = grouped_more p e true read k in
      let at : e.offset ≡ o = same_Some e.offset o (sym (ap (λ es. slice_get (map offset_of es) 0) same) ∙ h) in
      ap (λ q. grouped group (entries_from bs q)) (sym at ∙ (stands bs p e read).here)
  rest_one p o e true (suc j) read k h next =
      let same = grouped_more p e true read k in
      next j (sym (ap (λ es. slice_get (map offset_of es) (suc j)) same) ∙ h) ∙ ap (drop (suc j)) (sym same)

  rest_step : (p i o : ℕ) (r : Result Entry (List ℕ)) → entry_at bs p ≡ r → BeginsAt p i o → ((e : Entry) → entry_at bs p ≡ Ok e → (j : ℕ) → BeginsAt (after_entry e) j o → RestAt (after_entry e) j o) → RestAt p i o
  rest_step p i o (Err f) read h next = absurd (none-some o (sym (ap (λ es. slice_get (map offset_of es) i) (grouped_none p f read)) ∙ h))
  rest_step p i o (Ok e) read h next = rest_one p o e (belongs group e.kind) i read refl h (next e read)

  rest_from : (n p i o : ℕ) → length (entries_from bs p) ≤ n → BeginsAt p i o → RestAt p i o
  rest_from zero p i o few h = rest_step p i o (entry_at bs p) refl h (λ e read j q. let more = ap length (entries_more bs p e read) in absurd (omega (arith, more, few)))
  rest_from (suc n) p i o few h = rest_step p i o (entry_at bs p) refl h (λ e read j q. let more = ap length (entries_more bs p e read) in rest_from n (after_entry e) j o (omega (arith, more, few)) q)

  -- from where the record of index i begins on stand the records of the group from that one on
  pub rest_at : (i o : ℕ) → slice_get (map offset_of (grouped group (entries_from bs 0))) i ≡ Some o → grouped group (entries_from bs o) ≡ drop i (grouped group (entries_from bs 0))
  rest_at i o h = rest_from (length (entries_from bs 0)) 0 i o (omega arith) h

  pub at_first : (offsets : List ℕ) → length offsets ≡ 512 → Sofar bs group offsets 0 0
  at_first offsets full = record { whole = full; left = refl; some = omega arith; listed = λ i x h s. absurd (omega arith) }

  pub passed : (offsets : List ℕ) (count o : ℕ) (e : Entry) → entry_at bs o ≡ Ok e → belongs group e.kind ≡ false → Sofar bs group offsets count o → Sofar bs group offsets count (after_entry e)
  passed offsets count o e read other s = record { whole = s.whole; left = s.left ∙ grouped_more o e false read other; some = s.some; listed = s.listed }

  -- a record of the group comes next
  next_is : (count o : ℕ) (e : Entry) → entry_at bs o ≡ Ok e → belongs group e.kind ≡ true → drop count (grouped group (entries_from bs 0)) ≡ grouped group (entries_from bs o) → drop count (grouped group (entries_from bs 0)) ≡ e ∷ grouped group (entries_from bs (after_entry e))
  next_is count o e read one_of left = left ∙ grouped_more o e true read one_of

  added_with : (offsets : List ℕ) (count o : ℕ) (e : Entry) → entry_at bs o ≡ Ok e → belongs group e.kind ≡ true → drop count (grouped group (entries_from bs 0)) ≡ grouped group (entries_from bs o) → Lists offsets (suc count) offsets_all → length offsets ≡ 512 → Sofar bs group offsets (suc count) (after_entry e)
  added_with offsets count o e read one_of left listed whole =
      let next = next_is count o e read one_of left in
      let size : length (grouped group (entries_from bs 0)) - count ≡ suc (length (grouped group (entries_from bs (after_entry e)))) = sym (length-drop count (grouped group (entries_from bs 0))) ∙ ap length next in
      let one : suc count ≡ count + 1 = omega arith in
      record {
        whole = whole;
        left = ap (λ n. drop n (grouped group (entries_from bs 0))) one ∙ sym (drop-drop 1 count (grouped group (entries_from bs 0))) ∙ ap (drop 1) next;
        some = omega (arith, size);
        listed = listed;
      }

  -- it is listed where there is room
  pub added : (offsets : List ℕ) (count o : ℕ) (e : Entry) → entry_at bs o ≡ Ok e → belongs group e.kind ≡ true → e.offset ≡ o → Sofar bs group offsets count o → Sofar bs group (set offsets count o) (suc count) (after_entry e)
  added offsets count o e read one_of here s =
      let next = next_is count o e read one_of s.left in
      let found : slice_get offsets_all count ≡ Some o =
      slice_get-map offset_of (grouped group (entries_from bs 0)) count
      ∙ ap (option_map offset_of) (sym (first_left count (grouped group (entries_from bs 0))) ∙ ap (λ es. slice_get es 0) next)
      ∙ ap Some here in
      added_with (set offsets count o) count o e read one_of s.left (one_more offsets offsets_all count o found s.listed) (length-set offsets count o ∙ s.whole)

  pub added_full : (offsets : List ℕ) (count o : ℕ) (e : Entry) → entry_at bs o ≡ Ok e → belongs group e.kind ≡ true → length offsets ≤ count → Sofar bs group offsets count o → Sofar bs group offsets (suc count) (after_entry e)
  added_full offsets count o e read one_of full s = added_with offsets count o e read one_of s.left (no_more offsets offsets_all count full s.listed) s.whole

  -- the same, by other names
  pub moved : {xs ys : List ℕ} {n m o p : ℕ} → ys ≡ xs → m ≡ n → p ≡ o → Sofar bs group xs n o → Sofar bs group ys m p
  moved {xs = xs} {n = n} {m = m} {p = p} a b d s = subst (λ zs. Sofar bs group zs m p) (sym a) (subst (λ k. Sofar bs group xs k p) (sym b) (subst (λ k. Sofar bs group xs n k) (sym d) s))

  -- no more records than bytes
  pub few_grouped : length (grouped group (entries_from bs 0)) ≤ length bs
  unfolding grouped
  few_grouped = let p = few_pass (λ e. belongs group e.kind) (entries_from bs 0) in let f = few bs 0 in omega (arith, p, f)

  -- the count never runs out of numbers
  pub room : {offsets : List ℕ} {count o : ℕ} {e : Entry} → entry_at bs o ≡ Ok e → belongs group e.kind ≡ true → Sofar bs group offsets count o → count < length bs
  room {count = count} {o = o} {e = e} read one_of s =
      let size : length (grouped group (entries_from bs 0)) - count ≡ suc (length (grouped group (entries_from bs (after_entry e)))) = sym (length-drop count (grouped group (entries_from bs 0))) ∙ ap length (next_is count o e read one_of s.left) in
      let all = few_grouped in
      omega (arith, size, all)

  pub all_counted : (offsets : List ℕ) (count o : ℕ) (f : List ℕ) → entry_at bs o ≡ Err f → Sofar bs group offsets count o → count ≡ length (grouped group (entries_from bs 0))
  all_counted offsets count o f read s =
      let none : length (grouped group (entries_from bs 0)) - count ≡ 0 = sym (length-drop count (grouped group (entries_from bs 0))) ∙ ap length (s.left ∙ grouped_none o f read) in
      let some = s.some in
      omega (arith, none, some)

  -- none is found past the count
  cut_short : (m a b i : ℕ) → a ≡ min m b → b ≤ i → a ≤ i
  cut_short m a b i h k = omega arith

  pub none_past : (i : ℕ) → length (grouped group (entries_from bs 0)) ≤ i → None ≡ slice_get (take most (grouped group (entries_from bs 0))) i
  none_past i h = let all = grouped group (entries_from bs 0) in sym (slice_get_past (take most all) i (cut_short most (length (take most all)) (length all) i (length-take most all) h))

  same_cut : (a b i : ℕ) → a ≡ b → b ≤ i → a ≤ i
  same_cut a b i h k = omega arith

  -- nor past the most that a list may hold
  pub none_past_most : (i : ℕ) → min most (length (grouped group (entries_from bs 0))) ≤ i → None ≡ slice_get (take most (grouped group (entries_from bs 0))) i
  none_past_most i h = let all = grouped group (entries_from bs 0) in sym (slice_get_past (take most all) i (same_cut (length (take most all)) (min most (length all)) i (length-take most all) h))

  found_ok : (r : Result Record ReadFault) (e : Entry) → result_map_both viewed fault_listed r ≡ Ok e → option_map viewed (result_ok r) ≡ Some e
  found_ok (Ok x) e h = ap result_ok h
  found_ok (Err f) e h = absurd (let z : ◌≡◌ {A = ℕ} 0 1 = cc in omega arith)

  found_here : (i o : ℕ) (m : Option Entry) → slice_get (grouped group (entries_from bs 0)) i ≡ m → option_map offset_of m ≡ Some o → (r : Result Record ReadFault) → result_map_both viewed fault_listed r ≡ entry_at bs o → option_map viewed (result_ok r) ≡ m
  found_here i o None is at r read = absurd (none-some o at)
  found_here i o (Some e) is at r read = found_ok r e (read ∙ ap (entry_at bs) (sym (same_Some e.offset o at)) ∙ read_there bs group i e is)

  -- the record at a listed offset is the one that is asked for
  pub found_listed : (c : Catalogue) (i o : ℕ) → Catalogued group bs c → i < c.count → i < most → slice_get c.offsets i ≡ Some o → (r : Result Record ReadFault) → result_map_both viewed fault_listed r ≡ entry_at bs o → option_map viewed (result_ok r) ≡ slice_get (take most (grouped group (entries_from bs 0))) i
  found_listed c i o f below small is r read =
      found_here i o (slice_get (grouped group (entries_from bs 0)) i) refl (sym (slice_get-map offset_of (grouped group (entries_from bs 0)) i) ∙ f.1 i o below is) r read
      ∙ sym (nth_take most (grouped group (entries_from bs 0)) i small)

-- what is looked for from a listed record on is the one that is asked for
left_of : {X : Type 0} (n i : ℕ) (xs : List X) → n ≤ i → slice_get (drop n xs) (i - n) ≡ slice_get xs i
left_of zero i xs h = let same : i - 0 ≡ i = omega arith in ap (slice_get xs) same
left_of (suc n) zero xs h = absurd (omega arith)
left_of (suc n) (suc i) [] h = slice_get_past [] (suc i - suc n) (omega arith)
left_of (suc n) (suc i) (x ∷ xs) h = let same : suc i - suc n ≡ i - n = omega arith in ap (slice_get (drop n xs)) same ∙ left_of n i xs (omega arith)

pub found_after : (bs : List ℕ) (group : Group) (n o i : ℕ) → grouped group (entries_from bs o) ≡ drop n (grouped group (entries_from bs 0)) → n ≤ i → i < most
    → slice_get (take most (grouped group (entries_from bs o))) (i - n) ≡ slice_get (take most (grouped group (entries_from bs 0))) i
found_after bs group n o i rest past small =
    nth_take most (grouped group (entries_from bs o)) (i - n) (omega arith)
    ∙ (ap (λ es. slice_get es (i - n)) rest
    ∙ (left_of n i (grouped group (entries_from bs 0)) past ∙ sym (nth_take most (grouped group (entries_from bs 0)) i small)))

-- what a list has at an index, by its number there
pub listed_at : (xs : List ℕ) (i : ℕ) → i < length xs → slice_get xs i ≡ Some (get_or xs i 0)
listed_at [] i h = absurd (omega arith)
listed_at (x ∷ xs) zero h = refl
listed_at (x ∷ xs) (suc i) h = listed_at xs i (omega arith)

-- of a count that stops at m, and a number past it or below it
pub past_count : (m n k i r : ℕ) → r ≡ min m n → n ≡ k → r ≤ i → min m k ≤ i
past_count m n k i r h e past = omega arith

pub below_count : (m n i r : ℕ) → r ≡ min m n → i < r → (i < m) × (i < n)
below_count m n i r h below = (omega arith, omega arith)

-- what is listed is less than the most that a list may hold
pub few_listed : (n i : ℕ) → n ≡ 512 → i < n → i < 4294967295
few_listed n i h k = omega arith

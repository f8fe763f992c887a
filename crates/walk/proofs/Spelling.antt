-- Reading a file and its records one after another come to the same. Assumes nothing.
use Rattle.std.proofs.Common.{◌≡◌, ℕ, zero, suc, ◌+◌, ◌-◌, ◌*◌, ◌<◌, ◌≤◌, Bool, true, false, cond, eqb, ltb, leb, ◌↔◌, List, [], ◌∷◌, ◌++◌, length, get_or, take, drop, Some, Ok, Err, Result, sym, refl, ap, ◌∙◌, subst, arith, length-append, length-drop, take-append-drop, le-ltb, ne_eqb, leb-false, leb-true}
use borrow.Author.Tests.{eqb-false}
use Rattle.std.proofs.lemmas.List.{drop_more, drop-drop, get_or-drop, take_at, drop_at, drop_all}
use Rattle.std.specs.List.{between}
use Rattle.records.specs.declared.kinds.Kind.{Kind}
use Rattle.records.specs.Kinds.{kind_number, kind_of, body_fits, may_follow}
use Rattle.records.specs.Records.{Entry, word_at, after_entry, entry_if, entry_of, entry_at, consed, read_from, reading}
use Rattle.walk.specs.Spelled.{Begins, begins, Spelled, ended, after}
use Rattle.records.proofs.Rows.{stands, read_end, read_fault, read_misplaced, read_more}

-- what reading to the end says of where it stands
Came : List ℕ → ℕ → ℕ → List Entry → Type 0
Came bs o last [] = (length bs ≤ o) × (0 < last)
Came bs o last (e ∷ es) = (o < length bs) × (entry_at bs o ≡ Ok e) × (may_follow last e.kind ≡ true) × (read_from bs (after_entry e) (kind_number e.kind) ≡ Ok es)

module _ (bs : List ℕ) (o last : ℕ) where
  came_end : (es : List Entry) (b : Bool) → length bs ≤ o → eqb last 0 ≡ b → cond b (Err (3 ∷ o ∷ [])) (Ok []) ≡ Ok es → Came bs o last es
  unfolding Came
  came_end es true h z r = absurd (let x : ◌≡◌ {A = ℕ} 0 1 = cc in omega arith)
  came_end [] false h z r = (h, let n = eqb-false last 0 z in omega arith)
  came_end (e ∷ es) false h z r = absurd (let x : ◌≡◌ {A = ℕ} 0 1 = cc in omega arith)

  came_after : (es : List Entry) (e : Entry) (r : Result (List Entry) (List ℕ)) → o < length bs → entry_at bs o ≡ Ok e → may_follow last e.kind ≡ true → read_from bs (after_entry e) (kind_number e.kind) ≡ r → consed e r ≡ Ok es → Came bs o last es
  unfolding Came
  came_after es e (Err f) h en m rest r = absurd (let x : ◌≡◌ {A = ℕ} 0 1 = cc in omega arith)
  came_after [] e (Ok xs) h en m rest r = absurd (let x : ◌≡◌ {A = ℕ} 0 1 = cc in omega arith)
  came_after (x ∷ es) e (Ok xs) h en m rest r =
      let same : e ≡ x = cc in
      let tail : xs ≡ es = cc in
      (h, en ∙ ap Ok same, subst (λ y. may_follow last y.kind ≡ true) same m, subst (λ y. read_from bs (after_entry y) (kind_number y.kind) ≡ Ok es) same (rest ∙ ap Ok tail))

  came_next : (es : List Entry) (x : Result Entry (List ℕ)) → o < length bs → entry_at bs o ≡ x → read_from bs o last ≡ Ok es → Came bs o last es
  came_next es (Err f) h en r = absurd (let n = read_fault bs o last f h en in let x : ◌≡◌ {A = ℕ} 0 1 = cc in omega arith)
  came_next es (Ok e) h en r = go (may_follow last e.kind) refl
    where
      go : (b : Bool) → may_follow last e.kind ≡ b → Came bs o last es
      go true m = came_after es e (read_from bs (after_entry e) (kind_number e.kind)) h en m refl (sym (read_more bs o last e h en m) ∙ r)
      go false m = absurd (let n = read_misplaced bs o last e h en m in let x : ◌≡◌ {A = ℕ} 0 1 = cc in omega arith)

  came : (es : List Entry) → read_from bs o last ≡ Ok es → Came bs o last es
  came es r = go (leb (length bs) o) refl
    where
      go : (b : Bool) → leb (length bs) o ≡ b → Came bs o last es
      go true t = came_end es (eqb last 0) (leb-true (length bs) o t) refl (sym (read_end bs o last (leb-true (length bs) o t)) ∙ r)
      go false t = came_next es (entry_at bs o) (leb-false (length bs) o t) refl r

  -- the bytes of a record
  bytes_of : (e : Entry) → entry_at bs o ≡ Ok e → drop o bs ≡ get_or bs o 0 ∷ (get_or bs (o + 1) 0 ∷ (get_or bs (o + 2) 0 ∷ (get_or bs (o + 2 + 1) 0 ∷ (e.body ++ drop (after_entry e) bs))))
  bytes_of e en =
      let s = stands bs o e en in
      let room : o + 4 + length e.body ≤ length bs = omega (arith, s.here, s.inside) in
      let one = drop_more bs o 0 (omega arith) in
      let two = drop_more bs (o + 1) 0 (omega arith) in
      let three : drop (o + 1 + 1) bs ≡ get_or bs (o + 2) 0 ∷ drop (o + 2 + 1) bs = ap (λ n. drop n bs) (omega arith) ∙ drop_more bs (o + 2) 0 (omega arith) in
      let four : drop (o + 2 + 1) bs ≡ get_or bs (o + 2 + 1) 0 ∷ drop (o + 4) bs = drop_more bs (o + 2 + 1) 0 (omega arith) ∙ ap (λ n. get_or bs (o + 2 + 1) 0 ∷ drop n bs) (omega arith) in
      let size : o + 2 + word_at bs o - (o + 4) ≡ length e.body = omega (arith, s.long) in
      let front : e.body ≡ take (length e.body) (drop (o + 4) bs) = s.part ∙ ap (λ n. take n (drop (o + 4) bs)) size in
      let next : drop (length e.body) (drop (o + 4) bs) ≡ drop (after_entry e) bs = drop-drop (length e.body) (o + 4) bs ∙ ap (λ n. drop n bs) (omega (arith, s.here)) in
      let five : drop (o + 4) bs ≡ e.body ++ drop (after_entry e) bs =
      sym (take-append-drop (length e.body) (drop (o + 4) bs)) ∙ (λ i. sym front i ++ next i) in
      one ∙ ap (λ l. get_or bs o 0 ∷ l) two ∙ ap (λ l. get_or bs o 0 ∷ (get_or bs (o + 1) 0 ∷ l)) three
      ∙ ap (λ l. get_or bs o 0 ∷ (get_or bs (o + 1) 0 ∷ (get_or bs (o + 2) 0 ∷ l))) four
      ∙ ap (λ l. get_or bs o 0 ∷ (get_or bs (o + 1) 0 ∷ (get_or bs (o + 2) 0 ∷ (get_or bs (o + 2 + 1) 0 ∷ l)))) five

  spelled_next : (e : Entry) → entry_at bs o ≡ Ok e → may_follow last e.kind ≡ true → Begins o last (drop o bs) e (drop (after_entry e) bs)
  spelled_next e en m =
      let s = stands bs o e en in
      let same : ◌≡◌ {A = Entry} (record { offset = o; kind = e.kind; body = e.body }) e = λ i. record { offset = sym s.here i; kind = e.kind; body = e.body } in
      subst (λ x. Begins o last (drop o bs) x (drop (after_entry e) bs)) same
      (subst (λ l. Begins o last l (record { offset = o; kind = e.kind; body = e.body }) (drop (after_entry e) bs)) (sym (bytes_of e en))
      (begins s.long s.named s.fits m))

spelled : (es : List Entry) (bs : List ℕ) (o last : ℕ) → read_from bs o last ≡ Ok es → Spelled (drop o bs) o last es
unfolding Came
spelled [] bs o last r = let c = came bs o last [] r in at_end_lem last c.0 c.1
  where
    at_end_lem : (n : ℕ) → length bs ≤ o → 0 < n → Spelled (drop o bs) o n []
    at_end_lem zero h l = absurd (omega arith)
    at_end_lem (suc n) h l = subst (λ x. Spelled x o (suc n) []) (sym (drop_all o bs h)) ended
spelled (e ∷ es) bs o last r =
    let c = came bs o last (e ∷ es) r in
    let s = stands bs o e c.1 in
    let there : after_entry e ≡ o + 4 + length e.body = omega (arith, s.here) in
    after (spelled_next bs o last e c.1 c.2) (subst (λ n. Spelled (drop (after_entry e) bs) n (kind_number e.kind) es) there (spelled es bs (after_entry e) (kind_number e.kind) c.3))

-- a record stands at o where its parts do
entry_is : (bs : List ℕ) (o : ℕ) (k : Kind) (body : List ℕ) → o + 2 + word_at bs o ≤ length bs → 2 ≤ word_at bs o → kind_of (word_at bs (o + 2)) ≡ Some k → body_fits k (word_at bs o - 2) ≡ true → between (o + 4) (o + 2 + word_at bs o) bs ≡ body → entry_at bs o ≡ Ok (record { offset = o; kind = k; body = body })
entry_is bs o k body room least named fits part =
    let past : Result Entry (List ℕ) = Err (1 ∷ o ∷ []) in
    let bad : Result Entry (List ℕ) = Err (2 ∷ o ∷ []) in
    let found : Result Entry (List ℕ) = entry_of (kind_of (word_at bs (o + 2))) bs o in
    ap (λ t. cond t past (cond (ltb (length bs) (o + 2 + word_at bs o)) past (cond (ltb (word_at bs o) 2) bad found))) (le-ltb (length bs) (o + 2) (omega arith))
    ∙ ap (λ t. cond t past (cond (ltb (word_at bs o) 2) bad found)) (le-ltb (length bs) (o + 2 + word_at bs o) room)
    ∙ ap (λ t. cond t bad found) (le-ltb (word_at bs o) 2 least)
    ∙ ap (λ x. entry_of x bs o) named
    ∙ ap (λ t. entry_if t (record { offset = o; kind = k; body = between (o + 4) (o + 2 + word_at bs o) bs }) o) fits
    ∙ ap (λ x. Ok (record { offset = o; kind = k; body = x })) part

-- what the bytes of a record say of the file that has them at o
record Found (bs : List ℕ) (o last : ℕ) (e : Entry) (rest : List ℕ) : Type 0 where
  here : e.offset ≡ o
  inside : o + 4 + length e.body ≤ length bs
  entry : entry_at bs o ≡ Ok e
  order : may_follow last e.kind ≡ true
  left : drop (o + 4 + length e.body) bs ≡ rest

found : {bs' rest : List ℕ} {o last : ℕ} {e : Entry} → Begins o last bs' e rest → (bs : List ℕ) → drop o bs ≡ bs' → Found bs o last e rest
found {o = o} {last = last} (begins {l₀} {l₁} {k₀} {k₁} {body} {rest} {k} long named fits m) bs d =
    let all : List ℕ = l₀ ∷ (l₁ ∷ (k₀ ∷ (k₁ ∷ (body ++ rest)))) in
    let size : length bs - o ≡ 4 + (length body + length rest) = sym (length-drop o bs) ∙ ap length d ∙ ap (λ n. suc (suc (suc (suc n)))) (length-append body rest) ∙ omega arith in
    let at : (i : ℕ) → get_or bs (o + i) 0 ≡ get_or all i 0 = λ i. sym (get_or-drop o bs i 0) ∙ ap (λ l. get_or l i 0) d in
    let zeroth : o ≡ o + 0 = omega arith in
    let third : o + 2 + 1 ≡ o + 3 = omega arith in
    let first : get_or bs o 0 ≡ l₀ = ap (λ n. get_or bs n 0) zeroth ∙ at 0 in
    let fourth : get_or bs (o + 2 + 1) 0 ≡ k₁ = ap (λ n. get_or bs n 0) third ∙ at 3 in
    let word : word_at bs o ≡ 2 + length body = (λ i. first i + 256 * at 1 i) ∙ long in
    let kind : word_at bs (o + 2) ≡ k₀ + 256 * k₁ = λ i. at 2 i + 256 * fourth i in
    let tail : drop (o + 4) bs ≡ body ++ rest = sym (drop-drop 4 o bs) ∙ ap (drop 4) d in
    let part : between (o + 4) (o + 2 + word_at bs o) bs ≡ body = (λ i. take (size_of bs o body word i) (tail i)) ∙ take_at body rest (length body) refl in
    let fit : body_fits k (word_at bs o - 2) ≡ true = ap (body_fits k) (less bs o body word) ∙ fits in
    record {
      here = refl;
      inside = omega (arith, size);
      entry = entry_is bs o k body (omega (arith, size, word)) (omega (arith, word)) (ap kind_of kind ∙ named) fit part;
      order = m;
      left = sym (drop-drop (length body) (o + 4) bs) ∙ ap (drop (length body)) tail ∙ drop_at body rest (length body) refl;
    }
  where
    size_of : (bs : List ℕ) (o : ℕ) (body : List ℕ) → word_at bs o ≡ 2 + length body → o + 2 + word_at bs o - (o + 4) ≡ length body
    size_of bs o body h = omega arith

    less : (bs : List ℕ) (o : ℕ) (body : List ℕ) → word_at bs o ≡ 2 + length body → word_at bs o - 2 ≡ length body
    less bs o body h = omega arith

read_back : {bs' : List ℕ} {o last : ℕ} {es : List Entry} → Spelled bs' o last es → (bs : List ℕ) → o ≤ length bs → drop o bs ≡ bs' → read_from bs o last ≡ Ok es
read_back {o = o} (ended {k = k}) bs h d =
    let size : length bs - o ≡ 0 = sym (length-drop o bs) ∙ ap length d in
    read_end bs o (suc k) (omega arith) ∙ ap (λ b. cond b (Err (3 ∷ o ∷ [])) (Ok [])) (ne_eqb (suc k) 0 (omega arith))
read_back {o = o} {last = last} (after {e = e} b s) bs h d =
    let f = found b bs d in
    let there : after_entry e ≡ o + 4 + length e.body = omega (arith, f.here) in
    read_more bs o last e (omega (arith, f.inside)) f.entry f.order
    ∙ ap (λ n. consed e (read_from bs n (kind_number e.kind))) there
    ∙ ap (consed e) (read_back s bs f.inside f.left)

-- reading accepts a file exactly when its bytes are records one after another, and answers those
pub reading_is_spelling : (bs : List ℕ) (es : List Entry) → (reading bs ≡ Ok es) ↔ Spelled bs 0 0 es
reading_is_spelling bs es = (spelled es bs 0 0, λ s. read_back s bs (omega arith) refl)

-- What stands at an offset, by the parts that its bytes are cut into. Assumes nothing.
use Rattle.std.proofs.Common.{◌≡◌, ℕ, zero, suc, ◌+◌, ◌-◌, ◌*◌, ◌≤◌, Bool, cond, ltb, List, [], ◌∷◌, length, get_or, take, drop, Some, None, Err, Option, Result, sym, refl, ap, ◌∙◌, arith, le-ltb, length-take, length-drop}
use Rattle.std.proofs.lemmas.List.{drop-drop, drop-take, get_or-drop, take_rest}
use Rattle.std.specs.List.{between, slice_range}
use Rattle.records.specs.declared.kinds.Kind.{Kind}
use Rattle.records.specs.Kinds.{kind_of, body_fits}
use Rattle.records.specs.Records.{Entry, word_at, entry_if, entry_of, entry_at}

-- a number needs two bytes
word_first : (xs : List ℕ) → word_at (take 2 xs) 0 ≡ word_at xs 0
word_first [] = refl
word_first (a ∷ []) = refl
word_first (a ∷ b ∷ xs) = refl

word_further : (n : ℕ) (xs : List ℕ) → 2 ≤ n → word_at (take n xs) 0 ≡ word_at xs 0
word_further zero xs h = absurd (omega arith)
word_further (suc zero) xs h = absurd (omega arith)
word_further (suc (suc n)) [] h = refl
word_further (suc (suc n)) (a ∷ []) h = refl
word_further (suc (suc n)) (a ∷ b ∷ xs) h = refl

word_dropped : (o : ℕ) (bs : List ℕ) → word_at (drop o bs) 0 ≡ word_at bs o
word_dropped o bs =
    let here : o + 0 ≡ o = omega arith in
    (λ i. get_or-drop o bs 0 0 i + 256 * get_or-drop o bs 1 0 i) ∙ ap (λ n. get_or bs n 0 + 256 * get_or bs (o + 1) 0) here

-- the record that a kind and a body make
abbrev entry_with : Option Kind → ℕ → List ℕ → Result Entry (List ℕ)
entry_with None o body = Err (2 ∷ o ∷ [])
entry_with (Some k) o body = entry_if (body_fits k (length body)) (record { offset = o; kind = k; body = body }) o

-- the bytes from an offset on, cut: into the length and what follows it, of which so much is the record's; and that into the
-- kind and the body
pub record Cut (bs : List ℕ) (o : ℕ) (two content kind body : List ℕ) : Type 0 where
  pub inside : o ≤ length bs
  pub length_is : two ≡ take 2 (slice_range bs o (length bs))
  pub room : word_at two 0 + 2 ≤ length (slice_range bs o (length bs))
  pub content_is : content ≡ slice_range (drop 2 (slice_range bs o (length bs))) 0 (word_at two 0)
  pub least : 2 ≤ length content
  pub kind_is : kind ≡ take 2 content
  pub body_is : body ≡ drop 2 content

module _ {bs two content kind body : List ℕ} {o : ℕ} (c : Cut bs o two content kind body) where
  rest_is : slice_range bs o (length bs) ≡ drop o bs
  rest_is = take_rest bs o

  after_is : drop 2 (slice_range bs o (length bs)) ≡ drop (o + 2) bs
  after_is = ap (drop 2) rest_is ∙ drop-drop 2 o bs

  word_is : word_at two 0 ≡ word_at bs o
  word_is = ap (λ xs. word_at xs 0) c.length_is ∙ word_first (slice_range bs o (length bs)) ∙ ap (λ xs. word_at xs 0) rest_is ∙ word_dropped o bs

  room_is : o + 2 + word_at bs o ≤ length bs
  room_is = let long = ap length rest_is ∙ length-drop o bs in let r = c.room in let i = c.inside in omega (arith, long, word_is, r, i)

  content_here : content ≡ take (word_at bs o) (drop (o + 2) bs)
  content_here = let all : word_at two 0 - 0 ≡ word_at two 0 = omega arith in c.content_is ∙ ap (λ n. take n (drop 2 (slice_range bs o (length bs)))) all ∙ (λ i. take (word_is i) (after_is i))

  least_is : 2 ≤ word_at bs o
  least_is = let l = c.least in let long = ap length content_here ∙ length-take (word_at bs o) (drop (o + 2) bs) in omega (arith, l, long)

  kind_here : word_at kind 0 ≡ word_at bs (o + 2)
  kind_here = ap (λ xs. word_at xs 0) c.kind_is ∙ word_first content ∙ ap (λ xs. word_at xs 0) content_here ∙ word_further (word_at bs o) (drop (o + 2) bs) least_is ∙ word_dropped (o + 2) bs

  body_here : body ≡ between (o + 4) (o + 2 + word_at bs o) bs
  body_here =
      let l = least_is in
      let more : word_at bs o ≡ 2 + (word_at bs o - 2) = omega (arith, l) in
      let four : o + 2 + 2 ≡ o + 4 = omega arith in
      let size : word_at bs o - 2 ≡ o + 2 + word_at bs o - (o + 4) = omega arith in
      c.body_is ∙ ap (drop 2) content_here ∙ ap (λ n. drop 2 (take n (drop (o + 2) bs))) more ∙ drop-take 2 (word_at bs o - 2) (drop (o + 2) bs)
      ∙ ap (take (word_at bs o - 2)) (drop-drop 2 (o + 2) bs ∙ ap (λ n. drop n bs) four) ∙ ap (λ n. take n (drop (o + 4) bs)) size

  body_long : length body ≡ word_at bs o - 2
  body_long = let r = room_is in let l = least_is in ap length body_here ∙ simp (length-take, length-drop) (omega (arith, r, l))

  with_parts : (m : Option Kind) → entry_of m bs o ≡ entry_with m o body
  with_parts None = refl
  with_parts (Some k) = λ i. entry_if (body_fits k (sym body_long i)) (record { offset = o; kind = k; body = sym body_here i }) o

  entry_cut : entry_at bs o ≡ entry_with (kind_of (word_at kind 0)) o body
  entry_cut =
      let r = room_is in
      let past : Result Entry (List ℕ) = Err (1 ∷ o ∷ []) in
      let bad : Result Entry (List ℕ) = Err (2 ∷ o ∷ []) in
      let found : Result Entry (List ℕ) = entry_of (kind_of (word_at bs (o + 2))) bs o in
      ap (λ t. cond t past (cond (ltb (length bs) (o + 2 + word_at bs o)) past (cond (ltb (word_at bs o) 2) bad found))) (le-ltb (length bs) (o + 2) (omega (arith, r)))
      ∙ ap (λ t. cond t past (cond (ltb (word_at bs o) 2) bad found)) (le-ltb (length bs) (o + 2 + word_at bs o) room_is)
      ∙ ap (λ t. cond t bad found) (le-ltb (word_at bs o) 2 least_is)
      ∙ with_parts (kind_of (word_at bs (o + 2)))
      ∙ ap (λ w. entry_with (kind_of w) o body) (sym kind_here)

  -- no kind has that number
  pub entry_unknown : kind_of (word_at kind 0) ≡ None → entry_at bs o ≡ Err (2 ∷ o ∷ [])
  entry_unknown n = entry_cut ∙ ap (λ m. entry_with m o body) n

  -- a kind has, and the body fits it or not
  pub entry_known : {k : Kind} {b : Bool} → kind_of (word_at kind 0) ≡ Some k → b ≡ body_fits k (length body) → entry_at bs o ≡ entry_if b (record { offset = o; kind = k; body = body }) o
  entry_known {k} n f = entry_cut ∙ ap (λ m. entry_with m o body) n ∙ ap (λ b. entry_if b (record { offset = o; kind = k; body = body }) o) (sym f)

-- What stands in a list that has more things added at its end, and in the lists of the lexicon layer. Assumes nothing.
use Rattle.std.proofs.Common.{◌≡◌, ℕ, zero, suc, ◌+◌, ◌-◌, ◌<◌, ◌≤◌, min, Bool, true, false, cond, ltb, List, [], ◌∷◌, ◌++◌, map, length, take, Some, None, Option, Result, Ok, Err, sym, refl, ap, ◌∙◌, inl, inr, arith}
use Rattle.std.specs.Option.{MatchOption, IsSomeAnd, option_map, option_flatten, option_or}
use Rattle.std.specs.Result.{IsOk, OnOk, OnErr, MatchResult, is_ok}
use Rattle.std.specs.List.{slice_get}
use Rattle.std.proofs.lemmas.List.{length-take, length-append, length-map, append_assoc, map_push}
use Rattle.std.proofs.lemmas.Option.{slice_get_past}
use Rattle.std.proofs.lemmas.Bool.{lt-ltb, le-ltb, cases_lt, cond-true, cond-false, false≢true}
use Rattle.grammar.specs.declared.Place.{Place}
use Rattle.grammar.specs.Grammar.{Grammar, Function, Production, production_at, from_one, and_then, head_of}
use Rattle.lexicon.specs.declared.lexicon_layer.Entry.{Entry}
use Rattle.table.specs.Rows.{stopped}
use Rattle.lexicon.specs.Lexicon.{word_function, word_production, word_places, kept, kept_head, with_lists, with_words, with_word, added_at}
use Rattle.table.proofs.Lookups.{nth_map, flattened_mapped}

nth_take : {X : Type 0} (n : ℕ) (xs : List X) (i : ℕ) → i < n → slice_get (take n xs) i ≡ slice_get xs i
nth_take zero xs i h = absurd (omega arith)
nth_take (suc n) [] i h = refl
nth_take (suc n) (x ∷ xs) zero h = refl
nth_take (suc n) (x ∷ xs) (suc i) h = nth_take n xs i (omega arith)

nth_append_left : {X : Type 0} (xs ys : List X) (i : ℕ) → i < length xs → slice_get (xs ++ ys) i ≡ slice_get xs i
nth_append_left [] ys i h = absurd (omega arith)
nth_append_left (x ∷ xs) ys zero h = refl
nth_append_left (x ∷ xs) ys (suc i) h = nth_append_left xs ys i (omega arith)

nth_append_right : {X : Type 0} (xs ys : List X) (i : ℕ) → length xs ≤ i → slice_get (xs ++ ys) i ≡ slice_get ys (i - length xs)
nth_append_right [] ys i h = ap (slice_get ys) (omega arith)
nth_append_right (x ∷ xs) ys zero h = absurd (omega arith)
nth_append_right (x ∷ xs) ys (suc i) h = nth_append_right xs ys i (omega arith) ∙ ap (slice_get ys) (omega arith)

pub added_below : {X : Type 0} (below : ℕ) (xs : List X) (i : ℕ) → i < below → added_at below xs i ≡ None
added_below below xs i h = cond-true (ltb i below) None _ (lt-ltb i below h)

pub added_from : {X : Type 0} (below : ℕ) (xs : List X) (i : ℕ) → below ≤ i → i < 4294967295 → added_at below xs i ≡ slice_get xs (i - below)
added_from below xs i h k =
    cond-false (ltb i below) None _ (le-ltb i below h) ∙ cond-true (ltb i 4294967295) (slice_get xs (i - below)) None (lt-ltb i 4294967295 k)

added_past : {X : Type 0} (below : ℕ) (xs : List X) (i : ℕ) → below ≤ i → 4294967295 ≤ i → added_at below xs i ≡ None
added_past below xs i h k =
    cond-false (ltb i below) None _ (le-ltb i below h) ∙ cond-false (ltb i 4294967295) (slice_get xs (i - below)) None (le-ltb i 4294967295 k)

or_none : {X : Type 0} (o : Option X) → option_or o None ≡ o
or_none None = refl
or_none (Some x) = refl

-- A list of xs and then ys has at each number what is added there, or else what xs has.
pub nth_both : {X : Type 0} (xs ys : List X) (i : ℕ) → length xs ≤ 4294967295
    → option_or (added_at (length xs) ys i) (slice_get xs i) ≡ slice_get (stopped (xs ++ ys)) i
nth_both xs ys i short =
    elim (cases_lt i (length xs)) [
      | inl h ↦ ap (λ o. option_or o (slice_get xs i)) (added_below (length xs) ys i h)
          ∙ sym (nth_take 4294967295 (xs ++ ys) i (omega arith) ∙ nth_append_left xs ys i h)
      | inr h ↦ ap (option_or (added_at (length xs) ys i)) (slice_get_past xs i h) ∙ (or_none (added_at (length xs) ys i)
          ∙ elim (cases_lt i 4294967295) [
            | inl k ↦ added_from (length xs) ys i h k ∙ sym (nth_take 4294967295 (xs ++ ys) i k ∙ nth_append_right xs ys i h)
            | inr k ↦ added_past (length xs) ys i h k
                ∙ sym (slice_get_past (stopped (xs ++ ys)) i (omega (arith, length-take 4294967295 (xs ++ ys))))
          ])
    ]

word_places_lem : (next : ℕ) (es : List Entry) (i : ℕ) → slice_get (word_places next es) i ≡ option_map (λ e. Some (word_production (next + i) e)) (slice_get es i)
word_places_lem next [] i = refl
word_places_lem next (e ∷ es) zero = ap (λ n. Some (Some (word_production n e))) (omega arith)
word_places_lem next (e ∷ es) (suc i) =
    word_places_lem (suc next) es i ∙ ap (λ n. option_map (λ e. Some (word_production n e)) (slice_get es i)) (omega arith)

added_mapped : {X Y : Type 0} (f : X → Y) (below : ℕ) (xs : List X) (ys : List Y) (i : ℕ)
    → slice_get ys (i - below) ≡ option_map f (slice_get xs (i - below)) → added_at below ys i ≡ option_map f (added_at below xs i)
added_mapped {X = X} {Y = Y} f below xs ys i e =
    let both : (a b : Bool) (o : Option X) (q : Option Y) → q ≡ option_map f o → cond a None (cond b q None) ≡ option_map f (cond a None (cond b o None))
    = λ a b o q d. elim a as (λ v. cond v None (cond b q None) ≡ option_map f (cond v None (cond b o None))) [
      | true ↦ refl
      | false ↦ elim b as (λ v. cond v q None ≡ option_map f (cond v o None)) [ true ↦ d | false ↦ refl ]
    ] in
    both (ltb i below) (ltb i 4294967295) (slice_get xs (i - below)) (slice_get ys (i - below)) e

-- An answer G about a function of the layer, given how many functions stand below, and the entry that adds it, if any.
pub function_added : {Z : Type 0} (G : Option Function → Z) (es : List Entry) (g : Grammar) (f n : ℕ) (o : Option Entry)
    → n ≡ length g.functions → n ≤ 4294967295 → o ≡ added_at n es f
    → G (option_or (option_map word_function o) (slice_get g.functions f)) ≡ G (slice_get (with_words es g).functions f)
function_added G es g f n o same short e =
    ap (λ q. G (option_or (option_map word_function q) (slice_get g.functions f))) (e ∙ ap (λ k. added_at k es f) same)
    ∙ (ap (λ q. G (option_or q (slice_get g.functions f)))
    (sym (added_mapped word_function (length g.functions) es (map word_function es) f (sym (nth_map word_function es (f - length g.functions)))))
    ∙ ap G (nth_both g.functions (map word_function es) f (omega arith)))

flattened_added : {X Y : Type 0} (f : X → Y) (o : Option X) (q : Option (Option Y))
    → option_flatten (option_or (option_map (λ e. Some (f e)) o) q) ≡ option_or (option_map f o) (option_flatten q)
flattened_added f None q = refl
flattened_added f (Some x) q = refl

-- An answer G about a place of the layer, given how many places stand below, and the entry that adds it, if any.
pub production_added : {Z : Type 0} (G : Option Production → Z) (es : List Entry) (g : Grammar) (p k : ℕ) (o : Option Entry)
    → k ≡ length g.places → k ≤ 4294967295 → o ≡ added_at k es p
    → G (option_or (option_map (word_production (length g.functions + (p - length g.places))) o) (option_map (kept (length g.functions)) (production_at g p)))
    ≡ G (production_at (with_words es g) p)
production_added G es g p k o same short e =
    let n : ℕ = length g.functions in
    let m : ℕ = length g.places in
    let word : Entry → Production = word_production (n + (p - m)) in
    let below : List (Option Production) = map (option_map (kept n)) g.places in
    let long : length below ≡ m = length-map g.places (option_map (kept n)) in
    ap (λ q. G (option_or (option_map word q) (option_map (kept n) (production_at g p)))) (e ∙ ap (λ i. added_at i es p) same)
    ∙ (ap (λ q. G (option_or (option_map word (added_at m es p)) q)) (flattened_mapped (kept n) (slice_get g.places p) ∙ ap option_flatten (nth_map (option_map (kept n)) g.places p))
    ∙ (ap G (sym (flattened_added word (added_at m es p) (slice_get below p)))
    ∙ (ap (λ q. G (option_flatten (option_or q (slice_get below p)))) (sym (added_mapped (λ x. Some (word x)) m es (word_places n es) p (word_places_lem n es (p - m))))
    ∙ (ap (λ k. G (option_flatten (option_or (added_at k (word_places n es) p) (slice_get below p)))) (sym long)
    ∙ ap (λ q. G (option_flatten q)) (nth_both below (word_places n es) p (omega arith))))))

pub length_words : (next : ℕ) (es : List Entry) → length (word_places next es) ≡ length es
length_words next [] = refl
length_words next (e ∷ es) = ap suc (length_words (suc next) es)

-- How long such a list is, where its two parts are known to be so long.
pub length_both : {X : Type 0} (xs ys : List X) (n k r : ℕ) → n ≡ length xs → length ys ≡ k → r ≡ min (n + k) 4294967295
    → r ≡ length (stopped (xs ++ ys))
length_both xs ys n k r long more e = omega (arith, length-take 4294967295 (xs ++ ys), length-append xs ys)

pub no_argument : (i : ℕ) → None ≡ from_one {X = ℕ} [] i
no_argument zero = refl
no_argument (suc i) = refl

-- what an answer is mapped to
pub mapped_answer : {X Y : Type 0} (f : X → Y) (o : Option X) (r : Option Y) {P : X → Y → Type 0}
    → MatchOption o (r ≡ None) (λ x. IsSomeAnd r (P x)) → ((x : X) (y : Y) → P x y → y ≡ f x) → r ≡ option_map f o
mapped_answer f None r k told = k
mapped_answer f (Some x) None k told = elim k [ ]
mapped_answer f (Some x) (Some y) k told = ap Some (told x y k)

pub kept_head_lem : (n : ℕ) (o : Option Production) → option_map (kept_head n) (option_map head_of o) ≡ option_map head_of (option_map (kept n) o)
kept_head_lem n None = refl
kept_head_lem n (Some q) = refl

pub kept_argument : (n : ℕ) (o : Option Production) (i : ℕ)
    → and_then o (λ q. from_one q.arguments i) ≡ and_then (option_map (kept n) o) (λ q. from_one q.arguments i)
kept_argument n None i = refl
kept_argument n (Some q) i = refl

stopped_both : {X : Type 0} (n : ℕ) (xs ys : List X) → take n (xs ++ ys) ≡ take n (take n xs ++ ys)
stopped_both zero xs ys = refl
stopped_both (suc n) [] ys = refl
stopped_both (suc n) (x ∷ xs) ys = ap (λ zs. x ∷ zs) (stopped_both n xs ys)

-- One more thing at the end of a list that stops.
stopped_push : {X : Type 0} (xs ys : List X) (y : X) → stopped (xs ++ (ys ++ y ∷ [])) ≡ stopped (stopped (xs ++ ys) ++ y ∷ [])
stopped_push xs ys y = ap (take 4294967295) (sym (append_assoc xs ys (y ∷ []))) ∙ stopped_both 4294967295 (xs ++ ys) (y ∷ [])

words_push : (next : ℕ) (es : List Entry) (e : Entry)
    → word_places next (es ++ e ∷ []) ≡ word_places next es ++ Some (word_production (next + length es) e) ∷ []
words_push next [] e = ap (λ n. Some (word_production n e) ∷ []) (omega arith)
words_push next (x ∷ es) e =
    ap (λ ps. Some (word_production next x) ∷ ps)
    (words_push (suc next) es e ∙ ap (λ n. word_places (suc next) es ++ Some (word_production n e) ∷ []) (omega arith))

-- One more entry is one more function, and one more place that uses it.
pub one_more_lem : (es : List Entry) (e : Entry) (g : Grammar) → with_words (es ++ e ∷ []) g ≡ with_word e (with_words es g)
one_more_lem es e g =
    let n : ℕ = length g.functions in
    let below : List (Option Production) = map (option_map (kept n)) g.places in
    let functions : List Function = stopped (g.functions ++ map word_function es) in
    let word : ℕ → Option Production = λ f. Some (record { result = e.category; function = f; arguments = [] }) in
    ap (λ fs. with_lists g fs (stopped (below ++ word_places n (es ++ e ∷ []))))
    (ap (λ fs. stopped (g.functions ++ fs)) (map_push word_function es e) ∙ stopped_push g.functions (map word_function es) (word_function e))
    ∙ ap (with_lists g (stopped (functions ++ word_function e ∷ [])))
    (ap (λ ps. stopped (below ++ ps)) (words_push n es e)
    ∙ (stopped_push below (word_places n es) (word (min (n + length es) 4294967295))
    ∙ ap (λ f. stopped (stopped (below ++ word_places n es) ++ word f ∷ []))
    (length_both g.functions (map word_function es) n (length es) (min (n + length es) 4294967295) refl (length-map es word_function) refl)))

-- A place that is added, from the numbers of functions and places that the source below answered.
pub word_head : (e : Entry) (p n m n' m' r : ℕ) → r ≡ min (n' + (p - m')) 4294967295 → n' ≡ n → m' ≡ m
    → ◌≡◌ {A = Option Place} (Some (record { result = e.category; function = r })) (Some (head_of (word_production (n + (p - m)) e)))
word_head e p n m n' m' r is functions places =
    ap (λ f. Some (record { result = e.category; function = f }))
    (is ∙ (ap (λ k. min (k + (p - m')) 4294967295) functions ∙ ap (λ k. min (n + (p - k)) 4294967295) places))

-- What a call tells that ends as another ended: p is how that one did, and r how the call does.
pub ended : {T E U F P Q Q' Done : Type 0} {Refused : F → Type 0} (p : Result T E) (r : Result U F) → is_ok r ≡ is_ok p → OnOk p P → OnErr p Q → OnErr p Q' → (IsOk p → P → Done) → ((x : F) → Q → Q' → Refused x) → MatchResult r (λ _. Done) Refused
ended (Ok y) (Ok x) same p q q' done refused = done refl p
ended (Ok y) (Err x) same p q q' done refused = absurd (false≢true same)
ended (Err y) (Ok x) same p q q' done refused = absurd (false≢true (sym same))
ended (Err y) (Err x) same p q q' done refused = refused x q q'

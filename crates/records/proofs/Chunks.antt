-- The numbers and the symbols of a body are its chunks of two and of four bytes, read one by one. Assumes nothing.
use Rattle.std.proofs.Common.{◌≡◌, ℕ, suc, ◌+◌, ◌*◌, ◌/◌, List, [], ◌∷◌, map, length, Some, None, Option, IsSomeAnd, MatchOption, Bor, sym, refl, ap, ◌∙◌, arith}
use Rattle.std.proofs.lemmas.Option.{slice_get-map, slice_get_past, slice_get_read}
use Rattle.std.specs.List.{slice_get}
use Rattle.std.specs.Option.{option_map}
use Rattle.std.specs.Slice.{IsItemAt}
use Rattle.std.specs.Simd.{first_chunks}
use Rattle.grammar.specs.declared.Symbol.{Symbol}
use Rattle.records.specs.Meaning.{words_in, symbol_of, symbols_in}
use Rattle.records.specs.Records.{word_at}

-- the number that stands first in some bytes
abbrev pub word_of : List ℕ → ℕ
word_of bs = word_at bs 0

-- the symbol that stands first in some bytes
abbrev pub symbol_read : List ℕ → Symbol
symbol_read bs = symbol_of (word_at bs 0) (word_at bs 2)

pub words_are : (bs : List ℕ) → map word_of (first_chunks 2 (length bs / 2) bs) ≡ words_in bs
words_are [] = refl
words_are (a ∷ []) = refl
words_are (a ∷ b ∷ bs) =
    let more : suc (suc (length bs)) / 2 ≡ suc (length bs / 2) = omega arith in
    ap (λ n. map word_of (first_chunks 2 n (a ∷ b ∷ bs))) more
    ∙ ap (λ ws. (a + 256 * b) ∷ ws) (words_are bs)

pub symbols_are : (bs : List ℕ) → map symbol_read (first_chunks 4 (length bs / 4) bs) ≡ symbols_in (words_in bs)
symbols_are [] = refl
symbols_are (a ∷ []) = refl
symbols_are (a ∷ b ∷ []) = refl
symbols_are (a ∷ b ∷ c ∷ []) = refl
symbols_are (a ∷ b ∷ c ∷ d ∷ bs) =
    let more : suc (suc (suc (suc (length bs)))) / 4 ≡ suc (length bs / 4) = omega arith in
    ap (λ n. map symbol_read (first_chunks 4 n (a ∷ b ∷ c ∷ d ∷ bs))) more
    ∙ ap (λ ss. symbol_of (a + 256 * b) (c + 256 * d) ∷ ss) (symbols_are bs)

-- what `get` lends out is what stands there
pub lent : {X : Type 0} (xs : List X) (i : ℕ) (r : Option (Bor X)) → IsItemAt xs i r → option_map (λ x. x.now) r ≡ slice_get xs i
lent xs i None h = sym (slice_get_past xs i h.3)
lent xs i (Some x) h = sym (slice_get_read xs (length xs) i x.now refl h.3.0 h.1)

-- what is made of it, by a call for each case
pub made_of_lent : {X Y : Type 0} (f : X → Y) (xs : List X) (i : ℕ) (r : Option (Bor X)) (y : Option Y) → IsItemAt xs i r → MatchOption r (y ≡ None) (λ x. IsSomeAnd y (λ z. z ≡ f x.now)) → y ≡ slice_get (map f xs) i
made_of_lent f xs i r y h m = same f r y m ∙ ap (option_map f) (lent xs i r h) ∙ sym (slice_get-map f xs i)
  where
    same : {X Y : Type 0} (f : X → Y) (r : Option (Bor X)) (y : Option Y) → MatchOption r (y ≡ None) (λ x. IsSomeAnd y (λ z. z ≡ f x.now)) → y ≡ option_map f (option_map (λ x. x.now) r)
    same f None y m = m
    same f (Some x) None m = absurd m
    same f (Some x) (Some z) m = ap Some m

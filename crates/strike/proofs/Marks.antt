-- What stands at a place once the marked ones are emptied. Assumes nothing.
use Rattle.std.proofs.Common.{◌≡◌, ℕ, zero, suc, ◌<◌, Bool, true, false, cond, List, [], ◌∷◌, length, get_or, set, replicate, Some, None, Option, sym, refl, ap, ◌∙◌, arith}
use Rattle.std.specs.Option.{option_flatten}
use Rattle.std.specs.List.{slice_get}
use Rattle.grammar.specs.Grammar.{Production}
use Rattle.strike.specs.Strike.{struck}

same_twice : {X : Type 0} (b : Bool) (x : X) → x ≡ cond b x x
same_twice true x = refl
same_twice false x = refl

pub length_struck : (ms : List Bool) (ps : List (Option Production)) → length ps ≡ length (struck ms ps)
length_struck [] ps = refl
length_struck (m ∷ ms) [] = refl
length_struck (m ∷ ms) (p ∷ ps) = ap suc (length_struck ms ps)

pub production_struck : (ms : List Bool) (ps : List (Option Production)) (i : ℕ)
    → option_flatten (slice_get (struck ms ps) i) ≡ cond (get_or ms i false) None (option_flatten (slice_get ps i))
production_struck [] ps i = refl
production_struck (m ∷ ms) [] i = same_twice (get_or (m ∷ ms) i false) None
production_struck (m ∷ ms) (p ∷ ps) zero = refl
production_struck (m ∷ ms) (p ∷ ps) (suc i) = production_struck ms ps i

-- An answer G about a place that is marked, and about one that is not.
pub at_marked : {Z : Type 0} (G : Option Production → Z) (ms : List Bool) (ps : List (Option Production)) (i : ℕ)
    → get_or ms i false ≡ true → G None ≡ G (option_flatten (slice_get (struck ms ps) i))
at_marked G ms ps i e = ap (λ b. G (cond b None (option_flatten (slice_get ps i)))) (sym e) ∙ ap G (sym (production_struck ms ps i))

pub at_unmarked : {Z : Type 0} (G : Option Production → Z) (ms : List Bool) (ps : List (Option Production)) (i : ℕ)
    → get_or ms i false ≡ false → G (option_flatten (slice_get ps i)) ≡ G (option_flatten (slice_get (struck ms ps) i))
at_unmarked G ms ps i e = ap (λ b. G (cond b None (option_flatten (slice_get ps i)))) (sym e) ∙ ap G (sym (production_struck ms ps i))

-- No marks leave the places as they are.
pub none_struck : (n : ℕ) (ps : List (Option Production)) → struck (replicate n false) ps ≡ ps
none_struck zero ps = refl
none_struck (suc n) [] = refl
none_struck (suc n) (p ∷ ps) = ap (λ qs. p ∷ qs) (none_struck n ps)

-- One more mark empties one more place.
pub more_struck : (ms : List Bool) (ps : List (Option Production)) (i : ℕ) → i < length ms
    → struck (set ms i true) ps ≡ set (struck ms ps) i None
more_struck [] ps i h = absurd (omega arith)
more_struck (m ∷ ms) [] zero h = refl
more_struck (m ∷ ms) [] (suc i) h = refl
more_struck (m ∷ ms) (p ∷ ps) zero h = refl
more_struck (m ∷ ms) (p ∷ ps) (suc i) h = ap (λ qs. cond m None p ∷ qs) (more_struck ms ps i (omega arith))

-- The first fault of a grammar, from those of its sorts.
use Rattle.std.proofs.Common.{◌≡◌, ℕ, zero, suc, ◌<◌, ◌≤◌, Bool, true, false, cond, leb, List, [], ◌∷◌, ◌++◌, map, length, Some, None, Option, sym, refl, ap, ◌∙◌, ⊎_elim, arith}
use Rattle.std.proofs.lemmas.Option.{slice_get_past}
use Rattle.std.proofs.lemmas.Bool.{cases_lt}
use Rattle.std.proofs.lemmas.Bool.Decides.{nat_tests}
use Rattle.std.specs.List.{slice_get}
use Rattle.grammar.specs.Grammar.{Grammar}
use Rattle.faults.specs.declared.refusal.Thing.{Thing}
use Rattle.faults.specs.declared.refusal.Thing.TheVariants.{Count, Category, Start, Function, Place}
use Rattle.faults.specs.declared.refusal.Fault.{Fault}
use Rattle.faults.specs.declared.refusal.Fault.TheVariants.{OverLimit, NamesNothing, DoesNotFit}
use Rattle.faults.specs.Faults.{over_limit, names_nothing, does_not_fit, all_counted, fault_of, first_things, first_fault, function_over}
use Rattle.faults.specs.Parts.{FunctionsWithin}
use Rattle.faults.specs.Tests.{there_and, or_else, first_of}
use Rattle.faults.proofs.Asked.{none_some}
use Rattle.faults.proofs.Order.{or_assoc, first_append, none_below}

abbrev first_among : Grammar → List Thing → Option Fault
first_among g xs = first_of (fault_of g) xs

whole : (g : Grammar) → first_fault g ≡ or_else (first_among g (map Count all_counted)) (or_else (first_among g (first_things Category (length g.dimensions))) (or_else (fault_of g Start) (or_else (first_among g (first_things Function (length g.functions))) (first_among g (first_things Place (length g.places))))))
whole g =
    let F = first_things Function (length g.functions) in
    let P = first_things Place (length g.places) in
    let K = first_things Category (length g.dimensions) in
    first_append (fault_of g) (map Count all_counted) (K ++ ((Start ∷ []) ++ (F ++ P)))
    ∙ ap (or_else (first_among g (map Count all_counted))) (first_append (fault_of g) K ((Start ∷ []) ++ (F ++ P))
    ∙ ap (or_else (first_among g K)) (ap (or_else (fault_of g Start)) (first_append (fault_of g) F P)))

-- the sorts one after another, each asked only where those before it have none
pub sorts_first : (g : Grammar) (a b c d r : Option Fault) → a ≡ first_among g (map Count all_counted) → b ≡ or_else a (first_among g (first_things Category (length g.dimensions))) → c ≡ or_else b (fault_of g Start)
    → d ≡ or_else c (first_among g (first_things Function (length g.functions))) → r ≡ or_else d (first_among g (first_things Place (length g.places))) → r ≡ first_fault g
sorts_first g a b c d r ea eb ec ed er =
    let K = first_among g (first_things Category (length g.dimensions)) in
    let S = fault_of g Start in
    let F = first_among g (first_things Function (length g.functions)) in
    let P = first_among g (first_things Place (length g.places)) in
    er
    ∙ (ap (λ o. or_else o P) ed
    ∙ (sym (or_assoc c F P)
    ∙ (ap (λ o. or_else o (or_else F P)) ec
    ∙ (sym (or_assoc b S (or_else F P))
    ∙ (ap (λ o. or_else o (or_else S (or_else F P))) eb
    ∙ (sym (or_assoc a K (or_else S (or_else F P))) ∙ (ap (λ o. or_else o (or_else K (or_else S (or_else F P)))) ea ∙ sym (whole g))))))))

-- a thing without a fault passes each test
pub tests_pass : (g : Grammar) (x : Thing) → fault_of g x ≡ None → (over_limit g x ≡ false) × (names_nothing g x ≡ false) × (does_not_fit g x ≡ false)
tests_pass g x h =
    let a = passes (over_limit g x) (OverLimit x) (cond (names_nothing g x) (Some (NamesNothing x)) (cond (does_not_fit g x) (Some (DoesNotFit x)) None)) h in
    let b = passes (names_nothing g x) (NamesNothing x) (cond (does_not_fit g x) (Some (DoesNotFit x)) None) a.1 in
    let c = passes (does_not_fit g x) (DoesNotFit x) None b.1 in
    (a.0, b.0, c.0)
  where
    passes : {Y : Type 0} (t : Bool) (y : Y) (o : Option Y) → cond t (Some y) o ≡ None → (t ≡ false) × (o ≡ None)
    passes true y o h = absurd (none_some y h)
    passes false y o h = (refl, h)

pub functions_within : (g : Grammar) → None ≡ first_among g (first_things Function (length g.functions)) → FunctionsWithin g
functions_within g h f =
    ⊎_elim (λ (l : f < length g.functions). (tests_pass g (Function f) (none_below (fault_of g) Function (length g.functions) f (sym h) l)).0)
    (λ (l : length g.functions ≤ f). ap (there_and function_over) (slice_get_past g.functions f l))
    (cases_lt f (length g.functions))

-- a number names something just where it is below the length
pub nothing_there : {X : Type 0} (xs : List X) (i : ℕ) → None ≡ slice_get xs i → leb (length xs) i ≡ true
nothing_there [] i h = grind (arith, nat_tests)
nothing_there (x ∷ xs) zero h = absurd (none_some x (sym h))
nothing_there (x ∷ xs) (suc i) h = let e = nothing_there xs i h in grind (arith, nat_tests)

pub something_there : {X : Type 0} (xs : List X) (i : ℕ) (y : X) → Some y ≡ slice_get xs i → leb (length xs) i ≡ false
something_there [] i y h = absurd (none_some y h)
something_there (x ∷ xs) zero y h = grind (arith, nat_tests)
something_there (x ∷ xs) (suc i) y h = let e = something_there xs i y h in grind (arith, nat_tests)

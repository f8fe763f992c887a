-- The lists of two things, or of two faults, are equal only if these are. Assumes nothing.
use Rattle.std.proofs.Common.{◌≡◌, ℕ, cond, eqb, List, get_or, sym, refl, ap, ◌∙◌}
use Rattle.faults.specs.declared.refusal.Counted.{Counted}
use Rattle.faults.specs.declared.refusal.Counted.TheVariants.{Tokens, Categories, Functions, Places}
use Rattle.faults.specs.declared.refusal.Thing.{Thing}
use Rattle.faults.specs.declared.refusal.Thing.TheVariants.{Count, Category, Start, Function, Place}
use Rattle.faults.specs.declared.refusal.Fault.{Fault}
use Rattle.faults.specs.declared.refusal.Fault.TheVariants.{OverLimit, NamesNothing, DoesNotFit, NoStartTree}
use Rattle.faults.specs.Listed.{counted_number, thing_listed, fault_listed}

abbrev counted_from : ℕ → Counted
counted_from n = cond (eqb n 0) Tokens (cond (eqb n 1) Categories (cond (eqb n 2) Functions Places))

counted_back : (k : Counted) → counted_from (counted_number k) ≡ k
counted_back Tokens = refl
counted_back Categories = refl
counted_back Functions = refl
counted_back Places = refl

-- The thing of this sort and number.
abbrev thing_from : ℕ → ℕ → Thing
thing_from sort n = cond (eqb sort 0) (Count (counted_from n)) (cond (eqb sort 1) (Category n) (cond (eqb sort 2) Start (cond (eqb sort 3) (Function n) (Place n))))

thing_back : (x : Thing) → thing_from (get_or (thing_listed x) 0 0) (get_or (thing_listed x) 1 0) ≡ x
thing_back (Count k) = ap Count (counted_back k)
thing_back (Category c) = refl
thing_back Start = refl
thing_back (Function f) = refl
thing_back (Place p) = refl

abbrev fault_from_lem : ℕ → Thing → Fault
fault_from_lem number x = cond (eqb number 4) (OverLimit x) (cond (eqb number 5) (NamesNothing x) (cond (eqb number 6) (DoesNotFit x) NoStartTree))

abbrev listed_fault : List ℕ → Fault
listed_fault ns = fault_from_lem (get_or ns 0 0) (thing_from (get_or ns 1 0) (get_or ns 2 0))

fault_back : (f : Fault) → listed_fault (fault_listed f) ≡ f
fault_back (OverLimit x) = ap OverLimit (thing_back x)
fault_back (NamesNothing x) = ap NamesNothing (thing_back x)
fault_back (DoesNotFit x) = ap DoesNotFit (thing_back x)
fault_back NoStartTree = refl

pub things_apart : (x y : Thing) → thing_listed x ≡ thing_listed y → x ≡ y
things_apart x y e = sym (thing_back x) ∙ (ap (λ (ns : List ℕ). thing_from (get_or ns 0 0) (get_or ns 1 0)) e ∙ thing_back y)

pub faults_apart : (x y : Fault) → fault_listed x ≡ fault_listed y → x ≡ y
faults_apart x y e = sym (fault_back x) ∙ (ap listed_fault e ∙ fault_back y)

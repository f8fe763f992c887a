-- What the check before opening concludes.
use Rattle.std.proofs.Common.{◌≡◌, ℕ, Bool, true, false, cond, List, [], ◌∷◌, Some, None, Option, Ok, Err, Result, sym, subst, ◌∙◌, arith, MatchOption}
use Rattle.std.specs.Result.{MatchResult, result_ok}
use Rattle.grammar.specs.Grammar.{Grammar}
use Rattle.grammar.specs.Trees.{Tree, TreeOf, StartTree}
use Rattle.faults.specs.declared.refusal.Thing.{Thing}
use Rattle.faults.specs.declared.refusal.Fault.{Fault}
use Rattle.faults.specs.declared.refusal.Fault.TheVariants.{OverLimit, NamesNothing, DoesNotFit, NoStartTree}
use Rattle.faults.specs.Faults.{over_limit, names_nothing, does_not_fit, fault_of, things, first_fault}
use Rattle.faults.specs.Sound.{Sound}
use Rattle.faults.proofs.Asked.{none_some}
use Rattle.faults.proofs.Exact.{sound_faultless}
use Rattle.soundness.specs.Dead.{TreeTold}
use Rattle.soundness.specs.Opening.{Refused}
use Rattle.faults.specs.Tests.{or_else, first_of}

-- a fault of a thing is never the want of a start tree
not_seven : (g : Grammar) (x : Thing) → fault_of g x ≡ Some NoStartTree → ⊥
not_seven g x e = by_tests (over_limit g x) (names_nothing g x) (does_not_fit g x) e
  where
    by_tests : (a b c : Bool) → cond a (Some (OverLimit x)) (cond b (Some (NamesNothing x)) (cond c (Some (DoesNotFit x)) None)) ≡ Some NoStartTree → ⊥
    by_tests true b c e = let z : ◌≡◌ {A = ℕ} 0 1 = cc in omega arith
    by_tests false true c e = let z : ◌≡◌ {A = ℕ} 0 1 = cc in omega arith
    by_tests false false true e = let z : ◌≡◌ {A = ℕ} 0 1 = cc in omega arith
    by_tests false false false e = let z : ◌≡◌ {A = ℕ} 0 1 = cc in omega arith

none_seven : (g : Grammar) (xs : List Thing) → first_of (fault_of g) xs ≡ Some NoStartTree → ⊥
none_seven g [] e = let z : ◌≡◌ {A = ℕ} 0 1 = cc in omega arith
none_seven g (x ∷ xs) e = by_first (fault_of g x) (first_of (fault_of g) xs) (not_seven g x) (none_seven g xs) e
  where
    by_first : (a b : Option Fault) → (a ≡ Some NoStartTree → ⊥) → (b ≡ Some NoStartTree → ⊥) → or_else a b ≡ Some NoStartTree → ⊥
    by_first None b p q e = q e
    by_first (Some y) b p q e = p e

pub refused_first : (g : Grammar) (f : Fault) → first_fault g ≡ Some f → Refused g f
refused_first g (OverLimit x) e = e
refused_first g (NamesNothing x) e = e
refused_first g (DoesNotFit x) e = e
refused_first g NoStartTree e = absurd (none_seven g (things g) e)

pub start_tree : (g : Grammar) (s : ℕ) → s ≡ g.start → TreeTold g s true → (t : Tree) × StartTree g t
start_tree g s e h = (h.0, subst (TreeOf g h.0) e h.1)

pub refused_want : (g : Grammar) (s : ℕ) → first_fault g ≡ None → s ≡ g.start → TreeTold g s false → Refused g NoStartTree
refused_want g s f e h = (f, λ t u. h t (subst (TreeOf g t) (sym e) u))

-- what the answer that the grammar has no fault, or which is its first, says of the value that is kept of it
pub passed : (g : Grammar) {T : Type 0} (P : T → Type 0) (r : Result T Fault) (o : Option T) → o ≡ result_ok r → MatchResult r P (λ f. first_fault g ≡ Some f) → MatchOption o (Sound g → ⊥) P
passed g P (Ok x) o e h = subst (λ y. MatchOption y (Sound g → ⊥) P) (sym e) h
passed g P (Err f) o e h = subst (λ y. MatchOption y (Sound g → ⊥) P) (sym e) (λ s. none_some f (sym h ∙ sound_faultless g s))

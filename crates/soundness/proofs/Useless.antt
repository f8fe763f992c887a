-- Which categories have a tree, and which places are dead, from the least heights. Assumes nothing.
use Rattle.std.proofs.Common.{◌≡◌, ℕ, suc, Bool, true, false, not, ◌||◌, ltb, List, [], ◌∷◌, take, get_or, Some, None, Option, unwrap_or, sym, refl, ap, ◌∙◌, subst, arith}
use Rattle.std.proofs.lemmas.List.{take_all}
use Rattle.std.proofs.lemmas.Bool.{ltb-false, ltb-true, or_parts, false≢true, not-false}
use Rattle.std.specs.List.{slice_get, AllByRecursion}
use Rattle.std.specs.Option.{option_map}
use Rattle.grammar.specs.Grammar.{Grammar, Production, production_at}
use Rattle.faults.specs.Sound.{Sound}
use Rattle.faults.specs.Parts.{arguments_of}
use Rattle.faults.specs.Tests.{some_of}
use Rattle.faults.proofs.Asked.{none_some, same_some}
use Rattle.faults.proofs.Made.{arguments_few}
use Rattle.soundness.specs.Dead.{TreeTold, DeadTold}
use Rattle.soundness.specs.Heights.{LeastHeight, LeastHeights}

told : (g : Grammar) (c h : ℕ) → LeastHeight g c h → TreeTold g c (ltb 0 h)
told g c h l = go (ltb 0 h) refl
  where
    go : (b : Bool) → ltb 0 h ≡ b → TreeTold g c b
    go true e = let t = l.some (ltb-true 0 h e) in (t.0, t.1)
    go false e = l.none (omega (arith, ltb-false 0 h e))

pub told_at : (g : Grammar) (c : ℕ) (hs : List ℕ) → LeastHeights g hs → TreeTold g c (ltb 0 (get_or hs c 0))
told_at g c hs l = told g c (get_or hs c 0) (l c)

-- by the least heights the category has no tree
abbrev pub treeless : List ℕ → ℕ → Bool
treeless hs c = not (ltb 0 (get_or hs c 0))

no_tree : (g : Grammar) (c : ℕ) (hs : List ℕ) → LeastHeights g hs → treeless hs c ≡ true → TreeTold g c false
no_tree g c hs l e = go (ltb 0 (get_or hs c 0)) (told_at g c hs l) e
  where
    go : (b : Bool) → TreeTold g c b → not b ≡ true → TreeTold g c false
    go true t e = absurd (false≢true e)
    go false t e = t

-- the element that passes
passing : (p : ℕ → Bool) (xs : List ℕ) → some_of p xs ≡ true → (i : ℕ) × (c : ℕ) × (slice_get xs i ≡ Some c) × (p c ≡ true)
passing p [] e = absurd (false≢true e)
passing p (x ∷ xs) e = go (p x) refl (λ h. passing p xs (sym (ap (λ b. b || some_of p xs) h) ∙ e))
  where
    go : (b : Bool) → p x ≡ b → (p x ≡ false → (i : ℕ) × (c : ℕ) × (slice_get xs i ≡ Some c) × (p c ≡ true)) → (i : ℕ) × (c : ℕ) × (slice_get (x ∷ xs) i ≡ Some c) × (p c ≡ true)
    go true h rest = (0, x, refl, h)
    go false h rest = let t = rest h in (suc t.0, t.1, t.2, t.3)

all_trees : (g : Grammar) (hs : List ℕ) → LeastHeights g hs → (xs : List ℕ) → some_of (treeless hs) xs ≡ false → AllByRecursion (λ c. TreeTold g c true) xs
all_trees g hs l [] e = tt
all_trees g hs l (x ∷ xs) e =
    let b = or_parts (treeless hs x) (some_of (treeless hs) xs) e in
    (subst (TreeTold g x) (not-false (ltb 0 (get_or hs x 0)) b.0) (told_at g x hs l), all_trees g hs l xs b.1)

pub dead_told : (g : Grammar) (p : ℕ) (hs : List ℕ) (r : Bool) → Sound g → LeastHeights g hs → r ≡ some_of (treeless hs) (take 3 (arguments_of g p)) → DeadTold g p r
dead_told g p hs r s l e = by_production r (production_at g p) refl e
  where
    by_production : (r : Bool) (o : Option Production) → production_at g p ≡ o → r ≡ some_of (treeless hs) (take 3 (unwrap_or (option_map (λ q. q.arguments) o) [])) → DeadTold g p r
    by_production true None h e = absurd (false≢true (sym e))
    by_production false None h e = λ q k. absurd (none_some q (sym k ∙ h))
    by_production true (Some q) h e =
        let t = passing (treeless hs) q.arguments (sym (e ∙ ap (some_of (treeless hs)) (take_all 3 q.arguments (arguments_few g s p q h)))) in
        (q, h, (t.0, t.1, t.2, no_tree g t.1 hs l t.3))
    by_production false (Some q) h e = λ x k.
        let same : q ≡ x = same_some q x (sym h ∙ k) in
        subst (λ y. AllByRecursion (λ c. TreeTold g c true) y.arguments) same (all_trees g hs l q.arguments (sym (e ∙ ap (some_of (treeless hs)) (take_all 3 q.arguments (arguments_few g s p q h)))))

-- What `find_map` gives: the first answer that is there.
use Rattle.std.proofs.Common.{◌≡◌, ℕ, suc, ◌+◌, ◌<◌, List, [], ◌∷◌, map, Some, None, Option, sym, refl, ap, ◌∙◌, subst}
use Rattle.std.specs.Fn.{Called}
use Rattle.std.specs.Iterator.{AlwaysYields, Yields, YieldsThen, DrainsIf, FindsMapped}
use Rattle.std.specs.Iterator.Runs.{SomeRun, AllItemsGive, IsFirstToGive}
use Rattle.std.specs.List.{slice_get, FoldsTo}
use Rattle.std.specs.Bool.{IsTrue}
use Rattle.std.specs.Option.{MatchOption, IfSome}
use Rattle.std.proofs.iter.runs.Made.{took, at-is}
use Rattle.std.proofs.lemmas.Iterator.{YieldsList, items_from_drains}
use denote.Param.Members.{Mut}
use Rattle.faults.specs.Tests.{or_else, first_of}
use Rattle.faults.proofs.Asked.{none_some}

module _ {S A B F Y : Type 0} (steps : S → Option A → S → Type 0) (v : A → B) (g : Mut F (A × Unit {0}) (Option Y)) (h : B → Option Y) (f : F) (calls : (x : A) (b : Option Y) (q : F) → Called g f (x, tt) b q → (q ≡ f) × (b ≡ h (v x))) where
  -- the call that answered, after calls that did not
  answered : (y : Y) (xs : List A) (all : List B) (s u : S) (o : Option A) (p j : F) → p ≡ f → AlwaysYields steps v s all → YieldsThen steps s xs o u → FoldsTo (λ p x q. Called g p (x, tt) None q) p xs j
      → MatchOption o (Some y ≡ None) (λ x. (k : F) × Called g j (x, tt) (Some y) k) → Some y ≡ first_of h all
  answered y [] all s u None p j e a t c m = absurd (none_some y m)
  answered y [] [] s u (Some x) p j e a t c m = absurd (a x u (subst (λ w. steps w (Some x) u) (sym t.1) t.2))
  answered y [] (z ∷ zs) s u (Some x) p j e a t c m =
      let here = calls x (Some y) m.0 (subst (λ w. Called g w (x, tt) (Some y) m.0) (sym c ∙ e) m.1) in
      let at = (a.1 x u (subst (λ w. steps w (Some x) u) (sym t.1) t.2)).0 in
      sym (ap (λ w. or_else w (first_of h zs)) (sym (here.1 ∙ ap h at)))
  answered y (x ∷ xs) [] s u o p j e a t c m = absurd (a x t.1.0 t.1.1)
  answered y (x ∷ xs) (z ∷ zs) s u o p j e a t c m =
      let here = calls x None c.0 (subst (λ w. Called g w (x, tt) None c.0) e c.1) in
      let at = a.1 x t.1.0 t.1.1 in
      answered y xs zs t.1.0 u o c.0 j here.0 at.1 (t.0, t.1.2, t.2) c.2 m ∙ ap (λ w. or_else w (first_of h zs)) (here.1 ∙ ap h at.0)

  none_answered : (xs : List A) → ((k : ℕ) → IfSome (slice_get xs k) (λ x. Called g f (x, tt) None f)) → None ≡ first_of h (map v xs)
  none_answered [] n = refl
  none_answered (x ∷ xs) n = none_answered xs (λ k. n (suc k)) ∙ ap (λ w. or_else w (first_of h (map v xs))) (calls x None f (n 0)).1

pub first_from_find_map : {S A B F Y : Type 0} {steps : S → Option A → S → Type 0} {v : A → B} {g : Mut F (A × Unit {0}) (Option Y)} {all : List B} (h : B → Option Y) (f : F) (s u : S) (r : Option Y) → FindsMapped steps g s f r u
    → SomeRun steps s (λ p. MatchOption r (IsTrue p.whole × AllItemsGive p g f None) (λ y. (i : ℕ) × (i < p.len) × (p.len ≡ i + 1) × IsFirstToGive p g f (Some y) None i)) → YieldsList steps v s all
    → ((x : A) (b : Option Y) (q : F) → Called g f (x, tt) b q → (q ≡ f) × (b ≡ h (v x))) → r ≡ first_of h all
first_from_find_map {steps = steps} {v = v} {g = g} {all = all} h f s u (Some y) ran runs e calls = answered steps v g h f calls y ran.0 all s u ran.1 f ran.2 refl e.runs ran.3 ran.4 ran.5
first_from_find_map {steps = steps} {v = v} {g = g} {all = all} h f s u None ran runs e calls =
    let p = runs.0 in
    let t = took p in
    let drained : DrainsIf steps (Unit {0}) s p.items = (t.0, subst (λ w. Yields steps w p.items t.0) runs.1 t.1, λ _. t.2 runs.2.0) in
    let each : (k : ℕ) → IfSome (slice_get p.items k) (λ x. Called g f (x, tt) None f) = λ k. subst (λ o. IfSome o (λ x. Called g f (x, tt) None f)) (at-is p k) (runs.2.1 (λ a r q c. (calls a.0 r q c).0) k) in
    none_answered steps v g h f calls p.items each ∙ ap (first_of h) (items_from_drains p.items drained e)

-- The combinations of several lists are the choices of one element from each, and none stands twice. Assumes nothing.
use Rattle.std.proofs.Common.{List, [], ◌∷◌, map, sym, refl, ◌∙◌, subst, ⊎_elim}
use mathlib.Core.HLevel.{⊥_prop}
use mathlib.Core.Logic.{∥∥₁_elim}
use mathlib.Core.List.Memᴰ
use mathlib.Core.List.Pairwise
use mathlib.Core.List.{Memᴰ, Nodup, Nodup-append, Nodup-cons, not-mem-nil, head-eq_of_cons-eq, tail-eq_of_cons-eq}
use Rattle.std.specs.List.{flat_map}
use Rattle.algebra.specs.Combinations.{combinations, Chosen}
use Rattle.algebra.specs.Theorems.{CombinationsAreChoices, CombinationsAreDistinct}

-- what stands in a concatenation of many lists stands in one of them
pub of_joined : {X Y : Type 0} (lists : X → List Y) (xs : List X) (y : Y) → Memᴰ y (flat_map lists xs) → (x : X) × Memᴰ x xs × Memᴰ y (lists x)
of_joined lists [] y m = absurd (Memᴰ.not-nil m)
of_joined lists (x ∷ xs) y m =
    ⊎_elim (λ here. (x, Memᴰ.head refl, here)) (λ later. let part = of_joined lists xs y later in (part.0, Memᴰ.tail part.1, part.2))
    (Memᴰ.append_cases (lists x) m)

pub in_joined : {X Y : Type 0} (lists : X → List Y) (xs : List X) (y : Y) (x : X) → Memᴰ x xs → Memᴰ y (lists x) → Memᴰ y (flat_map lists xs)
in_joined lists [] y x m k = absurd (Memᴰ.not-nil m)
in_joined lists (z ∷ xs) y x (Memᴰ.head e) k = Memᴰ.append_left (flat_map lists xs) (subst (λ a. Memᴰ y (lists a)) e k)
in_joined lists (z ∷ xs) y x (Memᴰ.tail m) k = Memᴰ.append_right (lists z) (in_joined lists xs y x m k)

module _ {X : Type 0} where
  choice_from_combination : (xss : List (List X)) (chosen : List X) → Memᴰ chosen (combinations xss) → Chosen chosen xss
  choice_from_combination [] chosen m = subst (λ (c : List X). Chosen c []) (sym (Memᴰ.eq_of_singleton m)) tt
  choice_from_combination (xs ∷ xss) chosen m =
      let part = of_joined (λ x. map (λ c. x ∷ c) (combinations xss)) xs chosen m in
      let rest = Memᴰ.of_map (λ c. part.0 ∷ c) (combinations xss) part.2 in
      subst (λ (c : List X). Chosen c (xs ∷ xss)) rest.2 (part.1, choice_from_combination xss rest.0 rest.1)

  combination_from_choice : (xss : List (List X)) (chosen : List X) → Chosen chosen xss → Memᴰ chosen (combinations xss)
  combination_from_choice [] [] c = Memᴰ.head refl
  combination_from_choice [] (x ∷ chosen) c = absurd c
  combination_from_choice (xs ∷ xss) [] c = absurd c
  combination_from_choice (xs ∷ xss) (x ∷ chosen) c =
      in_joined (λ y. map (λ d. y ∷ d) (combinations xss)) xs (x ∷ chosen) x c.0 (Memᴰ.map (λ d. x ∷ d) (combination_from_choice xss chosen c.1))

  pub combinations_are_choices : CombinationsAreChoices X
  combinations_are_choices xss chosen = (choice_from_combination xss chosen, combination_from_choice xss chosen)

  -- one element before each of several lists
  before_each : (x : X) (cs : List (List X)) → Nodup cs → Nodup (map (λ c. x ∷ c) cs)
  before_each x [] once = Pairwise.nil
  before_each x (c ∷ cs) once =
      Nodup-cons.1 (
        λ m. ∥∥₁_elim m ⊥_prop (λ k. let same = Memᴰ.of_map (λ d. x ∷ d) cs k in (Nodup-cons.0 once).0 ∣ Memᴰ.cast (sym (tail-eq_of_cons-eq same.2)) same.1 ∣₁),
        before_each x cs (Nodup-cons.0 once).1,
      )

  each_before_each : (cs : List (List X)) → Nodup cs → (xs : List X) → Nodup xs → Nodup (flat_map (λ x. map (λ c. x ∷ c) cs) xs)
  each_before_each cs once [] none = Pairwise.nil
  each_before_each cs once (x ∷ xs) apart =
      Nodup-append.1 (
        before_each x cs once,
        each_before_each cs once xs (Nodup-cons.0 apart).1,
        λ a m k. ∥∥₁_elim m ⊥_prop (λ here. ∥∥₁_elim k ⊥_prop (λ there.
            let first = Memᴰ.of_map (λ c. x ∷ c) cs here in
            let other = of_joined (λ y. map (λ c. y ∷ c) cs) xs a there in
            let second = Memᴰ.of_map (λ c. other.0 ∷ c) cs other.2 in
            (Nodup-cons.0 apart).0 ∣ Memᴰ.cast (head-eq_of_cons-eq (first.2 ∙ sym second.2)) other.1 ∣₁)),
      )

  pub combinations_are_distinct : CombinationsAreDistinct X
  combinations_are_distinct [] distinct = Nodup-cons.1 (not-mem-nil, Pairwise.nil)
  combinations_are_distinct (xs ∷ xss) distinct = each_before_each (combinations xss) (combinations_are_distinct xss distinct.1) xs distinct.0

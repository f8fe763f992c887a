-- Lists that hold each member once, and what `map`, `joined`, `kept_by` and `combinations` hold. Assumes nothing.
use Rattle.std.proofs.Common.{◌≡◌, ℕ, Bool, true, false, cond, ◌⊎◌, List, [], ◌∷◌, ◌++◌, map, filter, sym, refl, ap, ◌∙◌, subst, inl, inr, arith}
use Rattle.std.specs.List.{flat_map, AllByRecursion}
use Rattle.algebra.specs.Combinations.{combinations}
use Rattle.chart.specs.Chart.{Member, Apart}

pub in_left : {X : Type 0} (x : X) (xs ys : List X) → Member x xs → Member x (xs ++ ys)
in_left x [] ys m = absurd m
in_left x (y ∷ xs) ys (inl e) = inl e
in_left x (y ∷ xs) ys (inr m) = inr (in_left x xs ys m)

pub in_right : {X : Type 0} (x : X) (xs ys : List X) → Member x ys → Member x (xs ++ ys)
in_right x [] ys m = m
in_right x (y ∷ xs) ys m = inr (in_right x xs ys m)

pub of_append : {X : Type 0} (x : X) (xs ys : List X) → Member x (xs ++ ys) → Member x xs ⊎ Member x ys
of_append x [] ys m = inr m
of_append x (y ∷ xs) ys (inl e) = inl (inl e)
of_append x (y ∷ xs) ys (inr m) = elim (of_append x xs ys m) [ inl a ↦ inl (inr a) | inr b ↦ inr b ]

pub in_map : {X Y : Type 0} (f : X → Y) (x : X) (xs : List X) → Member x xs → Member (f x) (map f xs)
in_map f x [] m = absurd m
in_map f x (y ∷ xs) (inl e) = inl (ap f e)
in_map f x (y ∷ xs) (inr m) = inr (in_map f x xs m)

pub of_map : {X Y : Type 0} (f : X → Y) (y : Y) (xs : List X) → Member y (map f xs) → (x : X) × Member x xs × (y ≡ f x)
of_map f y [] m = absurd m
of_map f y (x ∷ xs) (inl e) = (x, inl refl, e)
of_map f y (x ∷ xs) (inr m) = let r = of_map f y xs m in (r.0, inr r.1, r.2)

pub in_joined : {X Y : Type 0} (f : X → List Y) (x : X) (y : Y) (xs : List X) → Member x xs → Member y (f x) → Member y (flat_map f xs)
in_joined f x y [] m n = absurd m
in_joined f x y (z ∷ xs) (inl e) n = in_left y (f z) (flat_map f xs) (subst (λ v. Member y (f v)) e n)
in_joined f x y (z ∷ xs) (inr m) n = in_right y (f z) (flat_map f xs) (in_joined f x y xs m n)

pub of_joined : {X Y : Type 0} (f : X → List Y) (y : Y) (xs : List X) → Member y (flat_map f xs) → (x : X) × Member x xs × Member y (f x)
of_joined f y [] m = absurd m
of_joined f y (z ∷ xs) m = elim (of_append y (f z) (flat_map f xs) m) [
  | inl a ↦ (z, inl refl, a)
  | inr b ↦ let r = of_joined f y xs b in (r.0, inr r.1, r.2)
]

pub apart_append : {X : Type 0} (xs ys : List X) → Apart xs → Apart ys → ((x : X) → Member x xs → Member x ys → ⊥) → Apart (xs ++ ys)
apart_append [] ys a b n = b
apart_append (x ∷ xs) ys a b n = (
  (λ m. elim (of_append x xs ys m) [ inl p ↦ a.0 p | inr q ↦ n x (inl refl) q ]),
  apart_append xs ys a.1 b (λ z p q. n z (inr p) q),
)

pub apart_map : {X Y : Type 0} (f : X → Y) → ((x y : X) → f x ≡ f y → x ≡ y) → (xs : List X) → Apart xs → Apart (map f xs)
apart_map f inj [] a = tt
apart_map f inj (x ∷ xs) a = (
  (λ m. let r = of_map f (f x) xs m in a.0 (subst (λ v. Member v xs) (sym (inj x r.0 r.2)) r.1)),
  apart_map f inj xs a.1,
)

-- Where each part is apart and no two parts share a member.
pub apart_joined : {X Y : Type 0} (f : X → List Y) (xs : List X) → Apart xs → ((x : X) → Member x xs → Apart (f x))
    → ((x z : X) (y : Y) → Member x xs → Member z xs → Member y (f x) → Member y (f z) → x ≡ z) → Apart (flat_map f xs)
apart_joined f [] a each one = tt
apart_joined f (x ∷ xs) a each one =
    apart_append (f x) (flat_map f xs) (each x (inl refl)) (apart_joined f xs a.1 (λ z m. each z (inr m)) (λ u v y m n. one u v y (inr m) (inr n)))
    (λ y m n. let r = of_joined f y xs n in a.0 (subst (λ v. Member v xs) (sym (one x r.0 y (inl refl) (inr r.1) m r.2)) r.1))

keep_in : {X : Type 0} (p : X → Bool) (x y : X) (ks : List X) (b : Bool) → p y ≡ b → p x ≡ true → (x ≡ y) ⊎ Member x ks → Member x (cond b (y ∷ ks) ks)
keep_in p x y ks true f e m = m
keep_in p x y ks false f e (inl q) = absurd (let c : p x ≡ p y = ap p q in let z : ◌≡◌ {A = ℕ} 0 1 = cc in omega arith)
keep_in p x y ks false f e (inr n) = n

of_keep : {X : Type 0} (p : X → Bool) (x y : X) (ks : List X) (b : Bool) → p y ≡ b → Member x (cond b (y ∷ ks) ks) → ((x ≡ y) × (p x ≡ true)) ⊎ Member x ks
of_keep p x y ks true f (inl q) = inl (q, ap p q ∙ f)
of_keep p x y ks true f (inr n) = inr n
of_keep p x y ks false f n = inr n

pub in_kept : {X : Type 0} (p : X → Bool) (x : X) (xs : List X) → Member x xs → p x ≡ true → Member x (filter p xs)
in_kept p x [] m e = absurd m
in_kept p x (y ∷ xs) (inl q) e = keep_in p x y (filter p xs) (p y) refl e (inl q)
in_kept p x (y ∷ xs) (inr n) e = keep_in p x y (filter p xs) (p y) refl e (inr (in_kept p x xs n e))

pub of_kept : {X : Type 0} (p : X → Bool) (x : X) (xs : List X) → Member x (filter p xs) → Member x xs × (p x ≡ true)
of_kept p x [] m = absurd m
of_kept p x (y ∷ xs) m = elim (of_keep p x y (filter p xs) (p y) refl m) [
  | inl a ↦ (inl a.0, a.1)
  | inr b ↦ let r = of_kept p x xs b in (inr r.0, r.1)
]

keep_apart : {X : Type 0} (y : X) (ks : List X) (b : Bool) → (¬ Member y ks) → Apart ks → Apart (cond b (y ∷ ks) ks)
keep_apart y ks true n a = (n, a)
keep_apart y ks false n a = a

pub apart_kept : {X : Type 0} (p : X → Bool) (xs : List X) → Apart xs → Apart (filter p xs)
apart_kept p [] a = tt
apart_kept p (x ∷ xs) a = keep_apart x (filter p xs) (p x) (λ m. a.0 (of_kept p x xs m).0) (apart_kept p xs a.1)

-- No combination stands twice where no list has an element twice.
pub apart_combinations : {X : Type 0} (xss : List (List X)) → AllByRecursion Apart xss → Apart (combinations xss)
apart_combinations [] a = ((λ m. m), tt)
apart_combinations (xs ∷ xss) a =
    apart_joined (λ x. map (λ c. x ∷ c) (combinations xss)) xs a.0
    (λ x m. apart_map (λ c. x ∷ c) (λ u v e. cc) (combinations xss) (apart_combinations xss a.1))
    (λ x z y m n p q.
    let r = of_map (λ c. x ∷ c) y (combinations xss) p in
    let k = of_map (λ c. z ∷ c) y (combinations xss) q in
    let e : x ∷ r.0 ≡ z ∷ k.0 = sym r.2 ∙ k.2 in
    cc)

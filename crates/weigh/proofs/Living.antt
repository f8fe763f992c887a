-- The live places of a sound grammar can be listed: `live_listed`.
use Rattle.std.proofs.Common.{◌≡◌, ℕ, zero, suc, ◌<◌, ◌≤◌, List, [], ◌∷◌, length, Some, None, Option, sym, refl, ap, ◌∙◌, subst, inl, inr, arith}
use native.Mathlib.Nat.{le-max_left, le-max_right, max-le}
use Rattle.std.proofs.lemmas.Bool.{cases_eq}
use Rattle.std.specs.List.{AllByRecursion}
use Rattle.grammar.specs.Grammar.{Grammar, Production, production_at}
use Rattle.grammar.specs.Trees.{Tree, node, Trees, none, more, TreeOf, TreesOf, height, heights}
use Rattle.faults.specs.Sound.{Sound}
use Rattle.chart.specs.Chart.{Enumerates}
use Rattle.chart.specs.Sums.{LivePlace}
use Rattle.chart.proofs.Faultless.{faultless_sound}
use Rattle.chart.proofs.Heights.{low_category}
use Rattle.weigh.proofs.Indexing.{place_inside}

module _ (g : Grammar) where
  -- the category has a tree of height at most h
  abbrev HasTree : ℕ → ℕ → Type 0
  HasTree h c = (t : Tree) × TreeOf g t c × (height t ≤ h)

  -- the place heads one
  abbrev Heads : ℕ → ℕ → ℕ → Type 0
  Heads h c p = (q : Production) × (production_at g p ≡ Some q) × (q.result ≡ c) × AllByRecursion (HasTree h) q.arguments

  all_dec : {X : Type 0} (P : X → Type 0) → ((x : X) → Dec (P x)) → (xs : List X) → Dec (AllByRecursion P xs)
  all_dec P d [] = yes tt
  all_dec P d (x ∷ xs) = elim (d x) [
    | yes a ↦ elim (all_dec P d xs) [ yes b ↦ yes (a, b) | no f ↦ no (λ h. f h.1) ]
    | no f ↦ no (λ h. f h.0)
  ]

  heads_dec : (h c p : ℕ) → ((d : ℕ) → Dec (HasTree h d)) → (o : Option Production) → production_at g p ≡ o → Dec (Heads h c p)
  heads_dec h c p dec None e = no (λ x. let f = sym e ∙ x.1 in let z : ◌≡◌ {A = ℕ} 0 1 = cc in omega arith)
  heads_dec h c p dec (Some q) e = elim (cases_eq q.result c) [
    | inl r ↦ elim (all_dec (HasTree h) dec q.arguments) [
      | yes a ↦ yes (q, e, r, a)
      | no f ↦ no (λ x. let s : x.0 ≡ q = (let o : Some x.0 ≡ Some q = sym x.1 ∙ e in cc) in f (subst (λ (v : Production). AllByRecursion (HasTree h) v.arguments) s x.3))
    ]
    | inr n ↦ no (λ x. let s : x.0 ≡ q = (let o : Some x.0 ≡ Some q = sym x.1 ∙ e in cc) in n (sym (ap (λ (v : Production). v.result) s) ∙ x.2))
  ]

  some_dec : (P : ℕ → Type 0) → ((p : ℕ) → Dec (P p)) → (n : ℕ) → Dec ((p : ℕ) × (p < n) × P p)
  some_dec P d zero = no (λ x. let lt = x.1 in omega arith)
  some_dec P d (suc n) = elim (d n) [
    | yes a ↦ yes (n, omega arith, a)
    | no f ↦ elim (some_dec P d n) [
      | yes b ↦ yes (b.0, omega (arith, b.1), b.2)
      | no k ↦ no (λ x. elim (cases_eq x.0 n) [ inl e ↦ f (subst P e x.2) | inr ne ↦ k (x.0, omega (arith, x.1, ne), x.2) ])
    ]
  ]

  -- from the trees of the arguments to one of the place, and back
  planted : (h : ℕ) (cs : List ℕ) → AllByRecursion (HasTree h) cs → (ts : Trees) × TreesOf g ts cs × (heights ts ≤ h)
  planted h [] a = (none, tt, omega arith)
  planted h (c ∷ cs) a = let r = planted h cs a.1 in (more a.0.0 r.0, (a.0.1, r.1), max-le a.0.2 r.2)

  branches : (h : ℕ) (ts : Trees) (cs : List ℕ) → TreesOf g ts cs → heights ts ≤ h → AllByRecursion (HasTree h) cs
  branches h none [] t k = tt
  branches h none (c ∷ cs) t k = absurd t
  branches h (more x ts) [] t k = absurd t
  branches h (more x ts) (c ∷ cs) t k =
      ((x, t.0, omega (arith, le-max_left (height x) (heights ts), k)), branches h ts cs t.1 (omega (arith, le-max_right (height x) (heights ts), k)))

  rooted : (h c : ℕ) (t : Tree) → TreeOf g t c → height t ≤ suc h → (p : ℕ) × (p < length g.places) × Heads h c p
  rooted h c (node p ts) t k = (p, place_inside g p t.0 t.1, (t.0, t.1, t.2, branches h ts t.0.arguments t.3 (omega (arith, k))))

  no_tree : (c : ℕ) (t : Tree) → TreeOf g t c → height t ≤ 0 → ⊥
  no_tree c (node p ts) t k = omega (arith, k)

  tree_dec : (h c : ℕ) → Dec (HasTree h c)
  tree_dec zero c = no (λ x. no_tree c x.0 x.1 x.2)
  tree_dec (suc h) c = elim (some_dec (Heads h c) (λ p. heads_dec h c p (tree_dec h) (production_at g p) refl) (length g.places)) [
    | yes a ↦ let r = planted h a.2.0.arguments a.2.3 in yes (node a.0 r.0, (a.2.0, a.2.1, a.2.2, r.1), omega (arith, r.2))
    | no f ↦ no (λ x. f (rooted h c x.0 x.1 x.2))
  ]

  any_dec : Sound g → (c : ℕ) → Dec ((t : Tree) × TreeOf g t c)
  any_dec s c = elim (tree_dec (length g.dimensions) c) [
    | yes a ↦ yes (a.0, a.1)
    | no f ↦ no (λ x. f (low_category g (faultless_sound g s) c x.0 x.1))
  ]

  live_dec : Sound g → (p : ℕ) (o : Option Production) → production_at g p ≡ o → Dec (LivePlace g p)
  live_dec s p None e = no (λ x. let f = sym e ∙ x.1.filled in let z : ◌≡◌ {A = ℕ} 0 1 = cc in omega arith)
  live_dec s p (Some q) e = elim (all_dec (λ c. (t : Tree) × TreeOf g t c) (any_dec s) q.arguments) [
    | yes a ↦ yes (q, record { filled = e; trees = a })
    | no f ↦ no (λ x.
        let same : x.0 ≡ q = (let o : Some x.0 ≡ Some q = sym x.1.filled ∙ e in cc) in
        f (subst (λ (v : Production). AllByRecursion (λ c. (t : Tree) × TreeOf g t c) v.arguments) same x.1.trees))
  ]

  -- those of which P is true, of the numbers below n
  below_listed : (P : ℕ → Type 0) → ((p : ℕ) → Dec (P p)) → (n : ℕ) → (ps : List ℕ) × Enumerates (λ p. (p < n) × P p) ps
  below_listed P d zero = ([], record { apart = tt; exactly = λ p. ((λ m. absurd m), (λ h. let lt = h.0 in absurd (omega arith))) })
  below_listed P d (suc n) =
      let r = below_listed P d n in
      elim (d n) [
        | yes a ↦ (
          n ∷ r.0,
          record {
            apart = ((λ m. let lt = ((r.1.exactly n).0 m).0 in omega arith), r.1.apart);
            exactly = λ p. (
              (λ m. elim m [
                | inl e ↦ (omega (arith, e), subst P (sym e) a)
                | inr k ↦ let h = (r.1.exactly p).0 k in (omega (arith, h.0), h.1)
              ]),
              (λ h. elim (cases_eq p n) [ inl e ↦ inl e | inr ne ↦ inr ((r.1.exactly p).1 (omega (arith, h.0, ne), h.1)) ]),
            );
          },
        )
        | no f ↦ (
          r.0,
          record {
            apart = r.1.apart;
            exactly = λ p. (
              (λ m. let h = (r.1.exactly p).0 m in (omega (arith, h.0), h.1)),
              (λ h. elim (cases_eq p n) [ inl e ↦ absurd (f (subst P e h.1)) | inr ne ↦ (r.1.exactly p).1 (omega (arith, h.0, ne), h.1) ]),
            );
          },
        )
      ]

pub live_listed : (g : Grammar) → Sound g → (places : List ℕ) × Enumerates (LivePlace g) places
live_listed g s =
    let r = below_listed g (LivePlace g) (λ p. live_dec g s p (production_at g p) refl) (length g.places) in
    (r.0, record { apart = r.1.apart; exactly = λ p. ((λ m. ((r.1.exactly p).0 m).1), (λ h. (r.1.exactly p).1 (place_inside g p h.0 h.1.filled, h))) })

-- `live_places` lists the live places of a sound grammar, each once, and their bare rules are the bare rules.
use Rattle.std.proofs.Common.{◌≡◌, ℕ, zero, suc, ◌<◌, ◌≤◌, true, ◌&&◌, ◌⊎◌, ◌↔◌, List, [], ◌∷◌, length, Some, None, Decides, Option, sym, refl, ap, ◌∙◌, subst, inl, inr, arith}
use Rattle.std.specs.List.{slice_get, AllByRecursion}
use Rattle.std.specs.Option.{option_flatten}
use Rattle.std.proofs.lemmas.Bool.{cases_lt}
use Rattle.std.proofs.lemmas.Bool.Decides.{Decides-and, Decides-like}
use Rattle.grammar.specs.Grammar.{Grammar, Production, production_at}
use Rattle.grammar.specs.Trees.{Tree, node, Trees, none, more, TreeOf, TreesOf, height, heights}
use Rattle.chart.specs.Sound.{Sound}
use Rattle.chart.specs.Chart.{Rule, bare_rule, Live, BareRule, Member, Apart, Enumerates}
use Rattle.chart.specs.Sums.{LivePlace, with_bare, bare_rules}
use Rattle.chart.proofs.Listing.{in_joined, of_joined, in_kept, of_kept, apart_kept}
use Rattle.chart.proofs.Heights.{low_category}
use Rattle.samples.proofs.Saturation.{has, has_all, result_from, with_trees, is_live, below, live_places}
use Rattle.samples.proofs.Tests.{has_test, in_if, of_if, one_of}

-- Category c has a tree.
abbrev HasTree : Grammar → ℕ → Type 0
HasTree g c = (t : Tree) × TreeOf g t c

-- What is filled is in the list of places, and what is in that list fills a place.
filled_in : {A : Type 0} (os : List (Option A)) (p : ℕ) (q : A) → option_flatten (slice_get os p) ≡ Some q → Member (Some q) os × (p < length os)
filled_in [] p q e = absurd (let z : ◌≡◌ {A = ℕ} 0 1 = cc in omega arith)
filled_in (o ∷ os) zero q e = (inl (sym e), omega arith)
filled_in (o ∷ os) (suc p) q e = let m = filled_in os p q e in (inr m.0, omega (arith, m.1))

place_of : {A : Type 0} (os : List (Option A)) (q : A) → Member (Some q) os → (p : ℕ) × (option_flatten (slice_get os p) ≡ Some q)
place_of [] q m = absurd m
place_of (o ∷ os) q (inl e) = (0, sym e)
place_of (o ∷ os) q (inr m) = let k = place_of os q m in (suc k.0, k.1)

trees_from : (g : Grammar) (ds : List ℕ) → ((c : ℕ) → Member c ds → HasTree g c) → (cs : List ℕ) → has_all cs ds ≡ true → (ts : Trees) × TreesOf g ts cs
trees_from g ds h [] e = (none, tt)
trees_from g ds h (c ∷ cs) e =
    let both = (Decides-and (has c ds) (has_all cs ds) (has_test c ds) ((λ x. x), (λ x. x))).0 e in
    let t = h c both.0 in
    let ts = trees_from g ds h cs both.1 in
    (more t.0 ts.0, (t.1, ts.1))

result_tree : (g : Grammar) (ds : List ℕ) → ((c : ℕ) → Member c ds → HasTree g c) → (c : ℕ) (o : Option Production) → Member o g.places → Member c (result_from ds o) → HasTree g c
result_tree g ds ih c None k m = absurd m
result_tree g ds ih c (Some q) k m =
    let h = of_if (has_all q.arguments ds) c (q.result ∷ []) m in
    let ts = trees_from g ds ih q.arguments h.0 in
    let p = place_of g.places q k in
    (node p.0 ts.0, (q, p.1, sym (one_of c q.result h.1), ts.1))

with_trees_lem : (g : Grammar) (n c : ℕ) → Member c (with_trees g n) → HasTree g c
with_trees_lem g zero c m = absurd m
with_trees_lem g (suc n) c m =
    let h = of_joined (result_from (with_trees g n)) c g.places m in
    result_tree g (with_trees g n) (with_trees_lem g n) c h.0 h.1 h.2

covered : (g : Grammar) (n : ℕ) → ((t : Tree) (c : ℕ) → TreeOf g t c → height t ≤ n → Member c (with_trees g n)) → (ts : Trees) (cs : List ℕ) → TreesOf g ts cs → heights ts ≤ n
    → has_all cs (with_trees g n) ≡ true
covered g n ih none [] h l = refl
covered g n ih none (c ∷ cs) h l = absurd h
covered g n ih (more t ts) [] h l = absurd h
covered g n ih (more t ts) (c ∷ cs) h l =
    let here = (has_test c (with_trees g n)).1 (ih t c h.0 (omega arith)) in
    ap (λ b. b && has_all cs (with_trees g n)) here ∙ covered g n ih ts cs h.1 (omega arith)

trees_with : (g : Grammar) (n : ℕ) (t : Tree) (c : ℕ) → TreeOf g t c → height t ≤ n → Member c (with_trees g n)
trees_with g zero (node p ts) c h l = absurd (omega arith)
trees_with g (suc n) (node p ts) c h l =
    let q = h.0 in
    let m = filled_in g.places p q h.1 in
    in_joined (result_from (with_trees g n)) (Some q) c g.places m.0
    (in_if (has_all q.arguments (with_trees g n)) c (q.result ∷ []) (covered g n (trees_with g n) ts q.arguments h.3 (omega arith)) (inl (sym h.2)))

all_test : (P : ℕ → Type 0) (ds : List ℕ) → ((c : ℕ) → Decides (has c ds) (P c)) → (cs : List ℕ) → Decides (has_all cs ds) (AllByRecursion P cs)
all_test P ds h [] = ((λ e. tt), (λ a. refl))
all_test P ds h (c ∷ cs) = Decides-and (has c ds) (has_all cs ds) (h c) (all_test P ds h cs)

of_below : (n p : ℕ) → Member p (below n) → p < n
of_below zero p m = absurd m
of_below (suc n) p (inl e) = omega arith
of_below (suc n) p (inr m) = omega (arith, of_below n p m)

in_below : (n p : ℕ) → p < n → Member p (below n)
in_below zero p h = absurd (omega arith)
in_below (suc n) p h = elim (cases_lt p n) [ inl l ↦ inr (in_below n p l) | inr l ↦ inl (omega arith) ]

below_apart : (n : ℕ) → Apart (below n)
below_apart zero = tt
below_apart (suc n) = ((λ m. omega (arith, of_below n n m)), below_apart n)

module _ (g : Grammar) (s : Sound g) where
  tree_test : (c : ℕ) → Decides (has c (with_trees g (length g.dimensions))) (HasTree g c)
  tree_test c = (
    (λ e. with_trees_lem g (length g.dimensions) c ((has_test c (with_trees g (length g.dimensions))).0 e)),
    (λ t.
        let low = low_category g s c t.0 t.1 in
        (has_test c (with_trees g (length g.dimensions))).1 (trees_with g (length g.dimensions) low.0 c low.1 low.2)),
  )

  live_test : (p : ℕ) → Decides (is_live (with_trees g (length g.dimensions)) (production_at g p)) (LivePlace g p)
  live_test p = go (production_at g p) refl
    where
      go : (o : Option Production) → production_at g p ≡ o → Decides (is_live (with_trees g (length g.dimensions)) o) (LivePlace g p)
      go None e = ((λ t. absurd (let z : ◌≡◌ {A = ℕ} 0 1 = cc in omega arith)), (λ h. let f = h.1.filled in cc))
      go (Some q) e =
          Decides-like (has_all q.arguments (with_trees g (length g.dimensions))) (λ a. (q, record { filled = e; trees = a }))
          (λ h. let f = h.1.filled in let same : h.0 ≡ q = cc in subst (λ x. AllByRecursion (HasTree g) x.arguments) same h.1.trees)
          (all_test (HasTree g) (with_trees g (length g.dimensions)) tree_test q.arguments)

  pub live_listed : Enumerates (LivePlace g) (live_places g)
  live_listed = record {
    apart = apart_kept (λ p. is_live (with_trees g (length g.dimensions)) (production_at g p)) (below (length g.places)) (below_apart (length g.places));
    exactly = λ p. (
      (λ m. (live_test p).0 (of_kept (λ n. is_live (with_trees g (length g.dimensions)) (production_at g n)) p (below (length g.places)) m).1),
      (λ h. in_kept (λ n. is_live (with_trees g (length g.dimensions)) (production_at g n)) p (below (length g.places))
          (in_below (length g.places) p (filled_in g.places p h.0 h.1.filled).1) ((live_test p).1 h)),
    );
  }

  -- The bare rules.
  of_with : (p : ℕ) (r : Rule) (o : Option Production) (rules : List Rule) → production_at g p ≡ o → LivePlace g p → Member r (with_bare g p o rules) → BareRule g r ⊎ Member r rules
  of_with p r None rules e h m = inr m
  of_with p r (Some q) rules e h (inl f) = let k = h.1.filled in let same : h.0 ≡ q = cc in inl (record { place = p; production = q; live = subst (Live g p) same h.1; is = f })
  of_with p r (Some q) rules e h (inr m) = inr m

  of_bares : (ps : List ℕ) → ((p : ℕ) → Member p ps → LivePlace g p) → (r : Rule) → Member r (bare_rules g ps) → BareRule g r
  of_bares [] h r m = absurd m
  of_bares (p ∷ ps) h r m = elim (of_with p r (production_at g p) (bare_rules g ps) refl (h p (inl refl)) m) [ inl b ↦ b | inr n ↦ of_bares ps (λ x k. h x (inr k)) r n ]

  in_with : (p : ℕ) (q : Production) (o : Option Production) (rules : List Rule) → o ≡ Some q → Member (bare_rule g p q) (with_bare g p o rules)
  in_with p q None rules e = absurd (let z : ◌≡◌ {A = ℕ} 0 1 = cc in omega arith)
  in_with p q (Some x) rules e = let same : q ≡ x = cc in inl (ap (bare_rule g p) same)

  in_after : (p : ℕ) (r : Rule) (o : Option Production) (rules : List Rule) → Member r rules → Member r (with_bare g p o rules)
  in_after p r None rules m = m
  in_after p r (Some q) rules m = inr m

  in_bares : (ps : List ℕ) (p : ℕ) (q : Production) → Member p ps → production_at g p ≡ Some q → Member (bare_rule g p q) (bare_rules g ps)
  in_bares [] p q m e = absurd m
  in_bares (x ∷ ps) p q (inl f) e =
      subst (λ n. Member (bare_rule g p q) (with_bare g n (production_at g n) (bare_rules g ps))) f (in_with p q (production_at g p) (bare_rules g ps) e)
  in_bares (x ∷ ps) p q (inr m) e = in_after x (bare_rule g p q) (production_at g x) (bare_rules g ps) (in_bares ps p q m e)

  pub bares_listed : (r : Rule) → Member r (bare_rules g (live_places g)) ↔ BareRule g r
  bares_listed r = (
    of_bares (live_places g) (λ p m. (live_listed.exactly p).0 m) r,
    (λ b. subst (λ x. Member x (bare_rules g (live_places g))) (sym b.is) (in_bares (live_places g) b.place b.production ((live_listed.exactly b.place).1 (b.production, b.live)) b.live.filled)),
  )

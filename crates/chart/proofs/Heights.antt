-- A complete w has a start tree no higher than the bound, `low_tree`, and a category that has a tree has one no higher than
-- the number of categories, `low_category`. In a derivation where no phrase stands below itself,
-- a path has each phrase once, so it is no longer than the number of phrases. The grammar is sound.
use Rattle.std.proofs.Common.{◌≡◌, ℕ, zero, suc, ◌+◌, ◌<◌, ◌≤◌, ◌⊎◌, List, [], ◌∷◌, ◌++◌, map, length, sym, refl, ap, ◌∙◌, subst, inl, inr, arith}
use native.Mathlib.Decide.{ℕ_discrete}
use Rattle.std.specs.List.{AllByRecursion}
use Rattle.std.proofs.lemmas.List.{length-append, length-map}
use Rattle.grammar.specs.Grammar.{Grammar}
use Rattle.grammar.specs.Trees.{Tree, node, Trees, none, more, height, heights}
use Rattle.chart.specs.Sound.{Sound}
use Rattle.chart.specs.Chart.{unread, read, Phrase, Rule, reading_at, bare, BareRule, RuleOf, is_bare, is_made, start_read, Member, Apart, Enumerates, Made}
use Rattle.chart.specs.Theorems.{Height, CategoryHeight}
use Rattle.chart.proofs.Spans.{nth_inside}
use Rattle.chart.proofs.Completeness.{rule_of, Deriv, Derivs, deriv_bare, deriv_matches}
use Rattle.chart.proofs.Starts.{some_read, bare_unread}
use Rattle.chart.proofs.Counting.{no_longer}
use Rattle.chart.proofs.Existence.{start_derived, derived_start}
use Rattle.chart.proofs.Listing.{in_left, in_right, in_map}
use Rattle.chart.proofs.Phrases.{phrase_discrete}

-- The numbers below n.
abbrev numbers : ℕ → List ℕ
numbers zero = []
numbers (suc n) = n ∷ numbers n

numbers_length : (n : ℕ) → length (numbers n) ≡ n
numbers_length zero = refl
numbers_length (suc n) = ap suc (numbers_length n)

in_numbers : (n c : ℕ) → c < n → Member c (numbers n)
in_numbers zero c h = absurd (omega arith)
in_numbers (suc n) c h = go (ℕ_discrete c n) (in_numbers n c)
  where
    go : Dec (c ≡ n) → (c < n → Member c (numbers n)) → Member c (numbers (suc n))
    go (yes e) k = inl e
    go (no m) k = inr (k (omega (arith, m)))

-- Z stands in the derivation of t from X.
abbrev mutual
  In : (g : Grammar) (w : List ℕ) (Z : Phrase) (t : Tree) (X : Phrase) → Deriv g w t X → Type 0
  In g w Z (node p ts) X d = (Z ≡ X) ⊎ Below g w Z ts d.0 d.2

  Below : (g : Grammar) (w : List ℕ) (Z : Phrase) (ts : Trees) (Xs : List Phrase) → Derivs g w ts Xs → Type 0
  Below g w Z none [] d = ⊥
  Below g w Z none (X ∷ Xs) d = ⊥
  Below g w Z (more t ts) [] d = ⊥
  Below g w Z (more t ts) (X ∷ Xs) d = In g w Z t X d.0 ⊎ Below g w Z ts Xs d.1

-- No phrase stands below itself.
abbrev mutual
  Free : (g : Grammar) (w : List ℕ) (t : Tree) (X : Phrase) → Deriv g w t X → Type 0
  Free g w (node p ts) X d = (Below g w X ts d.0 d.2 → ⊥) × FreeAll g w ts d.0 d.2

  FreeAll : (g : Grammar) (w : List ℕ) (ts : Trees) (Xs : List Phrase) → Derivs g w ts Xs → Type 0
  FreeAll g w none [] d = Unit {0}
  FreeAll g w none (X ∷ Xs) d = Unit {0}
  FreeAll g w (more t ts) [] d = Unit {0}
  FreeAll g w (more t ts) (X ∷ Xs) d = Free g w t X d.0 × FreeAll g w ts Xs d.1

either? : {A B : Type 0} → Dec A → Dec B → Dec (A ⊎ B)
either? (yes a) b = yes (inl a)
either? (no m) (yes b) = yes (inr b)
either? (no m) (no n) = no (λ x. elim x [ inl a ↦ m a | inr b ↦ n b ])

mutual
  in? : (g : Grammar) (w : List ℕ) (Z : Phrase) (t : Tree) (X : Phrase) (d : Deriv g w t X) → Dec (In g w Z t X d)
  in? g w Z (node p ts) X d = either? (phrase_discrete Z X) (below? g w Z ts d.0 d.2)

  below? : (g : Grammar) (w : List ℕ) (Z : Phrase) (ts : Trees) (Xs : List Phrase) (d : Derivs g w ts Xs) → Dec (Below g w Z ts Xs d)
  below? g w Z none [] d = no (λ x. x)
  below? g w Z none (X ∷ Xs) d = no (λ x. x)
  below? g w Z (more t ts) [] d = no (λ x. x)
  below? g w Z (more t ts) (X ∷ Xs) d = either? (in? g w Z t X d.0) (below? g w Z ts Xs d.1)

-- A tree with a derivation from X where no phrase stands below itself.
record Freed (g : Grammar) (w : List ℕ) (X : Phrase) : Type 0 where
  tree : Tree
  derived : Deriv g w tree X
  free : Free g w tree X derived

record FreedAll (g : Grammar) (w : List ℕ) (Xs : List Phrase) : Type 0 where
  trees : Trees
  derived : Derivs g w trees Xs
  free : FreeAll g w trees Xs derived

-- The part derived from Z.
mutual
  part_in : (g : Grammar) (w : List ℕ) (Z : Phrase) (t : Tree) (X : Phrase) (d : Deriv g w t X) → In g w Z t X d → Free g w t X d → Freed g w Z
  part_in g w Z (node p ts) X d (inl e) f = subst (λ Y. Freed g w Y) (sym e) (record { tree = node p ts; derived = d; free = f })
  part_in g w Z (node p ts) X d (inr b) f = part_below g w Z ts d.0 d.2 b f.1

  part_below : (g : Grammar) (w : List ℕ) (Z : Phrase) (ts : Trees) (Xs : List Phrase) (d : Derivs g w ts Xs) → Below g w Z ts Xs d → FreeAll g w ts Xs d → Freed g w Z
  part_below g w Z none [] d b f = absurd b
  part_below g w Z none (X ∷ Xs) d b f = absurd b
  part_below g w Z (more t ts) [] d b f = absurd b
  part_below g w Z (more t ts) (X ∷ Xs) d (inl i) f = part_in g w Z t X d.0 i f.0
  part_below g w Z (more t ts) (X ∷ Xs) d (inr b) f = part_below g w Z ts Xs d.1 b f.1

-- A rule over freed arguments: if its phrase stands below, the part there serves.
freed_node : (g : Grammar) (w : List ℕ) (X : Phrase) (p : ℕ) (Xs : List Phrase) → RuleOf g w (rule_of X p Xs) → (f : FreedAll g w Xs) → Dec (Below g w X f.trees Xs f.derived) → Freed g w X
freed_node g w X p Xs r f (yes b) = part_below g w X f.trees Xs f.derived b f.free
freed_node g w X p Xs r f (no n) = record { tree = node p f.trees; derived = (Xs, r, f.derived); free = (n, f.free) }

mutual
  freed : (g : Grammar) (w : List ℕ) (t : Tree) (X : Phrase) → Deriv g w t X → Freed g w X
  freed g w (node p ts) X d =
      let f = freed_all g w ts d.0 d.2 in
      freed_node g w X p d.0 d.1 f (below? g w X f.trees d.0 f.derived)

  freed_all : (g : Grammar) (w : List ℕ) (ts : Trees) (Xs : List Phrase) → Derivs g w ts Xs → FreedAll g w Xs
  freed_all g w none [] d = record { trees = none; derived = tt; free = tt }
  freed_all g w none (X ∷ Xs) d = absurd d
  freed_all g w (more t ts) [] d = absurd d
  freed_all g w (more t ts) (X ∷ Xs) d =
      let f = freed g w t X d.0 in
      let fs = freed_all g w ts Xs d.1 in
      record { trees = more f.tree fs.trees; derived = (f.derived, fs.derived); free = (f.free, fs.free) }

-- P holds of the phrases below one of which it holds, and these are among `phrases`.
module _ (g : Grammar) (w : List ℕ) (P : Phrase → Type 0) (down : (X : Phrase) (p : ℕ) (Xs : List Phrase) → P X → RuleOf g w (rule_of X p Xs) → AllByRecursion P Xs)
    (phrases : List Phrase) (known : (X : Phrase) (p : ℕ) (Xs : List Phrase) → P X → RuleOf g w (rule_of X p Xs) → Member X phrases) where
  -- The phrases on the way from the root are apart, and so no more than all.
  mutual
    low : (t : Tree) (X : Phrase) (d : Deriv g w t X) → P X → Free g w t X d → (above : List Phrase) → Apart above → ((Z : Phrase) → Member Z above → Member Z phrases)
        → ((Z : Phrase) → Member Z above → In g w Z t X d → ⊥) → height t + length above ≤ length phrases
    low (node p ts) X d h f above a k n =
        let rest = lows ts d.0 d.2 (down X p d.0 h d.1) f.1 (X ∷ above) ((λ m. n X m (inl refl)), a)
        (λ Z m. elim m [ inl e ↦ subst (λ Y. Member Y phrases) (sym e) (known X p d.0 h d.1) | inr b ↦ k Z b ])
        (λ Z m b. elim m [ inl e ↦ f.0 (subst (λ Y. Below g w Y ts d.0 d.2) e b) | inr c ↦ n Z c (inr b) ]) in
        omega (arith, rest)

    lows : (ts : Trees) (Xs : List Phrase) (d : Derivs g w ts Xs) → AllByRecursion P Xs → FreeAll g w ts Xs d → (above : List Phrase) → Apart above → ((Z : Phrase) → Member Z above → Member Z phrases)
        → ((Z : Phrase) → Member Z above → Below g w Z ts Xs d → ⊥) → heights ts + length above ≤ length phrases
    lows none [] d h f above a k n = omega (arith, no_longer above phrases a k)
    lows none (X ∷ Xs) d h f above a k n = absurd d
    lows (more t ts) [] d h f above a k n = absurd d
    lows (more t ts) (X ∷ Xs) d h f above a k n =
        let head = low t X d.0 h.0 f.0 above a k (λ Z m i. n Z m (inl i)) in
        let tail = lows ts Xs d.1 h.1 f.1 above a k (λ Z m b. n Z m (inr b)) in
        omega (arith, head, tail)

  low_derived : (t : Tree) (X : Phrase) → P X → Deriv g w t X → (s : Tree) × Deriv g w s X × (height s ≤ length phrases)
  low_derived t X h d =
      let f = freed g w t X d in
      (f.tree, f.derived, omega (arith, low f.tree X f.derived h f.free [] tt (λ Z m. absurd m) (λ Z m i. absurd m)))

-- The bare phrases of the categories.
abbrev bares : Grammar → List Phrase
bares g = map (bare g) (numbers (length g.dimensions))

bares_length : (g : Grammar) → length (bares g) ≡ length g.dimensions
bares_length g = length-map (numbers (length g.dimensions)) (bare g) ∙ numbers_length (length g.dimensions)

bare_phrase : (g : Grammar) → Sound g → (r : Rule) → BareRule g r → Member r.left (bares g)
bare_phrase g s r b =
    let q = b.production in
    let known = (s.places b.place q b.live.filled).result in
    let m = in_map (bare g) q.result (numbers (length g.dimensions)) (in_numbers (length g.dimensions) q.result (nth_inside g.dimensions q.result _ known)) in
    subst (λ x. Member x.left (bares g)) (sym b.is) m

-- The left side of a rule is bare or made.
rule_phrase : (g : Grammar) (w : List ℕ) → Sound g → (r : Rule) → RuleOf g w r → (phrases : List Phrase) → Enumerates (Made g w) phrases → Member r.left (bares g ++ phrases)
rule_phrase g w s r (is_bare b) phrases e = in_left r.left (bares g) phrases (bare_phrase g s r b)
rule_phrase g w s r (is_made c) phrases e = in_right r.left (bares g) phrases ((e.exactly r.left).1 (r, c, refl))

all_units : (Xs : List Phrase) → AllByRecursion (λ X. Unit {0}) Xs
all_units [] = tt
all_units (X ∷ Xs) = (tt, all_units Xs)

pub low_tree : Height
low_tree g s w n b c =
    let short = low_derived g w (λ X. Unit {0}) (λ X p Xs h r. all_units Xs) (bares g ++ b.phrases) (λ X p Xs h r. rule_phrase g w s (rule_of X p Xs) r b.phrases b.listed)
    c.0 (start_read g w) tt (start_derived g w s c.0 c.1 c.2) in
    let k = derived_start g w s short.0 short.1 in
    let count : length (bares g ++ b.phrases) ≡ length g.dimensions + length b.phrases = length-append (bares g) b.phrases ∙ ap (λ x. x + length b.phrases) (bares_length g) in
    (short.0, k.0, k.1, omega (arith, short.2, count, b.total))

-- A rule of a bare phrase is bare.
abbrev IsBare : Grammar → Phrase → Type 0
IsBare g X = (c : ℕ) × (X ≡ bare g c)

all_bare : (g : Grammar) (cs : List ℕ) → AllByRecursion (IsBare g) (map (bare g) cs)
all_bare g [] = tt
all_bare g (c ∷ cs) = ((c, refl), all_bare g cs)

only_bare : (g : Grammar) (w : List ℕ) → Sound g → (r : Rule) → IsBare g r.left → RuleOf g w r → BareRule g r
only_bare g w s r h (is_bare b) = b
only_bare g w s r h (is_made c) =
    let m = some_read g w s c in
    let e : read m.1 m.2 ≡ unread = bare_unread g h.0 m.0 (read m.1 m.2) (ap (λ X. reading_at X m.0) (sym h.1) ∙ m.3) in
    absurd (let z : ◌≡◌ {A = ℕ} 0 1 = cc in omega arith)

pub low_category : CategoryHeight
low_category g s c t h =
    let short = low_derived g [] (IsBare g)
    (λ X p Xs k r. let b = only_bare g [] s (rule_of X p Xs) k r in subst (λ x. AllByRecursion (IsBare g) x.arguments) (sym b.is) (all_bare g b.production.arguments))
    (bares g) (λ X p Xs k r. bare_phrase g s (rule_of X p Xs) (only_bare g [] s (rule_of X p Xs) k r))
    t (bare g c) (c, refl) (deriv_bare g [] t c h) in
    (short.0, (deriv_matches g [] s short.0 (bare g c) short.1).tree, omega (arith, short.2, bares_length g))

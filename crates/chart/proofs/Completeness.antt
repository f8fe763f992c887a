-- The chart of a sound grammar has what the trees have: `advance`. A tree that rules of the chart derive, of whose
-- constituent an item begins, is read to its end, or the frontier has the token where w ends inside it.
use Rattle.std.proofs.Common.{◌≡◌, ℕ, zero, suc, ◌+◌, ◌<◌, ◌≤◌, List, [], ◌∷◌, ◌++◌, map, length, drop, replicate, Some, None, Option, unwrap_or, sym, refl, ap, ◌∙◌, subst, inl, inr, arith}
use Rattle.std.specs.List.{slice_get, AllByRecursion}
use Rattle.std.proofs.lemmas.List.{append-nil, length-map}
use Rattle.grammar.specs.declared.Symbol.{Symbol}
use Rattle.grammar.specs.declared.Symbol.TheVariants.{Token, Argument}
use Rattle.grammar.specs.Grammar.{Grammar, Production, from_one, and_then, production_at, dimension_at, symbol_at}
use Rattle.grammar.specs.Trees.{Tree, node, Trees, none, more, TreeOf, TreesOf, part, substituted, constituents_at, linearized, all_linearized, StartTree, string, GoesOn, Complete}
use Rattle.chart.specs.Sound.{Sound, SoundProduction}
use Rattle.chart.specs.Chart.{Reading, unread, read, Phrase, Rule, made, item, Reads, put, reading_at, read_as, with_argument, bare, bare_rule, BareRule, symbols_of, after_dot, begin, scan, predict_bare, finish, copy, predict, combine, Chart, first, one, two, RuleOf, is_bare, is_made, Frontier, before, within, start_read, Accepts}
use Rattle.chart.proofs.Spans.{reads_split, reads_head, whole_reads, drop_nth, Cut, cut_split, cut_nil}
use Rattle.chart.proofs.Matching.{fit_length, Matches, MatchAll, constituent, category, match_read, substituted_append, part_at, constituent_node}
use Rattle.chart.proofs.Soundness.{sound, rule_right, right_matches, tree_bare}

-- The rule that makes X by place p from Xs.
abbrev pub rule_of : Phrase → ℕ → List Phrase → Rule
rule_of X p Xs = record { left = X; place = p; arguments = Xs }

-- Rules of the chart derive the tree t from the phrase X.
abbrev mutual
  pub Deriv : Grammar → List ℕ → Tree → Phrase → Type 0
  Deriv g w (node p ts) X = (Xs : List Phrase) × RuleOf g w (rule_of X p Xs) × Derivs g w ts Xs

  pub Derivs : Grammar → List ℕ → Trees → List Phrase → Type 0
  Derivs g w none [] = Unit {0}
  Derivs g w none (X ∷ Xs) = ⊥
  Derivs g w (more t ts) [] = ⊥
  Derivs g w (more t ts) (X ∷ Xs) = Deriv g w t X × Derivs g w ts Xs

all_trees : (g : Grammar) (ts : Trees) (cs : List ℕ) → TreesOf g ts cs → AllByRecursion (λ c. (t : Tree) × TreeOf g t c) cs
all_trees g none [] h = tt
all_trees g none (c ∷ cs) h = absurd h
all_trees g (more t ts) [] h = absurd h
all_trees g (more t ts) (c ∷ cs) h = ((t, h.0), all_trees g ts cs h.1)

-- Bare rules derive every tree of a category from its bare phrase.
mutual
  pub deriv_bare : (g : Grammar) (w : List ℕ) (t : Tree) (c : ℕ) → TreeOf g t c → Deriv g w t (bare g c)
  deriv_bare g w (node p ts) c h =
      let q = h.0 in
      let b : BareRule g (bare_rule g p q) = record { place = p; production = q; live = record { filled = h.1; trees = all_trees g ts q.arguments h.3 }; is = refl } in
      (map (bare g) q.arguments, is_bare (subst (λ x. BareRule g (rule_of (bare g x) p (map (bare g) q.arguments))) h.2 b), derivs_bare g w ts q.arguments h.3)

  pub derivs_bare : (g : Grammar) (w : List ℕ) (ts : Trees) (cs : List ℕ) → TreesOf g ts cs → Derivs g w ts (map (bare g) cs)
  derivs_bare g w none [] h = tt
  derivs_bare g w none (c ∷ cs) h = absurd h
  derivs_bare g w (more t ts) [] h = absurd h
  derivs_bare g w (more t ts) (c ∷ cs) h = (deriv_bare g w t c h.0, derivs_bare g w ts cs h.1)

-- A tree derived from a phrase matches it.
mutual
  pub deriv_matches : (g : Grammar) (w : List ℕ) → Sound g → (t : Tree) (X : Phrase) → Deriv g w t X → Matches g w X t
  deriv_matches g w s (node p ts) X h = right_matches (rule_right g w s (rule_of X p h.0) h.1) ts (derivs_match g w s ts h.0 h.2)

  pub derivs_match : (g : Grammar) (w : List ℕ) → Sound g → (ts : Trees) (Xs : List Phrase) → Derivs g w ts Xs → MatchAll g w Xs ts
  derivs_match g w s none [] h = tt
  derivs_match g w s none (X ∷ Xs) h = absurd h
  derivs_match g w s (more t ts) [] h = absurd h
  derivs_match g w s (more t ts) (X ∷ Xs) h = (deriv_matches g w s t X h.0, derivs_match g w s ts Xs h.1)

-- What `advance` shows of a tree.
abbrev pub Advances : Grammar → List ℕ → Tree → Type 0
Advances g w (node p ts) = (X : Phrase) (Xs : List Phrase) (l j : ℕ) → Derivs g w ts Xs → Chart g w (item (rule_of X p Xs) l j 0 j)
    → ((k : ℕ) → Reads w j k (constituent g (node p ts) l) → (Ys : List Phrase) × Chart g w (made (rule_of (read_as X l j k) p Ys)) × Derivs g w ts Ys)
    × ((x : ℕ) → Cut w x j (constituent g (node p ts) l) → Frontier g w x)

abbrev pub AdvanceAll : Grammar → List ℕ → Trees → Type 0
AdvanceAll g w none = Unit {0}
AdvanceAll g w (more t ts) = Advances g w t × AdvanceAll g w ts

nth_some : {A : Type 0} (xs : List A) (i : ℕ) → i < length xs → (x : A) × (slice_get xs i ≡ Some x)
nth_some [] i h = absurd (omega arith)
nth_some (x ∷ xs) zero h = (x, refl)
nth_some (x ∷ xs) (suc i) h = nth_some xs i (omega arith)

pub from_one_some : {A : Type 0} (xs : List A) (s : ℕ) → 1 ≤ s → s ≤ length xs → (x : A) × (from_one xs s ≡ Some x)
from_one_some xs zero a b = absurd (omega arith)
from_one_some xs (suc i) a b = nth_some xs i b

nth_category : (Xs : List Phrase) (i c : ℕ) → slice_get (map category Xs) i ≡ Some c → (X : Phrase) × (slice_get Xs i ≡ Some X) × (X.category ≡ c)
nth_category [] i c e = absurd (let z : ◌≡◌ {A = ℕ} 0 1 = cc in omega arith)
nth_category (X ∷ Xs) zero c e = (X, refl, (cc))
nth_category (X ∷ Xs) (suc i) c e = nth_category Xs i c e

from_one_category : (Xs : List Phrase) (d c : ℕ) → from_one (map category Xs) d ≡ Some c → (X : Phrase) × (from_one Xs d ≡ Some X) × (X.category ≡ c)
from_one_category Xs zero c e = absurd (let z : ◌≡◌ {A = ℕ} 0 1 = cc in omega arith)
from_one_category Xs (suc i) c e = nth_category Xs i c e

-- The symbol after a dot is a symbol of the function.
pub dot_symbol : (g : Grammar) (p l i : ℕ) (x : Symbol) (q : Production) → production_at g p ≡ Some q → SoundProduction g q
    → slice_get (symbols_of g p l) i ≡ Some x → symbol_at g q.function l (suc i) ≡ Some x
dot_symbol g p l i x q e s n =
    let known : constituents_at g p ≡ s.uses.constituents = ap (λ o. unwrap_or (and_then o (λ y. and_then (slice_get g.functions y.function) (λ f. Some f.constituents))) []) e ∙ ap (λ o. unwrap_or (and_then o (λ f. Some f.constituents)) []) s.function in
    ap (λ o. and_then (and_then o (λ h. from_one h.constituents l)) (λ α. from_one α (suc i))) s.function
    ∙ go (from_one s.uses.constituents l) (subst (λ cs. slice_get (unwrap_or (from_one cs l) []) i ≡ Some x) known n)
  where
    go : (o : Option (List Symbol)) → slice_get (unwrap_or o []) i ≡ Some x → and_then o (λ α. from_one α (suc i)) ≡ Some x
    go None h = h
    go (Some α) h = h

-- Argument d of a derived list of trees: its tree, what is known of it, and another phrase in its place.
pub record Child (g : Grammar) (w : List ℕ) (ts : Trees) (Xs : List Phrase) (d : ℕ) (X : Phrase) : Type 0 where
  pub tree : Tree
  pub derived : Deriv g w tree X
  pub advances : Advances g w tree
  pub there : from_one (all_linearized g ts) d ≡ Some (linearized g tree)
  pub instead : (Y : Phrase) → Deriv g w tree Y → Derivs g w ts (put Xs d Y)

pub child : (g : Grammar) (w : List ℕ) (ts : Trees) (Xs : List Phrase) (d : ℕ) (X : Phrase) → Derivs g w ts Xs → AdvanceAll g w ts → from_one Xs d ≡ Some X
    → Child g w ts Xs d X
child g w ts Xs zero X h a e = absurd (let z : ◌≡◌ {A = ℕ} 0 1 = cc in omega arith)
child g w ts Xs (suc i) X h a e = go ts Xs i h a e
  where
    go : (ts : Trees) (Xs : List Phrase) (i : ℕ) → Derivs g w ts Xs → AdvanceAll g w ts → slice_get Xs i ≡ Some X → Child g w ts Xs (suc i) X
    go none [] i h a e = absurd (let z : ◌≡◌ {A = ℕ} 0 1 = cc in omega arith)
    go none (Y ∷ Xs) i h a e = absurd h
    go (more t ts) [] i h a e = absurd h
    go (more t ts) (Y ∷ Xs) zero h a e =
        let q : Y ≡ X = cc in
        record { tree = t; derived = subst (λ Z. Deriv g w t Z) q h.0; advances = a.0; there = refl; instead = λ Z n. (n, h.1) }
    go (more t ts) (Y ∷ Xs) (suc i) h a e =
        let c = go ts Xs i h.1 a.1 e in
        record { tree = c.tree; derived = c.derived; advances = c.advances; there = c.there; instead = λ Z n. (h.0, c.instead Z n) }

-- A rule of the phrase that stands for argument d starts an item.
pub start_item : (g : Grammar) (w : List ℕ) {r q : Rule} {l j i k d s : ℕ} → Chart g w (item r l j i k) → after_dot g r l i ≡ Some (Argument d s)
    → from_one r.arguments d ≡ Some q.left → reading_at q.left s ≡ Some unread → RuleOf g w q → Chart g w (item q s k 0 k)
start_item g w c e a u (is_bare b) = one c (predict_bare e a u b)
start_item g w c e a u (is_made m) = two c m (predict e a u)

-- The child is read, or w ends inside it.
child_read : (g : Grammar) (w : List ℕ) (t : Tree) (X : Phrase) (s k : ℕ) → Deriv g w t X → Advances g w t
    → ((q : Rule) → RuleOf g w q → q.left ≡ X → Chart g w (item q s k 0 k))
    → ((m : ℕ) → Reads w k m (constituent g t s) → (q : Rule) × Chart g w (made q) × (q.left ≡ read_as X s k m) × Deriv g w t (read_as X s k m))
    × ((x : ℕ) → Cut w x k (constituent g t s) → Frontier g w x)
child_read g w (node p ts) X s k d a start =
    let both = a X d.0 s k d.2 (start (rule_of X p d.0) d.1 refl) in (
      (λ m h. let done = both.0 m h in (rule_of (read_as X s k m) p done.0, done.1, refl, (done.0, is_made done.1, done.2))),
      both.1,
    )

dropped_none : {A : Type 0} (xs : List A) (i : ℕ) → drop i xs ≡ [] → slice_get xs i ≡ None
dropped_none [] i e = refl
dropped_none (x ∷ xs) zero e = cc
dropped_none (x ∷ xs) (suc i) e = dropped_none xs i e

dropped_next : {A : Type 0} (xs : List A) (i : ℕ) (x : A) (ys : List A) → drop i xs ≡ x ∷ ys → drop (suc i) xs ≡ ys
dropped_next [] zero x ys e = cc
dropped_next [] (suc i) x ys e = cc
dropped_next (z ∷ xs) zero x ys e = cc
dropped_next (z ∷ xs) (suc i) x ys e = dropped_next xs i x ys e

-- What `passes` shows: the dot passes the symbol x at i, or w ends inside it.
abbrev Passed : Grammar → List ℕ → ℕ → Trees → Phrase → ℕ → ℕ → Symbol → ℕ → ℕ → Type 0
Passed g w p ts X l j x i k =
    ((m : ℕ) → Reads w k m (substituted (all_linearized g ts) (x ∷ [])) → (Zs : List Phrase) × Derivs g w ts Zs × Chart g w (item (rule_of X p Zs) l j (suc i) m))
    × ((y : ℕ) → Cut w y k (substituted (all_linearized g ts) (x ∷ [])) → Frontier g w y)

cut_one : {w : List ℕ} {y k t : ℕ} → Cut w y k (t ∷ []) → (y ≡ t) × (k ≡ length w)
cut_one {w} {y} {k} {t} c = go c.seen c.reads c.parts
  where
    go : (seen : List ℕ) → Reads w k (length w) seen → t ∷ [] ≡ seen ++ (y ∷ c.rest) → (y ≡ t) × (k ≡ length w)
    go [] r e = ((cc), omega (arith, r.ends))
    go (a ∷ []) r e = absurd (let z : ◌≡◌ {A = ℕ} 0 1 = cc in omega arith)
    go (a ∷ (b ∷ bs)) r e = absurd (let z : ◌≡◌ {A = ℕ} 0 1 = cc in omega arith)

module _ (g : Grammar) (w : List ℕ) (sd : Sound g) (p : ℕ) (ts : Trees) (all : AdvanceAll g w ts) (X : Phrase) (l j : ℕ) where
  passes_token : (t i k : ℕ) (Ys : List Phrase) → Derivs g w ts Ys → Chart g w (item (rule_of X p Ys) l j i k) → slice_get (symbols_of g p l) i ≡ Some (Token t)
      → Passed g w p ts X l j (Token t) i k
  passes_token t i k Ys ds c e = (
    (λ m h.
        let n : m ≡ suc k = omega (arith, h.ends) in
        (Ys, ds, subst (λ x. Chart g w (item (rule_of X p Ys) l j (suc i) x)) (sym n) (one c (scan e (reads_head h))))),
    (λ y h.
        let both = cut_one h in
        before (subst (λ x. Chart g w (item (rule_of X p Ys) l j i x)) both.1 c) (subst (λ x. slice_get (symbols_of g p l) i ≡ Some (Token x)) (sym both.0) e)),
  )

  passes_read : (d s i k a b : ℕ) (Y : Phrase) (t : Tree) (Ys : List Phrase) → Derivs g w ts Ys → Chart g w (item (rule_of X p Ys) l j i k)
      → slice_get (symbols_of g p l) i ≡ Some (Argument d s) → from_one Ys d ≡ Some Y → Matches g w Y t → from_one (all_linearized g ts) d ≡ Some (linearized g t)
      → reading_at Y s ≡ Some (read a b) → Passed g w p ts X l j (Argument d s) i k
  passes_read d s i k a b Y t Ys ds c e y m there r =
      let σ = all_linearized g ts in
      let is : part σ d s ++ [] ≡ constituent g t s = append-nil (part σ d s) ∙ part_at g σ d s t there in
      let span = match_read Y s a b r m in (
        (λ n h. (Ys, ds, one c (copy e y r span (subst (λ v. Reads w k n v) is h)))),
        (λ z h.
            let two = reads_split h.seen (z ∷ h.rest) (subst (λ v. Reads w a b v) (sym is ∙ h.parts) span) in
            within c e y r two.0 h.reads (omega (arith, two.1.ends)) (reads_head two.1)),
      )

  passes_unread : (d s i k : ℕ) (Y : Phrase) (Ys : List Phrase) → Chart g w (item (rule_of X p Ys) l j i k)
      → slice_get (symbols_of g p l) i ≡ Some (Argument d s) → from_one Ys d ≡ Some Y → Child g w ts Ys d Y
      → reading_at Y s ≡ Some unread → Passed g w p ts X l j (Argument d s) i k
  passes_unread d s i k Y Ys c e y ch r =
      let σ = all_linearized g ts in
      let t = ch.tree in
      let is : part σ d s ++ [] ≡ constituent g t s = append-nil (part σ d s) ∙ part_at g σ d s t ch.there in
      let start : (q : Rule) → RuleOf g w q → q.left ≡ Y → Chart g w (item q s k 0 k) =
      λ q h f. start_item g w c e (y ∙ ap Some (sym f)) (ap (λ Z. reading_at Z s) f ∙ r) h in
      let both = child_read g w t Y s k ch.derived ch.advances start in (
        (λ n h.
            let done = both.0 n (subst (λ v. Reads w k n v) is h) in
            let next : Chart g w (item (with_argument (rule_of X p Ys) d done.0.left) l j (suc i) n) = two c done.1 (combine e y r done.2) in
            (put Ys d (read_as Y s k n), ch.instead (read_as Y s k n) done.3, subst (λ Z. Chart g w (item (rule_of X p (put Ys d Z)) l j (suc i) n)) done.2 next)),
        (λ z h. both.1 z (subst (λ v. Cut w z k v) is h)),
      )

  passes_argument : (d s i k : ℕ) (Ys : List Phrase) → Derivs g w ts Ys → Chart g w (item (rule_of X p Ys) l j i k)
      → slice_get (symbols_of g p l) i ≡ Some (Argument d s) → Passed g w p ts X l j (Argument d s) i k
  passes_argument d s i k Ys ds c e =
      let right = (sound g w sd c).rule in
      let q = right.production in
      let sq = sd.places p q right.filled in
      let names = sq.pairs l (suc i) d s (dot_symbol g p l i (Argument d s) q right.filled sq e) in
      let Y = from_one_category Ys d names.category (subst (λ cs. from_one cs d ≡ Some names.category) (sym right.arguments) names.argument) in
      let ch = child g w ts Ys d Y.0 ds all Y.1 in
      let m = deriv_matches g w sd ch.tree Y.0 ch.derived in
      let plain = tree_bare g w sd ch.tree Y.0.category m.tree in
      let size : length Y.0.readings ≡ names.dimension =
      fit_length w Y.0.readings (linearized g ch.tree) m.fits ∙ sym (fit_length w (bare g Y.0.category).readings (linearized g ch.tree) plain.fits)
      ∙ Rattle.std.proofs.lemmas.List.length-replicate (unwrap_or (dimension_at g Y.0.category) 0) unread ∙ ap (λ x. unwrap_or (dimension_at g x) 0) Y.2 ∙ ap (λ o. unwrap_or o 0) names.known in
      let r = from_one_some Y.0.readings s names.positive (omega (arith, names.within)) in
      go Y.0 Y.1 ch m r.0 r.1
    where
      go : (Y : Phrase) → from_one Ys d ≡ Some Y → (ch : Child g w ts Ys d Y) → Matches g w Y ch.tree → (x : Reading) → reading_at Y s ≡ Some x
          → Passed g w p ts X l j (Argument d s) i k
      go Y y ch m unread r = passes_unread d s i k Y Ys c e y ch r
      go Y y ch m (read a b) r = passes_read d s i k a b Y ch.tree Ys ds c e y m ch.there r

  passes : (x : Symbol) (i k : ℕ) (Ys : List Phrase) → Derivs g w ts Ys → Chart g w (item (rule_of X p Ys) l j i k) → slice_get (symbols_of g p l) i ≡ Some x
      → Passed g w p ts X l j x i k
  passes (Token t) i k Ys ds c e = passes_token t i k Ys ds c e
  passes (Argument d s) i k Ys ds c e = passes_argument d s i k Ys ds c e

  -- All symbols from the dot on.
  walk : (α : List Symbol) (i k : ℕ) (Ys : List Phrase) → drop i (symbols_of g p l) ≡ α → Derivs g w ts Ys → Chart g w (item (rule_of X p Ys) l j i k)
      → ((m : ℕ) → Reads w k m (substituted (all_linearized g ts) α) → (Zs : List Phrase) × Chart g w (made (rule_of (read_as X l j m) p Zs)) × Derivs g w ts Zs)
      × ((y : ℕ) → Cut w y k (substituted (all_linearized g ts) α) → Frontier g w y)
  walk [] i k Ys e ds c = (
    (λ m h.
        let n : m ≡ k = omega (arith, h.ends) in
        (Ys, subst (λ x. Chart g w (made (rule_of (read_as X l j x) p Ys))) (sym n) (one c (finish (dropped_none (symbols_of g p l) i e))), ds)),
    (λ y h. absurd (cut_nil h)),
  )
  walk (x ∷ α) i k Ys e ds c =
      let σ = all_linearized g ts in
      let step = passes x i k Ys ds c (drop_nth (symbols_of g p l) i x α e) in
      let is : substituted σ (x ∷ α) ≡ substituted σ (x ∷ []) ++ substituted σ α = substituted_append σ (x ∷ []) α in
      let tail : drop (suc i) (symbols_of g p l) ≡ α = dropped_next (symbols_of g p l) i x α e in (
        (λ m h.
            let two = reads_split (substituted σ (x ∷ [])) (substituted σ α) (subst (λ v. Reads w k m v) is h) in
            let next = step.0 (k + length (substituted σ (x ∷ []))) two.0 in
            (walk α (suc i) (k + length (substituted σ (x ∷ []))) next.0 tail next.1 next.2).0 m two.1),
        (λ y h. elim (cut_split (substituted σ (x ∷ [])) (substituted σ α) (subst (λ v. Cut w y k v) is h)) [
          | inl a ↦ step.1 y a
          | inr b ↦
              let next = step.0 b.0 b.1 in
              (walk α (suc i) b.0 next.0 tail next.1 next.2).1 y b.2
        ]),
      )

-- Every tree advances.
mutual
  pub advance : (g : Grammar) (w : List ℕ) → Sound g → (t : Tree) → Advances g w t
  advance g w s (node p ts) = λ X Xs l j ds c.
      let both = walk g w s p ts (advance_all g w s ts) X l j (symbols_of g p l) 0 j Xs refl ds c in
      let is = constituent_node g p ts l in
      ((λ k h. both.0 k (subst (λ v. Reads w j k v) is h)), (λ y h. both.1 y (subst (λ v. Cut w y j v) is h)))

  pub advance_all : (g : Grammar) (w : List ℕ) → Sound g → (ts : Trees) → AdvanceAll g w ts
  advance_all g w s none = tt
  advance_all g w s (more t ts) = (advance g w s t, advance_all g w s ts)

-- The item with which a start tree begins.
begin_tree : (g : Grammar) (w : List ℕ) → Sound g → (t : Tree) → StartTree g t → Deriv g w t (bare g g.start) → Advances g w t
    → ((k : ℕ) → Reads w 0 k (string g t) → (r : Rule) × Chart g w (made r) × (r.left ≡ read_as (bare g g.start) 1 0 k))
    × ((y : ℕ) → Cut w y 0 (string g t) → Frontier g w y)
begin_tree g w s (node p ts) h d a =
    let q = h.0 in
    let b : BareRule g (bare_rule g p q) = record { place = p; production = q; live = record { filled = h.1; trees = all_trees g ts q.arguments h.3 }; is = refl } in
    let c : Chart g w (item (bare_rule g p q) 1 0 0 0) = first (begin b h.2) in
    let c' : Chart g w (item (rule_of (bare g g.start) p (map (bare g) q.arguments)) 1 0 0 0) = subst (λ x. Chart g w (item (rule_of (bare g x) p (map (bare g) q.arguments)) 1 0 0 0)) h.2 c in
    let both = a (bare g g.start) (map (bare g) q.arguments) 1 0 (derivs_bare g w ts q.arguments h.3) c' in (
      (λ k r. let done = both.0 k r in (rule_of (read_as (bare g g.start) 1 0 k) p done.0, done.1, refl)),
      both.1,
    )

start_both : (g : Grammar) (w : List ℕ) → Sound g → (t : Tree) → StartTree g t
    → ((k : ℕ) → Reads w 0 k (string g t) → (r : Rule) × Chart g w (made r) × (r.left ≡ read_as (bare g g.start) 1 0 k))
    × ((y : ℕ) → Cut w y 0 (string g t) → Frontier g w y)
start_both g w s t h = begin_tree g w s t h (deriv_bare g w t g.start h) (advance g w s t)

-- A token that goes on is in the frontier.
pub goes_on_frontier : (g : Grammar) (w : List ℕ) (t : ℕ) → Sound g → GoesOn g w t → Frontier g w t
goes_on_frontier g w t s h = (start_both g w s h.0 h.1).1 t (record { seen = w; rest = h.2.0; reads = whole_reads w; parts = h.2.1 })

-- The string of a start tree is accepted.
pub complete_accepts : (g : Grammar) (w : List ℕ) → Sound g → Complete g w → Accepts g w
complete_accepts g w s h =
    let done = (start_both g w s h.0 h.1).0 (length w) (subst (λ v. Reads w 0 (length w) v) (sym h.2) (whole_reads w)) in
    let is : read_as (bare g g.start) 1 0 (length w) ≡ start_read g w = ap (λ o. record { category = g.start; readings = put (replicate (unwrap_or o 0) unread) 1 (read 0 (length w)) }) s.start in
    (done.0, done.1, done.2 ∙ is)

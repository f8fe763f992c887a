-- What the chart of a sound grammar has is right: `sound`. A rule's left side is matched by what its arguments' trees make,
-- an item's passed symbols are the tokens from its start to its end, and any tree for its left side stands in a start tree.
use Rattle.std.proofs.Common.{◌≡◌, ℕ, zero, suc, List, [], ◌∷◌, ◌++◌, map, length, take, drop, set, replicate, Some, unwrap_or, sym, refl, ap, ◌∙◌, subst, append_assoc, arith}
use Rattle.std.specs.List.{slice_get, AllByRecursion}
use Rattle.std.proofs.lemmas.List.{append-nil, length-map}
use Rattle.grammar.specs.declared.Symbol.{Symbol}
use Rattle.grammar.specs.declared.Symbol.TheVariants.{Token, Argument}
use Rattle.grammar.specs.Grammar.{Grammar, Production, from_one, and_then, production_at, dimension_at}
use Rattle.grammar.specs.Trees.{Tree, node, Trees, none, more, TreeOf, TreesOf, part, substituted, constituents_at, linearized, all_linearized, StartTree, string, GoesOn, Complete}
use Rattle.chart.specs.Sound.{Sound, SoundProduction}
use Rattle.chart.specs.Chart.{unread, Phrase, Rule, Fact, made, item, Reads, put, reading_at, bare, bare_rule, BareRule, symbols_of, after_dot, Begin, begin, Step, scan, predict_bare, finish, copy, Join, predict, combine, Chart, first, one, two, RuleOf, is_bare, is_made, Frontier, before, within, start_read, Accepts}
use Rattle.chart.proofs.Spans.{reads_nil, reads_join, reads_one, reads_whole, reads_front}
use Rattle.chart.proofs.Matching.{FitAll, fit_bare, Matches, MatchAll, constituent, category, match_less, match_more, match_read, find, replace, put_same, put_here, weaken, match_trees, substituted_append, take_next, around_next, take_end, part_at, constituent_node}

-- The function of a filled place has as many constituents as the result's dimension.
pub constituents_count : (g : Grammar) (p : ℕ) (q : Production) → production_at g p ≡ Some q → SoundProduction g q
    → length (constituents_at g p) ≡ unwrap_or (dimension_at g q.result) 0
constituents_count g p q e s =
    let known : constituents_at g p ≡ s.uses.constituents = ap (λ o. unwrap_or (and_then o (λ x. and_then (slice_get g.functions x.function) (λ f. Some f.constituents))) []) e ∙ ap (λ o. unwrap_or (and_then o (λ f. Some f.constituents)) []) s.function in
    ap length known ∙ sym (ap (λ o. unwrap_or o 0) s.result)

-- Every tree of a category matches the bare phrase.
pub tree_bare : (g : Grammar) (w : List ℕ) → Sound g → (t : Tree) (c : ℕ) → TreeOf g t c → Matches g w (bare g c) t
tree_bare g w s (node p ts) c h =
    let count : length (constituents_at g p) ≡ unwrap_or (dimension_at g c) 0 = rw h.2 at (constituents_count g p h.0 h.1 (s.places p h.0 h.1)) in
    record {
      tree = h;
      fits = fit_bare w (unwrap_or (dimension_at g c) 0) (linearized g (node p ts)) (length-map (constituents_at g p) (substituted (all_linearized g ts)) ∙ count);
    }

pub trees_bare : (g : Grammar) (w : List ℕ) → Sound g → (ts : Trees) (cs : List ℕ) → TreesOf g ts cs → MatchAll g w (map (bare g) cs) ts
trees_bare g w s none [] h = tt
trees_bare g w s none (c ∷ cs) h = absurd h
trees_bare g w s (more t ts) [] h = absurd h
trees_bare g w s (more t ts) (c ∷ cs) h = (tree_bare g w s t c h.0, trees_bare g w s ts cs h.1)

some_trees : (g : Grammar) (w : List ℕ) → Sound g → (cs : List ℕ) → AllByRecursion (λ c. (t : Tree) × TreeOf g t c) cs
    → (ts : Trees) × MatchAll g w (map (bare g) cs) ts
some_trees g w s [] h = (none, tt)
some_trees g w s (c ∷ cs) h =
    let rest = some_trees g w s cs h.1 in
    (more h.0.0 rest.0, (tree_bare g w s h.0.0 c h.0.1, rest.1))

map_category : (g : Grammar) (cs : List ℕ) → map category (map (bare g) cs) ≡ cs
map_category g [] = refl
map_category g (c ∷ cs) = ap (λ x. c ∷ x) (map_category g cs)

-- A rule is right: its place holds a production of its categories, the arguments are matched by some trees, and trees
-- that match the arguments make a tree that matches the left side.
pub record Right (g : Grammar) (w : List ℕ) (r : Rule) : Type 0 where
  pub production : Production
  pub filled : production_at g r.place ≡ Some production
  pub result : production.result ≡ r.left.category
  pub arguments : map category r.arguments ≡ production.arguments
  pub fits : (ts : Trees) → MatchAll g w r.arguments ts → FitAll w r.left.readings (linearized g (node r.place ts))
  pub trees : Trees
  pub matched : MatchAll g w r.arguments trees

-- Some start tree's string has u after the tokens from 0 to j.
pub record Around (g : Grammar) (w : List ℕ) (j : ℕ) (u : List ℕ) : Type 0 where
  pub tree : Tree
  pub start : StartTree g tree
  pub front : List ℕ
  pub rest : List ℕ
  pub reads : Reads w 0 j front
  pub parts : string g tree ≡ front ++ (u ++ rest)

-- An item is right.
pub record Going (g : Grammar) (w : List ℕ) (r : Rule) (l j i k : ℕ) : Type 0 where
  pub rule : Right g w r
  pub open' : reading_at r.left l ≡ Some unread
  pub passed : (ts : Trees) → MatchAll g w r.arguments ts → Reads w j k (substituted (all_linearized g ts) (take i (symbols_of g r.place l)))
  pub around : (t : Tree) → Matches g w r.left t → Around g w j (constituent g t l)

abbrev pub Good : Grammar → List ℕ → Fact → Type 0
Good g w (made r) = Right g w r
Good g w (item r l j i k) = Going g w r l j i k

-- Trees that match the arguments make a tree that matches the left side.
pub right_matches : {g : Grammar} {w : List ℕ} {r : Rule} → Right g w r → (ts : Trees) → MatchAll g w r.arguments ts → Matches g w r.left (node r.place ts)
right_matches {g} {w} {r} h ts m = record {
  tree = (h.production, h.filled, h.result, subst (λ cs. TreesOf g ts cs) h.arguments (match_trees g w r.arguments ts m));
  fits = h.fits ts m;
}

pub bare_right : (g : Grammar) (w : List ℕ) → Sound g → (r : Rule) → BareRule g r → Right g w r
bare_right g w s r b =
    let p = b.place in
    let q = b.production in
    let some = some_trees g w s q.arguments b.live.trees in
    let right : Right g w (bare_rule g p q) = record {
      production = q;
      filled = b.live.filled;
      result = refl;
      arguments = map_category g q.arguments;
      fits = λ ts m. fit_bare w (unwrap_or (dimension_at g q.result) 0) (linearized g (node p ts)) (length-map (constituents_at g p) (substituted (all_linearized g ts)) ∙ constituents_count g p q b.live.filled (s.places p q b.live.filled));
      trees = some.0;
      matched = some.1;
    } in
    subst (λ x. Right g w x) (sym b.is) right

-- One more symbol passed.
passed_next : {w : List ℕ} {j k m : ℕ} (σ : List (List (List ℕ))) (α : List Symbol) (i : ℕ) (x : Symbol) → slice_get α i ≡ Some x
    → Reads w j k (substituted σ (take i α)) → Reads w k m (substituted σ (x ∷ [])) → Reads w j m (substituted σ (take (suc i) α))
passed_next {w} {j} {k} {m} σ α i x e a b =
    rw (take_next α i x e) (rw (substituted_append σ (take i α) (x ∷ [])) (reads_join a b))

-- What stands at the dot stands in a start tree after the tokens up to the item's end.
pub around_dot : {g : Grammar} {w : List ℕ} {r : Rule} {l j i k : ℕ} → Going g w r l j i k → (x : Symbol) → after_dot g r l i ≡ Some x
    → (ts : Trees) → MatchAll g w r.arguments ts → Around g w k (substituted (all_linearized g ts) (x ∷ []))
around_dot {g} {w} {r} {l} {j} {i} {k} h x e ts m =
    let σ = all_linearized g ts in
    let α = symbols_of g r.place l in
    let A = h.around (node r.place ts) (right_matches h.rule ts m) in
    let whole : constituent g (node r.place ts) l ≡ substituted σ (take i α) ++ (substituted σ (x ∷ []) ++ substituted σ (drop (suc i) α)) =
    constituent_node g r.place ts l ∙ ap (substituted σ) (around_next α i x e) ∙ substituted_append σ (take i α) (x ∷ drop (suc i) α)
    ∙ ap (λ v. substituted σ (take i α) ++ v) (substituted_append σ (x ∷ []) (drop (suc i) α)) in
    record {
      tree = A.tree;
      start = A.start;
      front = A.front ++ substituted σ (take i α);
      rest = substituted σ (drop (suc i) α) ++ A.rest;
      reads = reads_join A.reads (h.passed ts m);
      parts = A.parts ∙ ap (λ v. A.front ++ (v ++ A.rest)) whole ∙ regroup A.front (substituted σ (take i α)) (substituted σ (x ∷ [])) (substituted σ (drop (suc i) α)) A.rest;
    }
  where
    regroup : (a b c d e : List ℕ) → a ++ ((b ++ (c ++ d)) ++ e) ≡ (a ++ b) ++ (c ++ (d ++ e))
    regroup a b c d e = simp append_assoc

predicted : {g : Grammar} {w : List ℕ} {r q : Rule} {l j i k d s : ℕ} → Going g w r l j i k → after_dot g r l i ≡ Some (Argument d s)
    → from_one r.arguments d ≡ Some q.left → reading_at q.left s ≡ Some unread → Right g w q → Going g w q s k 0 k
predicted {g} {w} {r} {q} {l} {j} {i} {k} {d} {s} h e a u right = record {
  rule = right;
  open' = u;
  passed = λ ts m. reads_nil w k (h.passed h.rule.trees h.rule.matched).inside;
  around = λ t m.
      let new = replace r.arguments h.rule.trees d q.left q.left t h.rule.matched a m in
      let m' : MatchAll g w r.arguments new.0 = subst (λ Xs. MatchAll g w Xs new.0) (put_same r.arguments d q.left a) new.1 in
      let A = around_dot h (Argument d s) e new.0 m' in
      subst (λ v. Around g w k v) (append-nil (part (all_linearized g new.0) d s) ∙ part_at g (all_linearized g new.0) d s t new.2) A;
}

begin_good : (g : Grammar) (w : List ℕ) → Sound g → {z : Fact} → Begin g z → Good g w z
begin_good g w s (begin {r = r} b c) = record {
  rule = bare_right g w s r b;
  open' =
      let is : r.left ≡ bare g g.start = ap (λ x. x.left) b.is ∙ ap (bare g) (sym (ap (λ x. x.left.category) b.is) ∙ c) in
      let here : reading_at (bare g g.start) 1 ≡ Some unread = ap (λ o. from_one (replicate (unwrap_or o 0) unread) 1) s.start in
      subst (λ X. reading_at X 1 ≡ Some unread) (sym is) here;
  passed = λ ts m. reads_nil w 0 (omega arith);
  around = λ t m. record {
    tree = t;
    start = subst (λ x. TreeOf g t x) c m.tree;
    front = [];
    rest = [];
    reads = reads_nil w 0 (omega arith);
    parts = sym (append-nil (string g t));
  };
}

step_good : (g : Grammar) (w : List ℕ) → Sound g → {x z : Fact} → Step g w x z → Good g w x → Good g w z
step_good g w s (scan {r = r} {l = l} {i = i} {k = k} {t = t} e n) h = record {
  rule = h.rule;
  open' = h.open';
  passed = λ ts m. passed_next (all_linearized g ts) (symbols_of g r.place l) i (Token t) e (h.passed ts m) (reads_one w k t n);
  around = h.around;
}
step_good g w s (predict_bare {q = q} e a u b) h = predicted h e a u (bare_right g w s q b)
step_good g w s (finish {r = r} {l = l} {j = j} {i = i} {k = k} e) h = record {
  production = h.rule.production;
  filled = h.rule.filled;
  result = h.rule.result;
  arguments = h.rule.arguments;
  fits = λ ts m.
      let all : Reads w j k (constituent g (node r.place ts) l) = subst (λ u. Reads w j k u) (ap (substituted (all_linearized g ts)) (take_end (symbols_of g r.place l) i e) ∙ sym (constituent_node g r.place ts l)) (h.passed ts m) in
      (match_more r.left l j k h.open' (right_matches h.rule ts m) all).fits;
  trees = h.rule.trees;
  matched = h.rule.matched;
}
step_good g w s (copy {r = r} {l = l} {i = i} {k = k} {d = d} {s = c} {a = a} {b = b} {m = n} {X = X} {u = u} e x y ab kn) h = record {
  rule = h.rule;
  open' = h.open';
  passed = λ ts m.
      let f = find r.arguments ts d X m x in
      let same : u ≡ constituent g f.tree c = Rattle.chart.proofs.Spans.reads_same ab (match_read X c a b y f.matches) in
      let is : u ≡ part (all_linearized g ts) d c ++ [] = same ∙ sym (part_at g (all_linearized g ts) d c f.tree f.there) ∙ sym (append-nil (part (all_linearized g ts) d c)) in
      passed_next (all_linearized g ts) (symbols_of g r.place l) i (Argument d c) e (h.passed ts m) (subst (λ v. Reads w k n v) is kn);
  around = h.around;
}

map_put : (Xs : List Phrase) (d : ℕ) (X Y : Phrase) → from_one Xs d ≡ Some X → Y.category ≡ X.category → map category (put Xs d Y) ≡ map category Xs
map_put Xs zero X Y e c = refl
map_put Xs (suc i) X Y e c = go Xs i e
  where
    go : (Xs : List Phrase) (i : ℕ) → slice_get Xs i ≡ Some X → map category (set Xs i Y) ≡ map category Xs
    go [] i e = refl
    go (Z ∷ Xs) zero e = let q : Z ≡ X = cc in ap (λ x. x ∷ map category Xs) (c ∙ ap category (sym q))
    go (Z ∷ Xs) (suc i) e = ap (λ x. Z.category ∷ x) (go Xs i e)

join_good : (g : Grammar) (w : List ℕ) → {x y z : Fact} → Join g x y z → Good g w x → Good g w y → Good g w z
join_good g w (predict e a u) h k = predicted h e a u k
join_good g w (combine {r = r} {q = q} {l = l} {j = j} {i = i} {k = k} {d = d} {s = c} {m = n} {X = X} e x u is) h made' =
    let Y = q.left in
    let less : (t : Tree) → Matches g w Y t → Matches g w X t × Reads w k n (constituent g t c) = λ t m. match_less X c k n u (subst (λ Z. Matches g w Z t) is m) in
    let old : (ts : Trees) → MatchAll g w (put r.arguments d Y) ts → MatchAll g w r.arguments ts = λ ts m. weaken r.arguments ts d X Y x (λ t n. (less t n).0) m in
    let child = right_matches made' made'.trees made'.matched in
    let new = replace r.arguments h.rule.trees d X Y (node q.place made'.trees) h.rule.matched x child in
    record {
      rule = record {
        production = h.rule.production;
        filled = h.rule.filled;
        result = h.rule.result;
        arguments = map_put r.arguments d X Y x (ap category is) ∙ h.rule.arguments;
        fits = λ ts m. h.rule.fits ts (old ts m);
        trees = new.0;
        matched = new.1;
      };
      open' = h.open';
      passed = λ ts m.
          let f = find (put r.arguments d Y) ts d Y m (put_here r.arguments d X Y x) in
          let here : Reads w k n (part (all_linearized g ts) d c ++ []) = subst (λ v. Reads w k n v) (sym (append-nil (part (all_linearized g ts) d c) ∙ part_at g (all_linearized g ts) d c f.tree f.there)) (less f.tree f.matches).1 in
          passed_next (all_linearized g ts) (symbols_of g r.place l) i (Argument d c) e (h.passed ts (old ts m)) here;
      around = h.around;
    }

pub sound : (g : Grammar) (w : List ℕ) → Sound g → {f : Fact} → Chart g w f → Good g w f
sound g w s (first b) = begin_good g w s b
sound g w s (one c st) = step_good g w s st (sound g w s c)
sound g w s (two c e st) = join_good g w st (sound g w s c) (sound g w s e)

pub rule_right : (g : Grammar) (w : List ℕ) → Sound g → (r : Rule) → RuleOf g w r → Right g w r
rule_right g w s r (is_bare b) = bare_right g w s r b
rule_right g w s r (is_made c) = sound g w s c

-- A token of the frontier goes on.
pub frontier_goes_on : (g : Grammar) (w : List ℕ) (t : ℕ) → Sound g → Frontier g w t → GoesOn g w t
frontier_goes_on g w t s (before {r = r} {l = l} {j = j} {i = i} c e) =
    let h = sound g w s c in
    let A = around_dot h (Token t) e h.rule.trees h.rule.matched in
    (A.tree, A.start, (A.rest, A.parts ∙ ap (λ x. x ++ (t ∷ A.rest)) (reads_whole A.reads)))
frontier_goes_on g w t s (within {r = r} {k = k} {d = d} {s = c} {a = a} {b = b} {X = X} {u = u} ch e x y ac kn lt n) =
    let h = sound g w s ch in
    let ts = h.rule.trees in
    let σ = all_linearized g ts in
    let A = around_dot h (Argument d c) e ts h.rule.matched in
    let f = find r.arguments ts d X h.rule.matched x in
    let v = reads_front (match_read X c a b y f.matches) ac lt n in
    let is : substituted σ (Argument d c ∷ []) ≡ u ++ (t ∷ v.0) = append-nil (part σ d c) ∙ part_at g σ d c f.tree f.there ∙ v.1 in
    let all : A.front ++ u ≡ w = reads_whole (reads_join A.reads kn) in
    (A.tree, A.start, (v.0 ++ A.rest, A.parts ∙ ap (λ z. A.front ++ (z ++ A.rest)) is ∙ regroup A.front u v.0 A.rest ∙ ap (λ z. z ++ (t ∷ (v.0 ++ A.rest))) all))
  where
    regroup : (a b c d : List ℕ) → a ++ ((b ++ (t ∷ c)) ++ d) ≡ (a ++ b) ++ (t ∷ (c ++ d))
    regroup a b c d = simp append_assoc

-- A made rule for the start phrase read as the whole shows that w is complete.
pub accepts_complete : (g : Grammar) (w : List ℕ) → Sound g → Accepts g w → Complete g w
accepts_complete g w s a =
    let r = a.0 in
    let h = sound g w s a.1 in
    let m : Matches g w (start_read g w) (node r.place h.trees) = subst (λ X. Matches g w X (node r.place h.trees)) a.2 (right_matches h h.trees h.matched) in
    (node r.place h.trees, m.tree, reads_whole (match_read (start_read g w) 1 0 (length w) refl m))

-- Trees and where they stand in a list that writes them.
use Rattle.std.proofs.Common.{◌≡◌, ℕ, zero, suc, ◌+◌, ◌-◌, ◌<◌, ◌≤◌, List, [], ◌∷◌, ◌++◌, length, get_or, drop, Some, Option, unwrap_or, sym, refl, ap, ◌∙◌, subst, arith, length-drop}
use Rattle.std.proofs.lemmas.List.{drop_at, drop-drop}
use Rattle.std.specs.List.{slice_get}
use Rattle.grammar.specs.Grammar.{Grammar, Production, production_at, from_one, and_then}
use Rattle.grammar.specs.Trees.{Tree, node, Trees, none, more, TreesOf, linearized, all_linearized, part}
use Rattle.chart.specs.Written.{written, all_written, taken, pushed, trees_written}
use Rattle.chart.proofs.Written.{and_then_some, onto, tree_read, listed, AreTrees, taken_are, read_are}
use Rattle.linearize.specs.declared.nodes.Node.{Node}
use Rattle.linearize.specs.Nodes.{node_at, skipped, argument_start, Reached, TreeAt, constituent_of, Table}
use Rattle.linearize.specs.Reading.{TreesAt}

-- one tree at a position
pub tree_same : (g : Grammar) (ns : List ℕ) (i : ℕ) (s t : Tree) → TreeAt g ns i s → TreeAt g ns i t → s ≡ t
tree_same g ns i s t a b = cc

-- trees that were read are read again from their list
listed_read : (g : Grammar) (ts : List Tree) → AreTrees g ts → trees_written g (listed ts) ≡ Some ts
listed_read g [] a = refl
listed_read g (t ∷ ts) a = tree_read g t a.0.0 a.0.1 (listed ts) ts (listed_read g ts a.1)

after_tree : (g : Grammar) (ns : List ℕ) (t : Tree) (rest : List Tree) → trees_written g ns ≡ Some (t ∷ rest) → trees_written g (drop (length (written t)) ns) ≡ Some rest
after_tree g ns t rest e =
    let a = read_are g ns (t ∷ rest) e in
    let d : drop (length (written t)) ns ≡ listed rest = ap (drop (length (written t))) (sym a.1) ∙ drop_at (written t) (listed rest) (length (written t)) refl in
    ap (trees_written g) d ∙ listed_read g rest a.0.1

-- the trees after the first
pub trees_after : (g : Grammar) (ns : List ℕ) (i : ℕ) (t : Tree) (rest : List Tree) → TreesAt g ns i (t ∷ rest) → TreesAt g ns (i + length (written t)) rest
trees_after g ns i t rest e = ap (trees_written g) (sym (drop-drop (length (written t)) i ns)) ∙ after_tree g (drop i ns) t rest e

-- where a tree begins, the list has not ended
pub tree_inside : (g : Grammar) (ns : List ℕ) (i : ℕ) (t : Tree) (rest : List Tree) → TreesAt g ns i (t ∷ rest) → i < length ns
tree_inside g ns i (node p ts) rest e =
    let a = read_are g (drop i ns) (node p ts ∷ rest) e in
    let n : length (drop i ns) ≡ suc (length (all_written ts ++ listed rest)) = sym (ap length a.1) in
    omega (arith, n, length-drop i ns)

-- the parts of the tree at a position: its place, and its arguments after that
pub record Parts (g : Grammar) (ns : List ℕ) (i p : ℕ) (ts : Trees) (rest : List Tree) : Type 0 where
  pub production : Production
  pub filled : production_at g p ≡ Some production
  pub trees : TreesOf g ts production.arguments
  pub arguments : TreesAt g ns (suc i) (onto ts rest)
  pub place : get_or ns i 0 ≡ p

first_parts : (g : Grammar) (n : ℕ) (ms : List ℕ) (p : ℕ) (ts : Trees) (rest : List Tree) → trees_written g (n ∷ ms) ≡ Some (node p ts ∷ rest) → Parts g (n ∷ ms) 0 p ts rest
first_parts g n ms p ts rest e =
    let a = and_then_some (trees_written g ms) (pushed g n) (node p ts ∷ rest) e in
    let b = and_then_some (production_at g n) (λ q. and_then (taken g q.arguments a.0) (λ x. Some (node n x.0 ∷ x.1))) (node p ts ∷ rest) a.2 in
    let c = and_then_some (taken g b.0.arguments a.0) (λ x. Some (node n x.0 ∷ x.1)) (node p ts ∷ rest) b.2 in
    let t = taken_are g b.0.arguments a.0 c.0 c.1 (read_are g ms a.0 a.1).0 in
    let same : node n c.0.0 ∷ c.0.1 ≡ node p ts ∷ rest = (let f = c.2 in cc) in
    let np : n ≡ p = cc in
    let nts : c.0.0 ≡ ts = cc in
    let nrest : c.0.1 ≡ rest = cc in
    record {
      production = b.0;
      filled = ap (production_at g) (sym np) ∙ b.1;
      trees = subst (λ (x : Trees). TreesOf g x b.0.arguments) nts t.0;
      arguments = a.1 ∙ ap Some (t.2 ∙ (ap (λ (x : Trees). onto x c.0.1) nts ∙ ap (onto ts) nrest));
      place = np;
    }

pub tree_parts : (g : Grammar) (ns : List ℕ) (i p : ℕ) (ts : Trees) (rest : List Tree) → TreesAt g ns i (node p ts ∷ rest) → Parts g ns i p ts rest
tree_parts g [] zero p ts rest e = absurd (let z : ◌≡◌ {A = ℕ} 0 1 = cc in omega arith)
tree_parts g [] (suc i) p ts rest e = absurd (let z : ◌≡◌ {A = ℕ} 0 1 = cc in omega arith)
tree_parts g (n ∷ ms) zero p ts rest e = first_parts g n ms p ts rest e
tree_parts g (n ∷ ms) (suc i) p ts rest e =
    let k = tree_parts g ms i p ts rest e in
    record { production = k.production; filled = k.filled; trees = k.trees; arguments = k.arguments; place = k.place }

-- argument k, counted from 0, among the trees from the first argument on
pub argument_there : (g : Grammar) (ts : Trees) (cs : List ℕ) (rest : List Tree) (k : ℕ) → TreesOf g ts cs → k < length cs
    → (t : Tree) × (after : List Tree) × (drop k (onto ts rest) ≡ t ∷ after) × (slice_get (all_linearized g ts) k ≡ Some (linearized g t))
argument_there g none [] rest k h l = absurd (omega arith)
argument_there g none (c ∷ cs) rest k h l = absurd h
argument_there g (more t ts) [] rest k h l = absurd h
argument_there g (more t ts) (c ∷ cs) rest zero h l = (t, onto ts rest, refl, refl)
argument_there g (more t ts) (c ∷ cs) rest (suc k) h l = argument_there g ts cs rest k h.1 (omega arith)

-- from tree to tree by the ends in a table
next_trees : (trees : List Tree) (k : ℕ) (t : Tree) (after : List Tree) → drop k trees ≡ t ∷ after → drop (suc k) trees ≡ after
next_trees [] zero t after e = cc
next_trees [] (suc k) t after e = absurd (let z : [] ≡ t ∷ after = e in let y : ◌≡◌ {A = ℕ} 0 1 = cc in omega arith)
next_trees (s ∷ trees) zero t after e = cc
next_trees (s ∷ trees) (suc k) t after e = next_trees trees k t after e

cut : (trees : List Tree) (k : ℕ) → k < length trees → (t : Tree) × (after : List Tree) × (drop k trees ≡ t ∷ after)
cut [] k l = absurd (omega arith)
cut (t ∷ trees) zero l = (t, trees, refl)
cut (t ∷ trees) (suc k) l = cut trees k (omega arith)

pub skip_trees : (g : Grammar) (ns : List ℕ) (nodes : List Node) (i at : ℕ) (trees : List Tree) → Table g ns nodes i → i ≤ at → TreesAt g ns at trees → (k : ℕ) → k < length trees
    → TreesAt g ns (skipped nodes at k) (drop k trees) × (at ≤ skipped nodes at k)
skip_trees g ns nodes i at trees T a e zero l = (e, omega arith)
skip_trees g ns nodes i at trees T a e (suc k) l =
    let before = skip_trees g ns nodes i at trees T a e k (omega arith) in
    let c = cut trees k (omega arith) in
    let p = skipped nodes at k in
    let here : TreesAt g ns p (c.0 ∷ c.1) = before.0 ∙ ap Some c.2 in
    let n = T.each p (omega (arith, a, before.1)) (tree_inside g ns p c.0 c.1 here) in
    let same : n.tree ≡ c.0 = tree_same g ns p n.tree c.0 n.begins (c.1, here) in
    let end : (node_at nodes p).end ≡ p + length (written c.0) = n.ends ∙ ap (λ (t : Tree). p + length (written t)) same in (
      ap (λ (x : ℕ). trees_written g (drop x ns)) end ∙ (trees_after g ns p c.0 c.1 here ∙ ap Some (sym (next_trees trees k c.0 c.1 c.2))),
      omega (arith, end, before.1),
    )

onto_long : (g : Grammar) (ts : Trees) (cs : List ℕ) (rest : List Tree) → TreesOf g ts cs → length cs ≤ length (onto ts rest)
onto_long g none [] rest h = omega arith
onto_long g none (c ∷ cs) rest h = absurd h
onto_long g (more t ts) [] rest h = absurd h
onto_long g (more t ts) (c ∷ cs) rest h = let k = onto_long g ts cs rest h.1 in omega arith

-- argument k, counted from 1, of the tree at i: where it begins, and what it is
pub record ArgumentAt (g : Grammar) (ns : List ℕ) (nodes : List Node) (i : ℕ) (ts : Trees) (k : ℕ) : Type 0 where
  pub reached : Reached nodes i k
  pub later : i < argument_start nodes i k
  pub inside : argument_start nodes i k < length ns
  pub tree : Tree
  pub begins : TreeAt g ns (argument_start nodes i k) tree
  pub parts : (l : ℕ) → part (all_linearized g ts) k l ≡ constituent_of g tree l

pub argument_at_lem : (g : Grammar) (ns : List ℕ) (nodes : List Node) (i p : ℕ) (ts : Trees) (rest : List Tree) → Table g ns nodes (suc i) → (P : Parts g ns i p ts rest) → (k : ℕ) → 1 ≤ k → k ≤ length P.production.arguments
    → ArgumentAt g ns nodes i ts k
argument_at_lem g ns nodes i p ts rest T P zero a b = absurd (omega arith)
argument_at_lem g ns nodes i p ts rest T P (suc k) a b =
    let trees = onto ts rest in
    let many = onto_long g ts P.production.arguments rest P.trees in
    let skip : (j : ℕ) → j < suc k → TreesAt g ns (skipped nodes (suc i) j) (drop j trees) × (suc i ≤ skipped nodes (suc i) j) =
    λ j l. skip_trees g ns nodes (suc i) (suc i) trees T (omega arith) P.arguments j (omega (arith, many)) in
    let inside : (j : ℕ) → j < suc k → skipped nodes (suc i) j < length ns =
    λ j l. let c = cut trees j (omega (arith, many)) in tree_inside g ns (skipped nodes (suc i) j) c.0 c.1 ((skip j l).0 ∙ ap Some c.2) in
    let x = argument_there g ts P.production.arguments rest k P.trees (omega arith) in
    let e : k ≡ suc k - 1 = omega arith in
    let s = subst (λ (n : ℕ). TreesAt g ns (skipped nodes (suc i) n) (drop k trees) × (suc i ≤ skipped nodes (suc i) n)) e (skip k (omega arith)) in
    record {
      reached = record { counts = a; within = λ j l. omega (arith, inside j l, T.room) };
      later = omega (arith, s.1);
      inside = subst (λ (n : ℕ). skipped nodes (suc i) n < length ns) e (inside k (omega arith));
      tree = x.0;
      begins = (x.1, s.0 ∙ ap Some x.2);
      parts = λ l. ap (λ (o : Option (List (List ℕ))). unwrap_or (and_then o (λ y. from_one y l)) []) x.3;
    }

-- Trees that are taken one after another as arguments.
use Rattle.std.proofs.Common.{◌≡◌, ℕ, zero, suc, ◌+◌, ◌<◌, ◌≤◌, Bool, true, false, cond, List, [], ◌∷◌, length, get_or, drop, Some, None, Option, unwrap_or, sym, refl, ap, ◌∙◌, subst, add-one, arith, length-append, length-drop, MatchOption}
use Rattle.std.proofs.lemmas.List.{drop_all}
use Rattle.std.proofs.lemmas.Option.{slice_get-get_or, slice_get_past}
use Rattle.std.specs.List.{slice_get}
use Rattle.std.specs.Option.{option_map}
use Rattle.grammar.specs.declared.Place.{Place}
use Rattle.grammar.specs.Grammar.{Grammar, Production, production_at, place_at, argument_at, head_of, and_then}
use Rattle.grammar.specs.Trees.{Tree, node, Trees, none, more}
use Rattle.faults.specs.Parts.{arguments_of}
use Rattle.faults.specs.Sound.{Sound}
use Rattle.faults.proofs.Asked.{argument_next}
use Rattle.faults.proofs.Made.{arguments_few}
use Rattle.chart.specs.Written.{written, all_written, makes, headed, taken}
use Rattle.chart.proofs.Written.{read_are}
use Rattle.linearize.specs.declared.nodes.Node.{Node}
use Rattle.linearize.specs.Nodes.{node_at, Table}
use Rattle.linearize.specs.Reading.{TreesAt, made_at, Taken}
use Rattle.linearize.proofs.Positions.{tree_same, trees_after, tree_inside, tree_parts}

-- what the place at a position makes, and past the end
pub made_there : (g : Grammar) (ns : List ℕ) (i c : ℕ) (o : Option Place) → i < length ns → o ≡ place_at g (get_or ns i 0) → makes c (option_map (λ (h : Place). h.result) o) ≡ made_at g ns i c
made_there g ns i c o l e =
    ap (λ (x : Option Place). makes c (option_map (λ (h : Place). h.result) x)) e ∙ ap (λ (x : Option ℕ). makes c (and_then x (λ n. option_map (λ h. h.result) (place_at g n)))) (sym (slice_get-get_or ns i 0 l))

pub made_past : (g : Grammar) (ns : List ℕ) (i c : ℕ) → length ns ≤ i → made_at g ns i c ≡ false
made_past g ns i c h = ap (λ (o : Option ℕ). makes c (and_then o (λ n. option_map (λ h. h.result) (place_at g n)))) (slice_get_past ns i h)

-- what the head of the tree at a position makes
result_of : (o : Option Production) → option_map (λ (h : Place). h.result) (option_map head_of o) ≡ option_map (λ q. q.result) o
result_of None = refl
result_of (Some q) = refl

pub made_headed : (g : Grammar) (ns : List ℕ) (i c : ℕ) (t : Tree) (rest : List Tree) → TreesAt g ns i (t ∷ rest) → made_at g ns i c ≡ headed g c t
made_headed g ns i c (node p ts) rest e =
    let P = tree_parts g ns i p ts rest e in
    let there : slice_get ns i ≡ Some p = slice_get-get_or ns i 0 (tree_inside g ns i (node p ts) rest e) ∙ ap (λ (n : ℕ). Some n) P.place in
    ap (λ (o : Option ℕ). makes c (and_then o (λ n. option_map (λ h. h.result) (place_at g n)))) there ∙ ap (makes c) (result_of (production_at g p))

-- where no tree is left, the list has ended
pub trees_ended : (g : Grammar) (ns : List ℕ) (i : ℕ) → TreesAt g ns i [] → length ns ≤ i
trees_ended g ns i e = omega (arith, ap length (read_are g (drop i ns) [] e).1, length-drop i ns)

pub made_none : (g : Grammar) (ns : List ℕ) (i c : ℕ) → TreesAt g ns i [] → made_at g ns i c ≡ false
made_none g ns i c e = made_past g ns i c (trees_ended g ns i e)

-- The arguments of the categories cs from position i on are those before `at`, and then those after the first k.
pub record Walked (g : Grammar) (ns cs : List ℕ) (i k at : ℕ) : Type 0 where
  pub later : i ≤ at
  pub trees : List Tree
  pub there : TreesAt g ns at trees
  pub onward : (r : Option ℕ) → Taken g ns (drop k cs) at r → Taken g ns cs i r

pub walk_first : (g : Grammar) (ns cs : List ℕ) (i at : ℕ) → at ≡ i → ((trees : List Tree) × TreesAt g ns i trees) → Walked g ns cs i 0 at
walk_first g ns cs i at e h = subst (λ (p : ℕ). Walked g ns cs i 0 p) (sym e) (record { later = omega arith; trees = h.0; there = h.1; onward = λ r T. T })

nothing_left : {X : Type 0} (xs : List X) (k : ℕ) → None ≡ slice_get xs k → drop k xs ≡ []
nothing_left [] zero e = refl
nothing_left [] (suc k) e = refl
nothing_left (x ∷ xs) zero e = absurd (let z : ◌≡◌ {A = ℕ} 0 1 = cc in omega arith)
nothing_left (x ∷ xs) (suc k) e = nothing_left xs k e

left_from : {X : Type 0} (xs : List X) (k : ℕ) (x : X) → Some x ≡ slice_get xs k → drop k xs ≡ x ∷ drop (k + 1) xs
left_from xs k x e = go xs k x e ∙ ap (λ (n : ℕ). x ∷ drop n xs) (sym (add-one k))
  where
    go : {X : Type 0} (xs : List X) (k : ℕ) (x : X) → Some x ≡ slice_get xs k → drop k xs ≡ x ∷ drop (suc k) xs
    go [] k x e = absurd (let z : ◌≡◌ {A = ℕ} 0 1 = cc in omega arith)
    go (y ∷ xs) zero x e = let s : y ≡ x = cc in ap (λ z. z ∷ xs) s
    go (y ∷ xs) (suc k) x e = go xs k x e

-- no argument is left
walk_over : (g : Grammar) (ns cs : List ℕ) (i k at : ℕ) → Walked g ns cs i k at → drop k cs ≡ [] → Taken g ns cs i (Some at)
walk_over g ns cs i k at W e =
    W.onward (Some at) (subst (λ (ds : List ℕ). Taken g ns ds at (Some at)) (sym e) (record { trees = W.trees; there = W.there; answer = ((none, W.trees), refl, omega arith) }))

pub walk_done : (g : Grammar) (ns : List ℕ) (p i k at : ℕ) → Walked g ns (arguments_of g p) i k at → None ≡ argument_at g p (k + 1) → Taken g ns (arguments_of g p) i (Some at)
walk_done g ns p i k at W e = walk_over g ns (arguments_of g p) i k at W (nothing_left (arguments_of g p) k (e ∙ argument_next g p k))

few : (g : Grammar) → Sound g → (p : ℕ) → length (arguments_of g p) ≤ 3
few g sd p = go (production_at g p) refl
  where
    go : (o : Option Production) → production_at g p ≡ o → length (unwrap_or (option_map (λ q. q.arguments) o) []) ≤ 3
    go None e = omega arith
    go (Some q) e = arguments_few g sd p q e

pub walk_all : (g : Grammar) → Sound g → (ns : List ℕ) (p i k at : ℕ) → 3 ≤ k → Walked g ns (arguments_of g p) i k at → Taken g ns (arguments_of g p) i (Some at)
walk_all g sd ns p i k at h W = walk_over g ns (arguments_of g p) i k at W (drop_all k (arguments_of g p) (omega (arith, few g sd p)))

-- an argument of another category
pub walk_stops : (g : Grammar) (ns : List ℕ) (p i k at c : ℕ) → Walked g ns (arguments_of g p) i k at → Some c ≡ argument_at g p (k + 1) → false ≡ made_at g ns at c → Taken g ns (arguments_of g p) i None
walk_stops g ns p i k at c W e m =
    let left = left_from (arguments_of g p) k c (e ∙ argument_next g p k) in
    W.onward None (subst (λ (ds : List ℕ). Taken g ns ds at None) (sym left) (record { trees = W.trees; there = W.there; answer = other W.trees W.there }))
  where
    other : (trees : List Tree) → TreesAt g ns at trees → taken g (c ∷ drop (k + 1) (arguments_of g p)) trees ≡ None
    other [] h = refl
    other (t ∷ rest) h =
        ap (λ (b : Bool). cond b (and_then (taken g (drop (k + 1) (arguments_of g p)) rest) (λ x. Some (more t x.0, x.1))) None) (sym (made_headed g ns at c t rest h) ∙ sym m)

-- an argument more
one_more_lem : (g : Grammar) (ns cs : List ℕ) (at c : ℕ) (t : Tree) (rest : List Tree) → TreesAt g ns at (t ∷ rest) → headed g c t ≡ true → (r : Option ℕ) → Taken g ns cs (at + length (written t)) r → Taken g ns (c ∷ cs) at r
one_more_lem g ns cs at c t rest e h r T =
    let after = trees_after g ns at t rest e in
    let same : T.trees ≡ rest = (let f = T.there in cc) in
    let first : taken g (c ∷ cs) (t ∷ rest) ≡ and_then (taken g cs rest) (λ x. Some (more t x.0, x.1)) = ap (λ (b : Bool). cond b (and_then (taken g cs rest) (λ x. Some (more t x.0, x.1))) None) h in
    record { trees = t ∷ rest; there = e; answer = go r first (subst (λ (ts : List Tree). MatchOption r (taken g cs ts ≡ None) (λ n. (x : Trees × List Tree) × (taken g cs ts ≡ Some x) × (n ≡ at + length (written t) + length (all_written x.0)))) same T.answer) }
  where
    go : (r : Option ℕ) → taken g (c ∷ cs) (t ∷ rest) ≡ and_then (taken g cs rest) (λ x. Some (more t x.0, x.1))
        → MatchOption r (taken g cs rest ≡ None) (λ n. (x : Trees × List Tree) × (taken g cs rest ≡ Some x) × (n ≡ at + length (written t) + length (all_written x.0)))
        → MatchOption r (taken g (c ∷ cs) (t ∷ rest) ≡ None) (λ n. (x : Trees × List Tree) × (taken g (c ∷ cs) (t ∷ rest) ≡ Some x) × (n ≡ at + length (all_written x.0)))
    go None first a = first ∙ ap (λ (o : Option (Trees × List Tree)). and_then o (λ x. Some (more t x.0, x.1))) a
    go (Some n) first a = (
      (more t a.0.0, a.0.1),
      first ∙ ap (λ (o : Option (Trees × List Tree)). and_then o (λ x. Some (more t x.0, x.1))) a.1,
      omega (arith, a.2, length-append (written t) (all_written a.0.0)),
    )

pub walk_inside : (g : Grammar) (ns cs : List ℕ) (i k at c : ℕ) → Walked g ns cs i k at → true ≡ made_at g ns at c → at < length ns
walk_inside g ns cs i k at c W m = go W.trees W.there
  where
    go : (trees : List Tree) → TreesAt g ns at trees → at < length ns
    go [] h = absurd (let z : true ≡ false = m ∙ made_none g ns at c h in let y : ◌≡◌ {A = ℕ} 0 1 = cc in omega arith)
    go (t ∷ rest) h = tree_inside g ns at t rest h

pub walk_more : (g : Grammar) (ns : List ℕ) (nodes : List Node) (p i k at c : ℕ) → Table g ns nodes i → Walked g ns (arguments_of g p) i k at → Some c ≡ argument_at g p (k + 1) → true ≡ made_at g ns at c
    → Walked g ns (arguments_of g p) i (k + 1) (node_at nodes at).end
walk_more g ns nodes p i k at c T W e m =
    let left = left_from (arguments_of g p) k c (e ∙ argument_next g p k) in
    go left W.trees W.there
  where
    go : drop k (arguments_of g p) ≡ c ∷ drop (k + 1) (arguments_of g p) → (trees : List Tree) → TreesAt g ns at trees → Walked g ns (arguments_of g p) i (k + 1) (node_at nodes at).end
    go left [] h = absurd (let z : true ≡ false = m ∙ made_none g ns at c h in let y : ◌≡◌ {A = ℕ} 0 1 = cc in omega arith)
    go left (t ∷ rest) h =
        let n = T.each at W.later (tree_inside g ns at t rest h) in
        let same : n.tree ≡ t = tree_same g ns at n.tree t n.begins (rest, h) in
        let end : (node_at nodes at).end ≡ at + length (written t) = n.ends ∙ ap (λ (u : Tree). at + length (written u)) same in
        subst (λ (q : ℕ). Walked g ns (arguments_of g p) i (k + 1) q) (sym end)
        (record {
          later = omega (arith, W.later);
          trees = rest;
          there = trees_after g ns at t rest h;
          onward = λ r A. W.onward r (subst (λ (ds : List ℕ). Taken g ns ds at r) (sym left) (one_more_lem g ns (drop (k + 1) (arguments_of g p)) at c t rest h (sym (made_headed g ns at c t rest h) ∙ sym m) r A));
        })

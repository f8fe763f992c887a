-- A list of numbers writes at most one tree, and `start_written` finds it: `read_written`, `written_once`. Assumes nothing.
use Rattle.std.proofs.Common.{◌≡◌, ℕ, Bool, true, false, cond, eqb, ◌⊎◌, List, [], ◌∷◌, ◌++◌, Some, None, Option, sym, refl, ap, ◌∙◌, subst, inl, inr, append_assoc, arith}
use Rattle.std.specs.Option.{option_map}
use Rattle.std.specs.List.{AllByRecursion}
use Rattle.std.proofs.lemmas.List.{append-nil}
use Rattle.std.proofs.lemmas.Bool.Decides.{Decides-eqb}
use Rattle.grammar.specs.Grammar.{Grammar, production_at, and_then}
use Rattle.grammar.specs.Trees.{Tree, node, Trees, none, more, TreeOf, TreesOf, StartTree, string}
use Rattle.chart.specs.Written.{written, all_written, makes, headed, taken, pushed, trees_written, only_start, start_written}
use Rattle.chart.specs.Theorems.{WrittenOnce, WrittenOrNot, WrittenRead}

-- What `and_then`, `mapped` and `cond` answer.
pub and_then_some : {X Y : Type 0} (o : Option X) (f : X → Option Y) (y : Y) → and_then o f ≡ Some y → (x : X) × (o ≡ Some x) × (f x ≡ Some y)
and_then_some None f y e = absurd (let z : ◌≡◌ {A = ℕ} 0 1 = cc in omega arith)
and_then_some (Some x) f y e = (x, refl, e)

mapped_some : {X Y : Type 0} (f : X → Y) (o : Option X) (y : Y) → option_map f o ≡ Some y → (x : X) × (o ≡ Some x) × (f x ≡ y)
mapped_some f None y e = absurd (let z : ◌≡◌ {A = ℕ} 0 1 = cc in omega arith)
mapped_some f (Some x) y e = (x, refl, (cc))

cond_some : {X : Type 0} (b : Bool) (o : Option X) (x : X) → cond b o None ≡ Some x → (b ≡ true) × (o ≡ Some x)
cond_some true o x e = (refl, e)
cond_some false o x e = absurd (let z : ◌≡◌ {A = ℕ} 0 1 = cc in omega arith)

-- A tree's head makes its category.
tree_headed : (g : Grammar) (t : Tree) (c : ℕ) → TreeOf g t c → headed g c t ≡ true
tree_headed g (node p ts) c h = ap (λ o. makes c (option_map (λ q. q.result) o)) h.1 ∙ (Decides-eqb h.0.result c).1 h.2

headed_tree : (g : Grammar) (t : Tree) (c d : ℕ) → TreeOf g t d → headed g c t ≡ true → TreeOf g t c
headed_tree g (node p ts) c d h e =
    let is : eqb h.0.result c ≡ true = sym (ap (λ o. makes c (option_map (λ q. q.result) o)) h.1) ∙ e in
    (h.0, h.1, (Decides-eqb h.0.result c).0 is, h.3)

-- A list of trees, before others.
abbrev pub onto : Trees → List Tree → List Tree
onto none stack = stack
onto (more t ts) stack = t ∷ onto ts stack

taken_trees : (g : Grammar) (ts : Trees) (cs : List ℕ) (stack : List Tree) → TreesOf g ts cs → taken g cs (onto ts stack) ≡ Some (ts, stack)
taken_trees g none [] stack h = refl
taken_trees g none (c ∷ cs) stack h = absurd h
taken_trees g (more t ts) [] stack h = absurd h
taken_trees g (more t ts) (c ∷ cs) stack h =
    ap (λ b. cond b (and_then (taken g cs (onto ts stack)) (λ x. Some (more t x.0, x.1))) None) (tree_headed g t c h.0)
    ∙ ap (λ o. and_then o (λ x. Some (more t x.0, x.1))) (taken_trees g ts cs stack h.1)

-- What is written is read.
mutual
  pub tree_read : (g : Grammar) (t : Tree) (c : ℕ) → TreeOf g t c → (ns : List ℕ) (stack : List Tree) → trees_written g ns ≡ Some stack → trees_written g (written t ++ ns) ≡ Some (t ∷ stack)
  tree_read g (node p ts) c h ns stack e =
      ap (λ o. and_then o (pushed g p)) (trees_read g ts h.0.arguments h.3 ns stack e)
      ∙ ap (λ o. and_then o (λ q. and_then (taken g q.arguments (onto ts stack)) (λ x. Some (node p x.0 ∷ x.1)))) h.1
      ∙ ap (λ o. and_then o (λ x. Some (node p x.0 ∷ x.1))) (taken_trees g ts h.0.arguments stack h.3)

  trees_read : (g : Grammar) (ts : Trees) (cs : List ℕ) → TreesOf g ts cs → (ns : List ℕ) (stack : List Tree) → trees_written g ns ≡ Some stack → trees_written g (all_written ts ++ ns) ≡ Some (onto ts stack)
  trees_read g none [] h ns stack e = e
  trees_read g none (c ∷ cs) h ns stack e = absurd h
  trees_read g (more t ts) [] h ns stack e = absurd h
  trees_read g (more t ts) (c ∷ cs) h ns stack e =
      ap (trees_written g) (append_assoc (written t) (all_written ts) ns) ∙ tree_read g t c h.0 (all_written ts ++ ns) (onto ts stack) (trees_read g ts cs h.1 ns stack e)

-- One tree alone.
tree_alone : (g : Grammar) (t : Tree) (c : ℕ) → TreeOf g t c → trees_written g (written t) ≡ Some (t ∷ [])
tree_alone g t c h = ap (trees_written g) (sym (append-nil (written t))) ∙ tree_read g t c h [] [] refl

-- What is read was written.
abbrev pub listed : List Tree → List ℕ
listed [] = []
listed (t ∷ ts) = written t ++ listed ts

listed_onto : (ts : Trees) (stack : List Tree) → listed (onto ts stack) ≡ all_written ts ++ listed stack
listed_onto none stack = refl
listed_onto (more t ts) stack = ap (λ x. written t ++ x) (listed_onto ts stack) ∙ sym (append_assoc (written t) (all_written ts) (listed stack))

abbrev pub AreTrees : Grammar → List Tree → Type 0
AreTrees g ts = AllByRecursion (λ t. (c : ℕ) × TreeOf g t c) ts

pub taken_are : (g : Grammar) (cs : List ℕ) (stack : List Tree) (x : Trees × List Tree) → taken g cs stack ≡ Some x → AreTrees g stack
    → TreesOf g x.0 cs × AreTrees g x.1 × (stack ≡ onto x.0 x.1)
taken_are g [] stack x e h =
    let is : (none, stack) ≡ x = cc in
    subst (λ y. TreesOf g y.0 [] × AreTrees g y.1 × (stack ≡ onto y.0 y.1)) is (tt, h, refl)
taken_are g (c ∷ cs) [] x e h = absurd (let z : ◌≡◌ {A = ℕ} 0 1 = cc in omega arith)
taken_are g (c ∷ cs) (t ∷ stack) x e h =
    let k = cond_some (headed g c t) (and_then (taken g cs stack) (λ y. Some (more t y.0, y.1))) x e in
    let l = and_then_some (taken g cs stack) (λ y. Some (more t y.0, y.1)) x k.1 in
    let rest = taken_are g cs stack l.0 l.1 h.1 in
    let is : (more t l.0.0, l.0.1) ≡ x = (let f = l.2 in cc) in
    subst (λ y. TreesOf g y.0 (c ∷ cs) × AreTrees g y.1 × (t ∷ stack ≡ onto y.0 y.1)) is
    ((headed_tree g t c h.0.0 h.0.1 k.0, rest.0), rest.1, ap (λ z. t ∷ z) rest.2)

pub read_are : (g : Grammar) (ns : List ℕ) (stack : List Tree) → trees_written g ns ≡ Some stack → AreTrees g stack × (listed stack ≡ ns)
read_are g [] stack e = let is : [] ≡ stack = cc in subst (λ s. AreTrees g s × (listed s ≡ [])) is (tt, refl)
read_are g (p ∷ ns) stack e =
    let a = and_then_some (trees_written g ns) (pushed g p) stack e in
    let before = read_are g ns a.0 a.1 in
    let b = and_then_some (production_at g p) (λ q. and_then (taken g q.arguments a.0) (λ x. Some (node p x.0 ∷ x.1))) stack a.2 in
    let q = b.0 in
    let c = and_then_some (taken g q.arguments a.0) (λ x. Some (node p x.0 ∷ x.1)) stack b.2 in
    let x = c.0 in
    let parts = taken_are g q.arguments a.0 x c.1 before.0 in
    let is : node p x.0 ∷ x.1 ≡ stack = (let f = c.2 in cc) in
    let text : listed (node p x.0 ∷ x.1) ≡ p ∷ ns = ap (λ y. p ∷ y) (sym (listed_onto x.0 x.1) ∙ ap listed (sym parts.2) ∙ before.1) in
    subst (λ s. AreTrees g s × (listed s ≡ p ∷ ns)) is (((q.result, (q, b.1, refl, parts.0)), parts.1), text)

only_start_lem : (g : Grammar) (ts : List Tree) (t : Tree) → only_start g ts ≡ Some t → (ts ≡ t ∷ []) × (headed g g.start t ≡ true)
only_start_lem g [] t e = absurd (let z : ◌≡◌ {A = ℕ} 0 1 = cc in omega arith)
only_start_lem g (s ∷ []) t e =
    let k = cond_some (headed g g.start s) (Some s) t e in
    let is : s ≡ t = (let f = k.1 in cc) in
    (ap (λ x. x ∷ []) is, subst (λ x. headed g g.start x ≡ true) is k.0)
only_start_lem g (s ∷ (u ∷ us)) t e = absurd (let z : ◌≡◌ {A = ℕ} 0 1 = cc in omega arith)

start_is_read : (g : Grammar) (ns : List ℕ) (t : Tree) → start_written g ns ≡ Some t → StartTree g t × (written t ≡ ns)
start_is_read g ns t e =
    let a = and_then_some (trees_written g ns) (only_start g) t e in
    let b = only_start_lem g a.0 t a.2 in
    let c = subst (λ s. AreTrees g s × (listed s ≡ ns)) b.0 (read_are g ns a.0 a.1) in
    (headed_tree g t g.start c.0.0.0 c.0.0.1 b.1, sym (append-nil (written t)) ∙ c.1)

read_is_start : (g : Grammar) (ns : List ℕ) (t : Tree) → StartTree g t → written t ≡ ns → start_written g ns ≡ Some t
read_is_start g ns t h e =
    ap (λ o. and_then o (only_start g)) (ap (trees_written g) (sym e) ∙ tree_alone g t g.start h) ∙ ap (λ b. cond b (Some t) None) (tree_headed g t g.start h)

pub read_written : WrittenRead
read_written g ns = (
  (λ t. (start_is_read g ns t, λ h. read_is_start g ns t h.0 h.1)),
  (λ u. (
    (λ e. let a = mapped_some (string g) (start_written g ns) u e in let b = start_is_read g ns a.0 a.1 in (a.0, b.0, b.1, a.2)),
    (λ h. ap (option_map (string g)) (read_is_start g ns h.0 h.1 h.2) ∙ ap Some h.3),
  )),
)

pub written_once : WrittenOnce
written_once g s t c d h k e = let both : Some (s ∷ []) ≡ Some (t ∷ []) = sym (tree_alone g s c h) ∙ ap (trees_written g) e ∙ tree_alone g t d k in cc

pub written_or_not : WrittenOrNot
written_or_not g ns = go (start_written g ns) refl
  where
    go : (o : Option Tree) → start_written g ns ≡ o → ((t : Tree) × StartTree g t × (written t ≡ ns)) ⊎ ((t : Tree) → StartTree g t → written t ≡ ns → ⊥)
    go None e = inr (λ t h k. let f = read_is_start g ns t h k in let z : ◌≡◌ {A = ℕ} 0 1 = cc in omega arith)
    go (Some t) e = let b = start_is_read g ns t e in inl (t, b.0, b.1)

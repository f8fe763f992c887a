-- The table, filled from the right.
use Rattle.std.proofs.Common.{◌≡◌, ℕ, zero, suc, ◌+◌, ◌<◌, ◌≤◌, Bool, true, false, cond, eqb, ◌≢◌, List, [], ◌∷◌, ◌++◌, length, get_or, drop, set, Some, None, Option, unwrap_or, sym, refl, ap, ◌∙◌, subst, add-one, arith, length-append, length-set}
use Rattle.std.proofs.lemmas.List.{append-nil, drop_all, drop_more, length-map, get_or-set_same, get_or-set_other}
use Rattle.std.proofs.lemmas.Option.{slice_get_past}
use Rattle.std.proofs.lemmas.Bool.{eq-eqb, ne_eqb, eqb-true}
use Rattle.std.proofs.lemmas.Bool.Decides.{nat_tests}
use Rattle.std.specs.Option.{option_map}
use Rattle.grammar.specs.declared.Place.{Place}
use Rattle.grammar.specs.Grammar.{Grammar, Production, production_at, place_at, head_of, and_then}
use Rattle.grammar.specs.Trees.{Tree, node, Trees, linearized, all_linearized, substituted, constituents_at}
use Rattle.faults.specs.Parts.{arguments_of}
use Rattle.faults.specs.Sound.{SoundFunction, Sound}
use Rattle.faults.proofs.Made.{all_at, production_sound}
use Rattle.chart.specs.Written.{written, all_written, taken, pushed, trees_written, only_start, start_written}
use Rattle.chart.proofs.Written.{listed, read_are}
use Rattle.linearize.specs.declared.nodes.Node.{Node}
use Rattle.linearize.specs.Nodes.{node_at, blank, length_at, length_told, TreeAt, constituent_of, NodeOf, Table}
use Rattle.linearize.specs.Reading.{TreesAt, made_at, Taken, StartRead}
use Rattle.linearize.proofs.Positions.{tree_same, tree_parts}
use Rattle.linearize.proofs.Prefixes.{place_constituents}
use Rattle.linearize.proofs.Taking.{made_headed, made_none, made_past}

-- reading one number more
read_one : (g : Grammar) (ns : List ℕ) (i : ℕ) → i < length ns → trees_written g (drop i ns) ≡ and_then (trees_written g (drop (suc i) ns)) (pushed g (get_or ns i 0))
read_one g ns i h = ap (trees_written g) (drop_more ns i 0 h ∙ ap (λ (n : ℕ). get_or ns i 0 ∷ drop n ns) (add-one i))

read_pushed : (g : Grammar) (ns : List ℕ) (i : ℕ) (trees : List Tree) → i < length ns → TreesAt g ns (suc i) trees → trees_written g (drop i ns) ≡ pushed g (get_or ns i 0) trees
read_pushed g ns i trees h e = read_one g ns i h ∙ ap (λ (o : Option (List Tree)). and_then o (pushed g (get_or ns i 0))) e

-- an empty place
empty : (o : Option Production) → None ≡ option_map head_of o → o ≡ None
empty None e = refl
empty (Some q) e = absurd (let z : ◌≡◌ {A = ℕ} 0 1 = cc in omega arith)

pub no_place : (g : Grammar) (ns : List ℕ) (i : ℕ) → i < length ns → ((trees : List Tree) × TreesAt g ns (suc i) trees) → None ≡ place_at g (get_or ns i 0) → trees_written g (drop i ns) ≡ None
no_place g ns i h t e =
    let p = get_or ns i 0 in
    read_pushed g ns i t.0 h t.1 ∙ ap (λ (o : Option Production). and_then o (λ q. and_then (taken g q.arguments t.0) (λ x. Some (node p x.0 ∷ x.1)))) (empty (production_at g p) e)

-- a filled place
filled : (o : Option Production) (x : Place) → Some x ≡ option_map head_of o → (q : Production) × (o ≡ Some q)
filled None x e = absurd (let z : ◌≡◌ {A = ℕ} 0 1 = cc in omega arith)
filled (Some q) x e = (q, refl)

filled_pushed : (g : Grammar) (p : ℕ) (q : Production) (trees : List Tree) → production_at g p ≡ Some q → pushed g p trees ≡ and_then (taken g (arguments_of g p) trees) (λ x. Some (node p x.0 ∷ x.1))
filled_pushed g p q trees e =
    let args : arguments_of g p ≡ q.arguments = ap (λ (o : Option Production). unwrap_or (option_map (λ y. y.arguments) o) []) e in
    ap (λ (o : Option Production). and_then o (λ y. and_then (taken g y.arguments trees) (λ x. Some (node p x.0 ∷ x.1)))) e
    ∙ ap (λ (cs : List ℕ). and_then (taken g cs trees) (λ x. Some (node p x.0 ∷ x.1))) (sym args)

pub no_arguments : (g : Grammar) (ns : List ℕ) (i : ℕ) (x : Place) → i < length ns → Some x ≡ place_at g (get_or ns i 0) → Taken g ns (arguments_of g (get_or ns i 0)) (suc i) None → trees_written g (drop i ns) ≡ None
no_arguments g ns i x h e T =
    let p = get_or ns i 0 in
    let q = filled (production_at g p) x e in
    read_pushed g ns i T.trees h T.there ∙ (filled_pushed g p q.0 T.trees q.1 ∙ ap (λ (o : Option (Trees × List Tree)). and_then o (λ y. Some (node p y.0 ∷ y.1))) T.answer)

-- The tree at i, and where it ends.
abbrev pub Read : Grammar → List ℕ → ℕ → ℕ → Type 0
Read g ns i e = (t : Tree) × TreeAt g ns i t × (e ≡ i + length (written t))

pub tree_read : (g : Grammar) (ns : List ℕ) (i e : ℕ) (x : Place) → i < length ns → Some x ≡ place_at g (get_or ns i 0) → Taken g ns (arguments_of g (get_or ns i 0)) (suc i) (Some e) → Read g ns i e
tree_read g ns i e x h f T =
    let p = get_or ns i 0 in
    let q = filled (production_at g p) x f in
    let a = T.answer in
    let is : trees_written g (drop i ns) ≡ Some (node p a.0.0 ∷ a.0.1) =
    read_pushed g ns i T.trees h T.there ∙ (filled_pushed g p q.0 T.trees q.1 ∙ ap (λ (o : Option (Trees × List Tree)). and_then o (λ y. Some (node p y.0 ∷ y.1))) a.1) in
    (node p a.0.0, (a.0.1, is), omega (arith, a.2))

-- a tree of a sound grammar has at most three constituents
few_constituents : (g : Grammar) → Sound g → (ns : List ℕ) (i : ℕ) (t : Tree) → TreeAt g ns i t → length (linearized g t) ≤ 3
few_constituents g sd ns i (node p ts) a =
    let P = tree_parts g ns i p ts a.0 a.1 in
    let S = production_sound g sd p P.production P.filled in
    let F = all_at (SoundFunction g.tokens) g.functions P.production.function S.its sd.each_function S.function in
    omega (arith, length-map (constituents_at g p) (substituted (all_linearized g ts)), ap length (place_constituents g p P.production S.its P.filled S.function), F.count)

past_constituents : (g : Grammar) (t : Tree) (l : ℕ) → length (linearized g t) ≤ 3 → 3 ≤ l → constituent_of g t (suc l) ≡ []
past_constituents g t l h k = ap (λ (o : Option (List ℕ)). unwrap_or o []) (slice_get_past (linearized g t) l (omega arith))

length_other : (n : Node) (l : ℕ) → 4 ≤ l → length_at n l ≡ 0
length_other n l h = grind (arith, nat_tests)

pub node_read : (g : Grammar) → Sound g → (ns : List ℕ) (i e a b c : ℕ) → Read g ns i e
    → ((t : Tree) → TreeAt g ns i t → a ≡ length_told (length (constituent_of g t 1))) → ((t : Tree) → TreeAt g ns i t → b ≡ length_told (length (constituent_of g t 2))) → ((t : Tree) → TreeAt g ns i t → c ≡ length_told (length (constituent_of g t 3)))
    → NodeOf g ns i (record { end = e; first = a; second = b; third = c })
node_read g sd ns i e a b c R x y z = record { tree = R.0; begins = R.1; ends = R.2; lengths = each }
  where
    each : (l : ℕ) → length_at (record { end = e; first = a; second = b; third = c }) l ≡ length_told (length (constituent_of g R.0 l))
    each zero = refl
    each (suc zero) = x R.0 R.1
    each (suc (suc zero)) = y R.0 R.1
    each (suc (suc (suc zero))) = z R.0 R.1
    each (suc (suc (suc (suc l)))) =
        length_other (record { end = e; first = a; second = b; third = c }) (suc (suc (suc (suc l)))) (omega arith)
        ∙ sym (ap (λ (u : List ℕ). length_told (length u)) (past_constituents g R.0 (suc (suc (suc l))) (few_constituents g sd ns i R.0 R.1) (omega arith)))

-- the table before any number is read, and after one more
pub table_none : (g : Grammar) (ns : List ℕ) (nodes : List Node) → length ns ≤ length nodes → Table g ns nodes (length ns) × ((trees : List Tree) × TreesAt g ns (length ns) trees)
table_none g ns nodes h = (record { room = h; each = λ j a b. absurd (omega arith) }, ([], ap (trees_written g) (drop_all (length ns) ns (omega arith))))

pub table_more : (g : Grammar) (ns : List ℕ) (nodes : List Node) (i : ℕ) (n : Node) → i < length ns → Table g ns nodes (suc i) → NodeOf g ns i n → Table g ns (set nodes i n) i × ((trees : List Tree) × TreesAt g ns i trees)
table_more g ns nodes i n h T N = (record { room = omega (arith, T.room, length-set nodes i n); each = each }, (N.tree ∷ N.begins.0, N.begins.1))
  where
    at : (j : ℕ) → j ≡ i → NodeOf g ns j (node_at (set nodes i n) j)
    at j e = subst (λ (k : ℕ). NodeOf g ns k (node_at (set nodes i n) k)) (sym e) (subst (NodeOf g ns i) (sym (get_or-set_same nodes i n blank (omega (arith, T.room)))) N)

    after : (j : ℕ) → i < j → j < length ns → NodeOf g ns j (node_at (set nodes i n) j)
    after j a b = let ne : j ≢ i = omega arith in subst (NodeOf g ns j) (sym (get_or-set_other nodes i j n blank ne)) (T.each j (omega arith) b)

    go : (j : ℕ) (b : Bool) → eqb j i ≡ b → i ≤ j → j < length ns → NodeOf g ns j (node_at (set nodes i n) j)
    go j true e a k = at j (eqb-true j i e)
    go j false e a k = after j (let ne : j ≢ i = (λ same. let z : false ≡ true = sym e ∙ eq-eqb j i same in let y : ◌≡◌ {A = ℕ} 0 1 = cc in omega arith) in omega arith) k

    each : (j : ℕ) → i ≤ j → j < length ns → NodeOf g ns j (node_at (set nodes i n) j)
    each j a b = go j (eqb j i) refl a b

-- where the list from i on writes no trees, neither does the whole
pub none_whole : (g : Grammar) (ns : List ℕ) (i : ℕ) → trees_written g (drop i ns) ≡ None → trees_written g ns ≡ None
none_whole g ns zero e = e
none_whole g [] (suc i) e = e
none_whole g (n ∷ ns) (suc i) e = ap (λ (o : Option (List Tree)). and_then o (pushed g n)) (none_whole g ns i e)

-- the start tree
pub start_none : (g : Grammar) (ns : List ℕ) → trees_written g ns ≡ None → start_written g ns ≡ None
start_none g ns e = ap (λ (o : Option (List Tree)). and_then o (only_start g)) e

start_from : (g : Grammar) (ns : List ℕ) (trees : List Tree) → trees_written g ns ≡ Some trees → start_written g ns ≡ only_start g trees
start_from g ns trees e = ap (λ (o : Option (List Tree)). and_then o (only_start g)) e

pub start_other : (g : Grammar) (ns : List ℕ) (c : ℕ) → c ≡ g.start → ((trees : List Tree) × TreesAt g ns 0 trees) → false ≡ made_at g ns 0 c → start_written g ns ≡ None
start_other g ns c is T made = start_from g ns T.0 T.1 ∙ go T.0 T.1
  where
    m : made_at g ns 0 g.start ≡ false
    m = ap (made_at g ns 0) (sym is) ∙ sym made

    go : (trees : List Tree) → TreesAt g ns 0 trees → only_start g trees ≡ None
    go [] h = refl
    go (t ∷ []) h = ap (λ (b : Bool). cond b (Some t) None) (sym (made_headed g ns 0 g.start t [] h) ∙ m)
    go (t ∷ (u ∷ us)) h = refl

pub start_inside : (g : Grammar) (ns : List ℕ) (c : ℕ) → true ≡ made_at g ns 0 c → 0 < length ns
start_inside g [] c m = absurd (let z : true ≡ false = m ∙ made_past g [] 0 c (omega arith) in let y : ◌≡◌ {A = ℕ} 0 1 = cc in omega arith)
start_inside g (n ∷ ns) c m = omega arith

pub start_made : (g : Grammar) (ns : List ℕ) (nodes : List Node) (c : ℕ) → c ≡ g.start → Table g ns nodes 0 × ((trees : List Tree) × TreesAt g ns 0 trees) → true ≡ made_at g ns 0 c → StartRead g ns nodes (eqb (node_at nodes 0).end (length ns))
start_made g ns nodes c is R made = go R.1.0 R.1.1
  where
    T : Table g ns nodes 0
    T = R.0

    m : made_at g ns 0 g.start ≡ true
    m = ap (made_at g ns 0) (sym is) ∙ sym made

    end : (t : Tree) (rest : List Tree) → TreesAt g ns 0 (t ∷ rest) → (node_at nodes 0).end ≡ length (written t)
    end t rest h =
        let n = T.each 0 (omega arith) (start_inside g ns c made) in
        let same : n.tree ≡ t = tree_same g ns 0 n.tree t n.begins (rest, h) in
        let at : (node_at nodes 0).end ≡ 0 + length (written t) = n.ends ∙ ap (λ (u : Tree). 0 + length (written u)) same in
        omega (arith, at)

    go : (trees : List Tree) → TreesAt g ns 0 trees → StartRead g ns nodes (eqb (node_at nodes 0).end (length ns))
    go [] h = absurd (let z : true ≡ false = sym m ∙ made_none g ns 0 g.start h in let y : ◌≡◌ {A = ℕ} 0 1 = cc in omega arith)
    go (t ∷ []) h =
        let whole : written t ++ [] ≡ ns = (read_are g ns (t ∷ []) h).1 in
        let is : eqb (node_at nodes 0).end (length ns) ≡ true = eq-eqb (node_at nodes 0).end (length ns) (end t [] h ∙ (ap length (sym (append-nil (written t))) ∙ ap length whole)) in
        let only : start_written g ns ≡ Some t = start_from g ns (t ∷ []) h ∙ ap (λ (b : Bool). cond b (Some t) None) (sym (made_headed g ns 0 g.start t [] h) ∙ m) in
        subst (StartRead g ns nodes) (sym is) (T, (t, ([], h), only))
    go (t ∷ (node p ts ∷ us)) h =
        let whole : written t ++ (p ∷ (all_written ts ++ listed us)) ≡ ns = (read_are g ns (t ∷ (node p ts ∷ us)) h).1 in
        let long : length ns ≡ length (written t) + suc (length (all_written ts ++ listed us)) = sym (ap length whole) ∙ length-append (written t) (p ∷ (all_written ts ++ listed us)) in
        let is : eqb (node_at nodes 0).end (length ns) ≡ false = ne_eqb (node_at nodes 0).end (length ns) (λ same. omega (arith, end t (node p ts ∷ us) h, long)) in
        subst (StartRead g ns nodes) (sym is) (start_from g ns (t ∷ (node p ts ∷ us)) h)

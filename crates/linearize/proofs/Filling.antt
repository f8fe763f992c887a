-- The turns of writing a constituent, symbol by symbol.
use Rattle.std.proofs.Common.{◌≡◌, ℕ, suc, ◌+◌, ◌<◌, ◌≤◌, List, [], ◌∷◌, ◌++◌, length, get_or, set, Some, sym, refl, ap, ◌∙◌, subst, arith, length-append}
use Rattle.std.proofs.lemmas.List.{append-nil, nil_from_length}
use Rattle.std.specs.List.{slice_get}
use Rattle.grammar.specs.declared.Symbol.{Symbol}
use Rattle.grammar.specs.declared.Symbol.TheVariants.{Token, Argument}
use Rattle.grammar.specs.Grammar.{Grammar}
use Rattle.grammar.specs.Trees.{Tree}
use Rattle.chart.specs.Chart.{symbols_of}
use Rattle.faults.specs.Sound.{Sound}
use Rattle.linearize.specs.declared.nodes.Node.{Node}
use Rattle.linearize.specs.Nodes.{node_at, length_at, argument_start, length_told, TreeAt, constituent_of, Table}
use Rattle.linearize.specs.Writing.{Put}
use Rattle.linearize.proofs.Positions.{tree_same}
use Rattle.linearize.proofs.Prefixes.{prefix_of, prefix_first, prefix_within, ArgumentStep, SymbolStep, symbol_step}
use Rattle.linearize.proofs.Putting.{put_none, put_one, put_more}

pub table_later : (g : Grammar) (ns : List ℕ) (nodes : List Node) (i j : ℕ) → i ≤ j → Table g ns nodes i → Table g ns nodes j
table_later g ns nodes i j h T = record { room = T.room; each = λ k a b. T.each k (omega arith) b }

-- one symbol more of the tree at i, where the table is filled from i on
pub token_step : (g : Grammar) → Sound g → (ns : List ℕ) (nodes : List Node) (i : ℕ) (t : Tree) → Table g ns nodes i → TreeAt g ns i t → (l j : ℕ) (s : Symbol) (x : ℕ) → s ≡ Token x → Some s ≡ slice_get (symbols_of g (get_or ns i 0) l) j
    → SymbolStep g ns nodes i t l j (Token x)
token_step g sd ns nodes i t T a l j s x e f =
    symbol_step g sd ns nodes i t (table_later g ns nodes i (suc i) (omega arith) T) a l j (Token x) (subst (λ (y : Symbol). Some y ≡ slice_get (symbols_of g (get_or ns i 0) l) j) e f)

pub argument_step : (g : Grammar) → Sound g → (ns : List ℕ) (nodes : List Node) (i : ℕ) (t : Tree) → Table g ns nodes i → TreeAt g ns i t → (l j : ℕ) (s : Symbol) (k m : ℕ) → s ≡ Argument k m → Some s ≡ slice_get (symbols_of g (get_or ns i 0) l) j
    → ArgumentStep g ns nodes i t l j k m
argument_step g sd ns nodes i t T a l j s k m e f =
    symbol_step g sd ns nodes i t (table_later g ns nodes i (suc i) (omega arith) T) a l j (Argument k m) (subst (λ (y : Symbol). Some y ≡ slice_get (symbols_of g (get_or ns i 0) l) j) e f)

-- The first j symbols of a constituent are put from a position on, up to another.
abbrev pub Filled : Grammar → Tree → ℕ → ℕ → ℕ → ℕ → List ℕ → List ℕ → Type 0
Filled g t l j from at before out = (at ≡ from + length (prefix_of g t l j)) × Put (prefix_of g t l j) from before out

pub filled_as : (g : Grammar) (t : Tree) (l j from at to : ℕ) (before out after : List ℕ) → to ≡ at → after ≡ out → Filled g t l j from at before out → Filled g t l j from to before after
filled_as g t l j from at to before out after e f F = (e ∙ F.0, f ∙ F.1)

-- There is a tree at i, and room for its constituent.
abbrev pub Room : Grammar → List ℕ → ℕ → ℕ → ℕ → ℕ → Type 0
Room g ns i l from n = (t : Tree) × TreeAt g ns i t × (from + length (constituent_of g t l) ≤ n)

pub room_for : (g : Grammar) (ns : List ℕ) (i l from n : ℕ) → Room g ns i l from n → (t : Tree) → TreeAt g ns i t → (j : ℕ) → from + length (prefix_of g t l j) ≤ n
room_for g ns i l from n R t a j =
    let same : R.0 ≡ t = tree_same g ns i R.0 t R.1 a in
    omega (arith, prefix_within g t l j, subst (λ (u : Tree). from + length (constituent_of g u l) ≤ n) same R.2)

pub fill_first : (g : Grammar) (t : Tree) (l from : ℕ) (before : List ℕ) → Filled g t l 0 from from before before
fill_first g t l from before =
    let e = prefix_first g t l in
    subst (λ (u : List ℕ). (from ≡ from + length u) × Put u from before before) (sym e) (omega arith, put_none from before)

pub fill_last : (g : Grammar) (t : Tree) (l j from at : ℕ) (before out : List ℕ) → prefix_of g t l j ≡ constituent_of g t l → Filled g t l j from at before out
    → (at ≡ from + length (constituent_of g t l)) × Put (constituent_of g t l) from before out
fill_last g t l j from at before out e F = subst (λ (u : List ℕ). (at ≡ from + length u) × Put u from before out) e F

-- one string after another
join : (P Q v : List ℕ) (from at to : ℕ) (before between after : List ℕ) → Q ≡ P ++ v → from + length Q ≤ length before → (at ≡ from + length P) × Put P from before between → (to ≡ at + length v) × Put v at between after
    → (to ≡ from + length Q) × Put Q from before after
join P Q v from at to before between after e room a b =
    let long : length Q ≡ length P + length v = ap length e ∙ length-append P v in
    let put : Put v (from + length P) between after = subst (λ (x : ℕ). Put v x between after) a.0 b.1 in
    (omega (arith, long, a.0, b.0), subst (λ (u : List ℕ). Put u from before after) (sym e) (put_more P v from before between after (omega arith) a.1 put))

-- a token
pub token_room : (g : Grammar) (ns : List ℕ) (nodes : List Node) (i : ℕ) (t : Tree) (l j x from at n : ℕ) → SymbolStep g ns nodes i t l j (Token x) → at ≡ from + length (prefix_of g t l j) → from + length (prefix_of g t l (j + 1)) ≤ n → at < n
token_room g ns nodes i t l j x from at n S a room = omega (arith, a, room, ap length S ∙ length-append (prefix_of g t l j) (x ∷ []))

pub fill_token : (g : Grammar) (ns : List ℕ) (nodes : List Node) (i : ℕ) (t : Tree) (l j x from at : ℕ) (before between : List ℕ) → SymbolStep g ns nodes i t l j (Token x) → length between ≡ length before
    → from + length (prefix_of g t l (j + 1)) ≤ length before → Filled g t l j from at before between → Filled g t l (j + 1) from (at + 1) before (set between at x)
fill_token g ns nodes i t l j x from at before between S long room F =
    let inside = token_room g ns nodes i t l j x from at (length before) S F.0 room in
    join (prefix_of g t l j) (prefix_of g t l (j + 1)) (x ∷ []) from at (at + 1) before between (set between at x) S room F (refl, put_one x at between (omega arith))

-- a constituent of the argument that begins at a
pub argument_room : (g : Grammar) (ns : List ℕ) (nodes : List Node) (i : ℕ) (t : Tree) (l j k m from at a n : ℕ) → (S : ArgumentStep g ns nodes i t l j k m) → a ≡ argument_start nodes i k → at ≡ from + length (prefix_of g t l j)
    → from + length (prefix_of g t l (j + 1)) ≤ n → Room g ns a m at n
argument_room g ns nodes i t l j k m from at a n S e f room =
    let long : length (prefix_of g t l (j + 1)) ≡ length (prefix_of g t l j) + length (constituent_of g S.tree m) = ap length S.grows ∙ length-append (prefix_of g t l j) (constituent_of g S.tree m) in
    (S.tree, subst (λ (x : ℕ). TreeAt g ns x S.tree) (sym e) S.begins, omega (arith, long, f, room))

pub fill_argument : (g : Grammar) (ns : List ℕ) (nodes : List Node) (i : ℕ) (t : Tree) (l j k m from at to a : ℕ) (before between after : List ℕ) → (S : ArgumentStep g ns nodes i t l j k m) → a ≡ argument_start nodes i k
    → from + length (prefix_of g t l (j + 1)) ≤ length before → Filled g t l j from at before between
    → ((u : Tree) → TreeAt g ns a u → (to ≡ at + length (constituent_of g u m)) × Put (constituent_of g u m) at between after) → Filled g t l (j + 1) from to before after
fill_argument g ns nodes i t l j k m from at to a before between after S e room F h =
    join (prefix_of g t l j) (prefix_of g t l (j + 1)) (constituent_of g S.tree m) from at to before between after S.grows room F (h S.tree (subst (λ (x : ℕ). TreeAt g ns x S.tree) (sym e) S.begins))

-- a constituent with no token
told_none : (n r : ℕ) → r ≤ 0 → r ≡ length_told n → n ≡ 0
told_none n r h e = omega arith

pub fill_nothing : (g : Grammar) (ns : List ℕ) (nodes : List Node) (i : ℕ) (t : Tree) (l j k m from at a r : ℕ) (before out : List ℕ) → Table g ns nodes i → (S : ArgumentStep g ns nodes i t l j k m) → a ≡ argument_start nodes i k
    → r ≡ length_at (node_at nodes a) m → r ≤ 0 → Filled g t l j from at before out → Filled g t l (j + 1) from at before out
fill_nothing g ns nodes i t l j k m from at a r before out T S e h z F =
    let b = argument_start nodes i k in
    let n = T.each b (omega (arith, S.later)) S.inside in
    let same : n.tree ≡ S.tree = tree_same g ns b n.tree S.tree n.begins S.begins in
    let v = constituent_of g S.tree m in
    let told : r ≡ length_told (length v) = h ∙ (ap (λ (x : ℕ). length_at (node_at nodes x) m) e ∙ (n.lengths m ∙ ap (λ (u : Tree). length_told (length (constituent_of g u m))) same)) in
    let nothing : v ≡ [] = nil_from_length v (told_none (length v) r z told) in
    let grows : prefix_of g t l (j + 1) ≡ prefix_of g t l j = S.grows ∙ (ap (λ (u : List ℕ). prefix_of g t l j ++ u) nothing ∙ append-nil (prefix_of g t l j)) in
    subst (λ (u : List ℕ). (at ≡ from + length u) × Put u from before out) (sym grows) F

-- What linearizing answers, from the table of the list.
use Rattle.std.proofs.Common.{◌≡◌, ℕ, ◌+◌, ◌<◌, ◌≤◌, List, ◌++◌, length, drop, Some, None, Ok, Err, Option, is_some, true, false, sym, refl, ap, ◌∙◌, subst, inr, zero-add, arith}
use Rattle.std.specs.Option.{ok_or}
use Rattle.grammar.specs.Grammar.{Grammar}
use Rattle.grammar.specs.Trees.{Tree, string}
use Rattle.chart.specs.Written.{start_written}
use Rattle.chart.proofs.Written.{read_written}
use Rattle.linearize.specs.declared.nodes.Node.{Node}
use Rattle.linearize.specs.declared.refusal.Unlinearized.TheVariants.{TooShort}
use Rattle.linearize.specs.Nodes.{node_at, length_told, most_length, TreeAt, constituent_of, Table}
use Rattle.linearize.specs.Reading.{StartRead}
use Rattle.linearize.specs.Writing.{Put}
use Rattle.linearize.specs.Linearizes.{Writes, WritesNone, Linearizes}
use Rattle.linearize.proofs.Positions.{tree_same, tree_inside}

-- The start tree, and the table that tells of it.
abbrev pub Started : Grammar → List ℕ → List Node → Type 0
Started g ns nodes = Table g ns nodes 0 × ((t : Tree) × TreeAt g ns 0 t × (start_written g ns ≡ Some t))

pub started_lem : (g : Grammar) (ns : List ℕ) (nodes : List Node) (o : Option (Unit {0})) → is_some o ≡ true → StartRead g ns nodes (is_some o) → Started g ns nodes
started_lem g ns nodes o e r = subst (StartRead g ns nodes) e r

pub refused_lem : {T E : Type 0} (o : Option T) (e f : E) → is_some o ≡ false → ok_or o e ≡ Err f → f ≡ e
refused_lem None e f n h = cc
refused_lem (Some x) e f n h = cc

pub writes_none_lem : (g : Grammar) (ns : List ℕ) → start_written g ns ≡ None → WritesNone g ns
writes_none_lem g ns e = inr (λ t h k. let f = ((read_written g ns).0 t).1 (h, k) in let z : ◌≡◌ {A = ℕ} 0 1 = cc in omega arith)

abbrev writes : (g : Grammar) (ns : List ℕ) (nodes : List Node) → length ns ≤ 256 → Started g ns nodes → Writes g ns
writes g ns nodes h S =
    let a = ((read_written g ns).0 S.1.0).0 S.1.2 in
    record { few = h; tree = S.1.0; start = a.0; listed = a.1 }

-- what the first node tells of the string
string_told : (g : Grammar) (ns : List ℕ) (nodes : List Node) → (S : Started g ns nodes) → (node_at nodes 0).first ≡ length_told (length (string g S.1.0))
string_told g ns nodes S =
    let t = S.1.0 in
    let b = S.1.1 in
    let n = S.0.each 0 (omega arith) (tree_inside g ns 0 t b.0 b.1) in
    let same : n.tree ≡ t = tree_same g ns 0 n.tree t n.begins b in
    n.lengths 1 ∙ ap (λ (u : Tree). length_told (length (string g u))) same

told_over : (n m : ℕ) → m < most_length → m < length_told n → m < n
told_over n m h k = omega arith

told_within : (n m : ℕ) → m < most_length → length_told n ≤ m → n ≤ m
told_within n m h k = omega arith

pub too_short_lem : (g : Grammar) (ns : List ℕ) (nodes : List Node) (before : List ℕ) → length ns ≤ 256 → length before < most_length → Started g ns nodes → length before < (node_at nodes 0).first → Linearizes g ns before before (Err TooShort)
too_short_lem g ns nodes before h k S over =
    (writes g ns nodes h S, told_over (length (string g S.1.0)) (length before) k (subst (λ (n : ℕ). length before < n) (string_told g ns nodes S) over), refl)

pub room_there : (g : Grammar) (ns : List ℕ) (nodes : List Node) (n : ℕ) → n < most_length → Started g ns nodes → (node_at nodes 0).first ≤ n → (t : Tree) × TreeAt g ns 0 t × (0 + length (constituent_of g t 1) ≤ n)
room_there g ns nodes n k S within =
    let fits = told_within (length (string g S.1.0)) n k (subst (λ (m : ℕ). m ≤ n) (string_told g ns nodes S) within) in
    (S.1.0, S.1.1, omega (arith, fits))

pub put_string : (g : Grammar) (ns : List ℕ) (nodes : List Node) (before after : List ℕ) (r : ℕ) → length ns ≤ 256 → length before < most_length → Started g ns nodes → (node_at nodes 0).first ≤ length before
    → ((t : Tree) → TreeAt g ns 0 t → (r ≡ 0 + length (constituent_of g t 1)) × Put (constituent_of g t 1) 0 before after) → Linearizes g ns before after (Ok r)
put_string g ns nodes before after r h k S within put =
    let t = S.1.0 in
    let p = put t S.1.1 in
    let n : r ≡ length (string g t) = p.0 ∙ zero-add (length (string g t)) in
    (writes g ns nodes h S, n, omega (arith, n, told_within (length (string g t)) (length before) k (subst (λ (m : ℕ). m ≤ length before) (string_told g ns nodes S) within)), p.1 ∙ ap (λ (m : ℕ). string g t ++ drop m before) (sym p.0))

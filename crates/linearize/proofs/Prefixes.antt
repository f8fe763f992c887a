-- The string of the first symbols of a constituent, and one symbol more.
use Rattle.std.proofs.Common.{◌≡◌, ℕ, zero, suc, ◌+◌, ◌<◌, ◌≤◌, min, List, [], ◌∷◌, ◌++◌, length, get_or, take, drop, Some, None, Option, unwrap_or, sym, refl, ap, ◌∙◌, add-one, arith, length-append}
use Rattle.std.proofs.lemmas.List.{append-nil, append_assoc, take-append-drop, take_all}
use Rattle.std.specs.List.{slice_get, AllByRecursion}
use Rattle.std.specs.Option.{option_map}
use Rattle.grammar.specs.declared.Symbol.{Symbol}
use Rattle.grammar.specs.declared.Symbol.TheVariants.{Token, Argument}
use Rattle.grammar.specs.Grammar.{Grammar, Function, Production, production_at, from_one, and_then}
use Rattle.grammar.specs.Trees.{Tree, node, Trees, all_linearized, part, substituted, constituents_at}
use Rattle.chart.specs.Chart.{symbols_of}
use Rattle.faults.specs.Sound.{SymbolNamed, SoundConstituent, SoundFunction, Sound}
use Rattle.faults.proofs.Made.{all_at, production_sound}
use Rattle.steps.proofs.Bridge.{few_at}
use Rattle.steps.proofs.Reading.{from_mapped}
use Rattle.linearize.specs.declared.nodes.Node.{Node}
use Rattle.linearize.specs.Nodes.{argument_start, Reached, symbol_length, SymbolReached, length_told, TreeAt, constituent_of, Table}
use Rattle.linearize.proofs.Positions.{tree_parts, tree_same, argument_at_lem}

-- The string of the first j symbols of constituent l of a tree.
abbrev pub prefix_of : Grammar → Tree → ℕ → ℕ → List ℕ
prefix_of g (node p ts) l j = substituted (all_linearized g ts) (take j (symbols_of g p l))

abbrev symbol_string : List (List (List ℕ)) → Symbol → List ℕ
symbol_string σ (Token t) = t ∷ []
symbol_string σ (Argument k l) = part σ k l

substituted_append : (σ : List (List (List ℕ))) (α β : List Symbol) → substituted σ (α ++ β) ≡ substituted σ α ++ substituted σ β
substituted_append σ [] β = refl
substituted_append σ (Token t ∷ α) β = ap (λ (u : List ℕ). t ∷ u) (substituted_append σ α β)
substituted_append σ (Argument k l ∷ α) β =
    ap (λ (u : List ℕ). part σ k l ++ u) (substituted_append σ α β) ∙ sym (append_assoc (part σ k l) (substituted σ α) (substituted σ β))

one_string : (σ : List (List (List ℕ))) (s : Symbol) → substituted σ (s ∷ []) ≡ symbol_string σ s
one_string σ (Token t) = refl
one_string σ (Argument k l) = append-nil (part σ k l)

-- a constituent is the string of all its symbols
whole : (σ : List (List (List ℕ))) (o : Option (List Symbol)) → unwrap_or (option_map (substituted σ) o) [] ≡ substituted σ (unwrap_or o [])
whole σ None = refl
whole σ (Some α) = refl

constituent_whole : (g : Grammar) (p : ℕ) (ts : Trees) (l : ℕ) → constituent_of g (node p ts) l ≡ substituted (all_linearized g ts) (symbols_of g p l)
constituent_whole g p ts l =
    ap (λ (o : Option (List ℕ)). unwrap_or o []) (from_mapped (substituted (all_linearized g ts)) (constituents_at g p) l) ∙ whole (all_linearized g ts) (from_one (constituents_at g p) l)

pub prefix_first : (g : Grammar) (t : Tree) (l : ℕ) → prefix_of g t l 0 ≡ []
prefix_first g (node p ts) l = refl

pub prefix_within : (g : Grammar) (t : Tree) (l j : ℕ) → length (prefix_of g t l j) ≤ length (constituent_of g t l)
prefix_within g (node p ts) l j =
    let σ = all_linearized g ts in
    let α = symbols_of g p l in
    let e : constituent_of g (node p ts) l ≡ substituted σ (take j α) ++ substituted σ (drop j α) =
    constituent_whole g p ts l ∙ (ap (substituted σ) (sym (take-append-drop j α)) ∙ substituted_append σ (take j α) (drop j α)) in
    omega (arith, ap length e, length-append (substituted σ (take j α)) (substituted σ (drop j α)))

none_past : {X : Type 0} (xs : List X) (j : ℕ) → None ≡ slice_get xs j → length xs ≤ j
none_past [] j e = omega arith
none_past (x ∷ xs) zero e = absurd (let z : ◌≡◌ {A = ℕ} 0 1 = cc in omega arith)
none_past (x ∷ xs) (suc j) e = let h = none_past xs j e in omega arith

pub prefix_ends : (g : Grammar) (ns : List ℕ) (i : ℕ) (t : Tree) → TreeAt g ns i t → (l j : ℕ) → None ≡ slice_get (symbols_of g (get_or ns i 0) l) j → prefix_of g t l j ≡ constituent_of g t l
prefix_ends g ns i (node p ts) a l j e =
    let P = tree_parts g ns i p ts a.0 a.1 in
    let past = none_past (symbols_of g p l) j (e ∙ ap (λ (x : ℕ). slice_get (symbols_of g x l) j) P.place) in
    ap (substituted (all_linearized g ts)) (take_all j (symbols_of g p l) past) ∙ sym (constituent_whole g p ts l)

pub prefix_all : (g : Grammar) → Sound g → (t : Tree) (l j : ℕ) → 16 ≤ j → prefix_of g t l j ≡ constituent_of g t l
prefix_all g sd (node p ts) l j h =
    let few : length (symbols_of g p l) ≤ 16 = few_at g sd l (production_at g p) in
    ap (substituted (all_linearized g ts)) (take_all j (symbols_of g p l) (omega arith)) ∙ sym (constituent_whole g p ts l)

take_next : {X : Type 0} (xs : List X) (j : ℕ) (x : X) → slice_get xs j ≡ Some x → take (suc j) xs ≡ take j xs ++ (x ∷ [])
take_next [] j x e = absurd (let z : ◌≡◌ {A = ℕ} 0 1 = cc in omega arith)
take_next (y ∷ xs) zero x e = let h : y ≡ x = cc in ap (λ z. z ∷ []) h
take_next (y ∷ xs) (suc j) x e = ap (λ zs. y ∷ zs) (take_next xs j x e)

prefix_more : (g : Grammar) (p : ℕ) (ts : Trees) (l j : ℕ) (s : Symbol) → slice_get (symbols_of g p l) j ≡ Some s
    → prefix_of g (node p ts) l (j + 1) ≡ prefix_of g (node p ts) l j ++ symbol_string (all_linearized g ts) s
prefix_more g p ts l j s e =
    let σ = all_linearized g ts in
    let α = symbols_of g p l in
    let t : take (j + 1) α ≡ take j α ++ (s ∷ []) = ap (λ (n : ℕ). take n α) (add-one j) ∙ take_next α j s e in
    ap (substituted σ) t ∙ (substituted_append σ (take j α) (s ∷ []) ∙ ap (λ (u : List ℕ). substituted σ (take j α) ++ u) (one_string σ s))

-- in a sound grammar an argument that a symbol asks for is there
named_in : (tokens arity : ℕ) (cs : List (List Symbol)) → AllByRecursion (SoundConstituent tokens arity) cs → (l j : ℕ) (s : Symbol) → slice_get (unwrap_or (from_one cs l) []) j ≡ Some s → SymbolNamed tokens arity s
named_in tokens arity cs h zero j s e = absurd (let z : ◌≡◌ {A = ℕ} 0 1 = cc in omega arith)
named_in tokens arity [] h (suc l) j s e = absurd (let z : ◌≡◌ {A = ℕ} 0 1 = cc in omega arith)
named_in tokens arity (α ∷ cs) h (suc zero) j s e = all_at (SymbolNamed tokens arity) α j s h.0.named e
named_in tokens arity (α ∷ cs) h (suc (suc l)) j s e = named_in tokens arity cs h.1 (suc l) j s e

pub place_constituents : (g : Grammar) (p : ℕ) (q : Production) (f : Function) → production_at g p ≡ Some q → slice_get g.functions q.function ≡ Some f → constituents_at g p ≡ f.constituents
place_constituents g p q f e h =
    ap (λ (o : Option Production). unwrap_or (and_then o (λ x. and_then (slice_get g.functions x.function) (λ y. Some y.constituents))) []) e
    ∙ ap (λ (o : Option Function). unwrap_or (and_then o (λ y. Some y.constituents)) []) h

argument_named : (g : Grammar) → Sound g → (p : ℕ) (q : Production) → production_at g p ≡ Some q → (l j k m : ℕ) → slice_get (symbols_of g p l) j ≡ Some (Argument k m) → (1 ≤ k) × (k ≤ length q.arguments)
argument_named g sd p q e l j k m h =
    let S = production_sound g sd p q e in
    let F = all_at (SoundFunction g.tokens) g.functions q.function S.its sd.each_function S.function in
    let c = place_constituents g p q S.its e S.function in
    let n : SymbolNamed g.tokens S.its.arity (Argument k m) =
    named_in g.tokens S.its.arity S.its.constituents F.each l j (Argument k m) (ap (λ (cs : List (List Symbol)). slice_get (unwrap_or (from_one cs l) []) j) (sym c) ∙ h) in
    (n.0, omega (arith, n.1, S.arguments))

-- One symbol more of the tree at i: a token, or a constituent of an argument that begins later.
pub record ArgumentStep (g : Grammar) (ns : List ℕ) (nodes : List Node) (i : ℕ) (t : Tree) (l j k m : ℕ) : Type 0 where
  pub reached : Reached nodes i k
  pub later : i < argument_start nodes i k
  pub inside : argument_start nodes i k < length ns
  pub tree : Tree
  pub begins : TreeAt g ns (argument_start nodes i k) tree
  pub grows : prefix_of g t l (j + 1) ≡ prefix_of g t l j ++ constituent_of g tree m

abbrev pub SymbolStep : Grammar → List ℕ → List Node → ℕ → Tree → ℕ → ℕ → Symbol → Type 0
SymbolStep g ns nodes i t l j (Token x) = prefix_of g t l (j + 1) ≡ prefix_of g t l j ++ (x ∷ [])
SymbolStep g ns nodes i t l j (Argument k m) = ArgumentStep g ns nodes i t l j k m

pub symbol_step : (g : Grammar) → Sound g → (ns : List ℕ) (nodes : List Node) (i : ℕ) (t : Tree) → Table g ns nodes (suc i) → TreeAt g ns i t → (l j : ℕ) (s : Symbol) → Some s ≡ slice_get (symbols_of g (get_or ns i 0) l) j
    → SymbolStep g ns nodes i t l j s
symbol_step g sd ns nodes i (node p ts) T a l j (Token x) e =
    let P = tree_parts g ns i p ts a.0 a.1 in
    prefix_more g p ts l j (Token x) (ap (λ (y : ℕ). slice_get (symbols_of g y l) j) (sym P.place) ∙ sym e)
symbol_step g sd ns nodes i (node p ts) T a l j (Argument k m) e =
    let P = tree_parts g ns i p ts a.0 a.1 in
    let there : slice_get (symbols_of g p l) j ≡ Some (Argument k m) = ap (λ (y : ℕ). slice_get (symbols_of g y l) j) (sym P.place) ∙ sym e in
    let n = argument_named g sd p P.production P.filled l j k m there in
    let A = argument_at_lem g ns nodes i p ts a.0 T P k n.0 n.1 in
    record {
      reached = A.reached;
      later = A.later;
      inside = A.inside;
      tree = A.tree;
      begins = A.begins;
      grows = prefix_more g p ts l j (Argument k m) there ∙ ap (λ (u : List ℕ). prefix_of g (node p ts) l j ++ u) (A.parts m);
    }

pub step_reached : (g : Grammar) (ns : List ℕ) (nodes : List Node) (i : ℕ) (t : Tree) (l j : ℕ) (s : Symbol) → SymbolStep g ns nodes i t l j s → SymbolReached nodes i s
step_reached g ns nodes i t l j (Token x) S = tt
step_reached g ns nodes i t l j (Argument k m) S = S.reached

-- what is told of a sum of lengths
told_sum : (a b r : ℕ) → r ≡ min (length_told a + length_told b) 18446744073709551615 → r ≡ length_told (a + b)
told_sum a b r e = omega arith

-- the length that the table tells of a symbol's string
length_more : (g : Grammar) (ns : List ℕ) (nodes : List Node) (i : ℕ) (t : Tree) → Table g ns nodes (suc i) → (l j : ℕ) (s : Symbol) → SymbolStep g ns nodes i t l j s
    → (n : ℕ) × (symbol_length nodes i s ≡ length_told n) × (length (prefix_of g t l (j + 1)) ≡ length (prefix_of g t l j) + n)
length_more g ns nodes i t T l j (Token x) S = (1, refl, ap length S ∙ length-append (prefix_of g t l j) (x ∷ []))
length_more g ns nodes i t T l j (Argument k m) S =
    let a = argument_start nodes i k in
    let n = T.each a (omega (arith, S.later)) S.inside in
    let same : n.tree ≡ S.tree = tree_same g ns a n.tree S.tree n.begins S.begins in (
      length (constituent_of g S.tree m),
      n.lengths m ∙ ap (λ (u : Tree). length_told (length (constituent_of g u m))) same,
      ap length S.grows ∙ length-append (prefix_of g t l j) (constituent_of g S.tree m),
    )

pub total_more : (g : Grammar) (ns : List ℕ) (nodes : List Node) (i : ℕ) (t : Tree) → Table g ns nodes (suc i) → (l j : ℕ) (s : Symbol) → SymbolStep g ns nodes i t l j s
    → (total here sum : ℕ) → total ≡ length_told (length (prefix_of g t l j)) → here ≡ symbol_length nodes i s → sum ≡ min (total + here) 18446744073709551615 → sum ≡ length_told (length (prefix_of g t l (j + 1)))
total_more g ns nodes i t T l j s S total here sum a b c =
    let n = length_more g ns nodes i t T l j s S in
    let e : sum ≡ min (length_told (length (prefix_of g t l j)) + length_told n.0) 18446744073709551615 = c ∙ (ap (λ (x : ℕ). min (x + here) 18446744073709551615) a ∙ ap (λ (x : ℕ). min (length_told (length (prefix_of g t l j)) + x) 18446744073709551615) (b ∙ n.1)) in
    told_sum (length (prefix_of g t l j)) n.0 sum e ∙ ap length_told (sym n.2)

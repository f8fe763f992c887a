-- Strings that are put into a list one after another.
use Rattle.std.proofs.Common.{◌≡◌, ℕ, ◌+◌, ◌<◌, ◌≤◌, List, [], ◌∷◌, ◌++◌, length, take, drop, set, sym, ap, ◌∙◌, add-zero, add_assoc, add-one, length-append}
use Rattle.std.proofs.lemmas.List.{append_assoc, length-take-le, take-append-drop, take_at, drop_at, drop-drop, set_split}
use Rattle.linearize.specs.Writing.{Put}

pub put_none : (i : ℕ) (before : List ℕ) → Put [] i before before
put_none i before = sym (ap (λ (n : ℕ). take i before ++ drop n before) (add-zero i) ∙ take-append-drop i before)

pub put_one : (t i : ℕ) (before : List ℕ) → i < length before → Put (t ∷ []) i before (set before i t)
put_one t i before h = set_split before i t h ∙ ap (λ (n : ℕ). take i before ++ (t ∷ drop n before)) (sym (add-one i))

pub put_more : (u v : List ℕ) (i : ℕ) (before between after : List ℕ) → i ≤ length before → Put u i before between → Put v (i + length u) between after → Put (u ++ v) i before after
put_more u v i before between after h a b =
    let front = take i before ++ u in
    let back = drop (i + length u) before in
    let split : between ≡ front ++ back = a ∙ sym (append_assoc (take i before) u back) in
    let long : length front ≡ i + length u = length-append (take i before) u ∙ ap (λ (n : ℕ). n + length u) (length-take-le i before h) in
    let kept : take (i + length u) between ≡ front = ap (take (i + length u)) split ∙ take_at front back (i + length u) long in
    let rest : drop (i + length u) between ≡ back = ap (drop (i + length u)) split ∙ drop_at front back (i + length u) long in
    let last : drop (i + length u + length v) between ≡ drop (i + length (u ++ v)) before =
    sym (drop-drop (length v) (i + length u) between)
    ∙ (ap (drop (length v)) rest ∙ (drop-drop (length v) (i + length u) before ∙ ap (λ (n : ℕ). drop n before) (add_assoc i (length u) (length v) ∙ ap (λ (n : ℕ). i + n) (sym (length-append u v))))) in
    b
    ∙ (ap (λ (x : List ℕ). x ++ (v ++ drop (i + length u + length v) between)) kept
    ∙ (ap (λ (x : List ℕ). front ++ (v ++ x)) last
    ∙ (append_assoc (take i before) u (v ++ drop (i + length (u ++ v)) before) ∙ ap (λ (x : List ℕ). take i before ++ x) (sym (append_assoc u v (drop (i + length (u ++ v)) before))))))

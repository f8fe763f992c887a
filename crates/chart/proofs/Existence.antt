-- Every tree that matches the left side of a rule of the chart is derived from it: `deriv_exists`. The grammar is sound.
use Rattle.std.proofs.Common.{◌≡◌, ℕ, List, length, replicate, Some, unwrap_or, sym, refl, ap, subst}
use Rattle.grammar.specs.Grammar.{Grammar, from_one}
use Rattle.grammar.specs.Trees.{Tree, node, StartTree, string}
use Rattle.chart.specs.Sound.{Sound}
use Rattle.chart.specs.Chart.{unread, read, Phrase, Rule, Fact, made, item, Reads, put, reading_at, read_as, bare, BareRule, Begin, begin, Step, scan, predict_bare, finish, copy, Join, predict, combine, Chart, first, one, two, RuleOf, is_bare, is_made, start_read}
use Rattle.chart.proofs.Spans.{reads_whole, whole_reads}
use Rattle.chart.proofs.Matching.{Matches, constituent, match_less, match_more, match_read}
use Rattle.chart.proofs.Soundness.{Good, sound, tree_bare}
use Rattle.chart.proofs.Completeness.{rule_of, Deriv, deriv_bare, deriv_matches, Advances, advance, complete_accepts}
use Rattle.chart.proofs.Starts.{Started, started}

-- Every tree that matches X is derived from it.
abbrev pub Derives : Grammar → List ℕ → Phrase → Type 0
Derives g w X = (t : Tree) → Matches g w X t → Deriv g w t X

abbrev pub LeftDerives : Grammar → List ℕ → Fact → Type 0
LeftDerives g w (made r) = Derives g w r.left
LeftDerives g w (item r l j i k) = Derives g w r.left

bare_derives : (g : Grammar) (w : List ℕ) (r : Rule) → BareRule g r → Derives g w r.left
bare_derives g w r b = subst (λ x. Derives g w x.left) (sym b.is) (λ t m. deriv_bare g w t b.production.result m.tree)

-- A tree that is derived from X, and whose constituent l is read where the rules of X start, is derived with l read.
derived_read : (g : Grammar) (w : List ℕ) (X : Phrase) (l j k : ℕ) → ((q : Rule) → RuleOf g w q → q.left ≡ X → Chart g w (item q l j 0 j))
    → (t : Tree) → Deriv g w t X → Advances g w t → Reads w j k (constituent g t l) → Deriv g w t (read_as X l j k)
derived_read g w X l j k start (node p ts) d a h =
    let done = (a X d.0 l j d.2 (start (rule_of X p d.0) d.1 refl)).0 k h in
    (done.0, is_made done.1, done.2)

derives_begin : (g : Grammar) (w : List ℕ) {z : Fact} → Begin g z → LeftDerives g w z
derives_begin g w (begin {r = r} b c) = bare_derives g w r b

derives_step : (g : Grammar) (w : List ℕ) → Sound g → {x z : Fact} → Step g w x z → Good g w x → Started g w x → LeftDerives g w x → LeftDerives g w z
derives_step g w s (scan e n) h st d = d
derives_step g w s (predict_bare {q = q} e a u b) h st d = bare_derives g w q b
derives_step g w s (finish {r = r} {l = l} {j = j} {k = k} e) h st d = λ t m.
    let less = match_less r.left l j k h.open' m in
    derived_read g w r.left l j k st.1 t (d t less.0) (advance g w s t) less.1
derives_step g w s (copy e x y ab kn) h st d = d

derives_join : (g : Grammar) (w : List ℕ) {x y z : Fact} → Join g x y z → LeftDerives g w x → LeftDerives g w y → LeftDerives g w z
derives_join g w (predict e a u) d f = f
derives_join g w (combine e x u is) d f = d

pub left_derives : (g : Grammar) (w : List ℕ) → Sound g → {z : Fact} → Chart g w z → LeftDerives g w z
left_derives g w s (first b) = derives_begin g w b
left_derives g w s (one c st) = derives_step g w s st (sound g w s c) (started g w s c) (left_derives g w s c)
left_derives g w s (two c d st) = derives_join g w st (left_derives g w s c) (left_derives g w s d)

pub deriv_exists : (g : Grammar) (w : List ℕ) → Sound g → (r : Rule) → RuleOf g w r → Derives g w r.left
deriv_exists g w s r (is_bare b) = bare_derives g w r b
deriv_exists g w s r (is_made c) = left_derives g w s c

-- The start trees with the string w are those derived from the start phrase read as the whole of w.
pub start_derived : (g : Grammar) (w : List ℕ) → Sound g → (t : Tree) → StartTree g t → string g t ≡ w → Deriv g w t (start_read g w)
start_derived g w s t h e =
    let a = complete_accepts g w s (t, h, e) in
    let here : reading_at (bare g g.start) 1 ≡ Some unread = ap (λ o. from_one (replicate (unwrap_or o 0) unread) 1) s.start in
    let is : read_as (bare g g.start) 1 0 (length w) ≡ start_read g w = ap (λ o. record { category = g.start; readings = put (replicate (unwrap_or o 0) unread) 1 (read 0 (length w)) }) s.start in
    let whole : Reads w 0 (length w) (string g t) = subst (λ v. Reads w 0 (length w) v) (sym e) (whole_reads w) in
    let m : Matches g w (start_read g w) t = subst (λ X. Matches g w X t) is (match_more (bare g g.start) 1 0 (length w) here (tree_bare g w s t g.start h) whole) in
    subst (λ X. Derives g w X) a.2 (left_derives g w s a.1) t m

pub derived_start : (g : Grammar) (w : List ℕ) → Sound g → (t : Tree) → Deriv g w t (start_read g w) → StartTree g t × (string g t ≡ w)
derived_start g w s t d =
    let m = deriv_matches g w s t (start_read g w) d in
    (m.tree, reads_whole (match_read (start_read g w) 1 0 (length w) refl m))

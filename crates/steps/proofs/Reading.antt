-- A phrase is another with one more constituent read.
use Rattle.std.proofs.Common.{◌≡◌, ℕ, zero, suc, Bool, true, false, List, [], ◌∷◌, map, Some, None, Option, Decides, sym, refl, ap, ◌∙◌, subst}
use Rattle.std.specs.Bool.{then_some}
use Rattle.std.specs.List.{slice_get}
use Rattle.std.specs.Option.{option_map}
use Rattle.grammar.specs.Grammar.{from_one}
use Rattle.chart.specs.Chart as chart
use Rattle.chart.specs.Chart.{Reading, unread, read, put, read_as}
use Rattle.chart.proofs.Matching.{put_here}
use Rattle.cells.specs.declared.Span.{Span}
use Rattle.cells.specs.declared.Span.TheVariants.{Unread, Read}
use Rattle.cells.specs.declared.Short.{Short}
use Rattle.cells.specs.declared.Phrase.{Phrase}
use Rattle.cells.specs.Facts.{list_of, reading_of, phrase_of}
use Rattle.cells.proofs.Meant.{phrase_apart}
use Rattle.steps.specs.Steps.{ReadFrom}
use Rattle.steps.proofs.Bridge.{map_put}

nth_mapped : {X Y : Type 0} (f : X → Y) (xs : List X) (i : ℕ) → slice_get (map f xs) i ≡ option_map f (slice_get xs i)
nth_mapped f [] i = refl
nth_mapped f (x ∷ xs) zero = refl
nth_mapped f (x ∷ xs) (suc i) = nth_mapped f xs i

pub from_mapped : {X Y : Type 0} (f : X → Y) (xs : List X) (i : ℕ) → from_one (map f xs) i ≡ option_map f (from_one xs i)
from_mapped f xs zero = refl
from_mapped f xs (suc i) = nth_mapped f xs i

span_read : (o : Option Span) (k m : ℕ) → option_map reading_of o ≡ Some (read k m) → o ≡ Some (Read k m)
span_read None k m e = cc
span_read (Some Unread) k m e = cc
span_read (Some (Read a b)) k m e = cc

-- then that constituent is read so
pub span_there : (x y : Phrase) (s k m : ℕ) → from_one (list_of x.spans) s ≡ Some Unread → phrase_of y ≡ read_as (phrase_of x) s k m → from_one (list_of y.spans) s ≡ Some (Read k m)
span_there x y s k m u e =
    let before : from_one (map reading_of (list_of x.spans)) s ≡ Some unread = from_mapped reading_of (list_of x.spans) s ∙ ap (option_map reading_of) u in
    let after : from_one (map reading_of (list_of y.spans)) s ≡ Some (read k m) =
    ap (λ (z : chart.Phrase). from_one z.readings s) e ∙ put_here (map reading_of (list_of x.spans)) s unread (read k m) before in
    span_read (from_one (list_of y.spans) s) k m (sym (from_mapped reading_of (list_of y.spans) s) ∙ after)

-- the phrase so read
pub whole_read : (x : Phrase) (spans : Short Span) (s k m : ℕ) → list_of spans ≡ put (list_of x.spans) s (Read k m) → phrase_of (record { category = x.category; spans = spans }) ≡ read_as (phrase_of x) s k m
whole_read x spans s k m e =
    let z : map reading_of (list_of spans) ≡ put (map reading_of (list_of x.spans)) s (read k m) = ap (map reading_of) e ∙ map_put reading_of (list_of x.spans) s (Read k m) in
    let phrase : List Reading → chart.Phrase = λ rs. record { category = x.category; readings = rs } in
    ap phrase z

pub not_read : (x y : Phrase) (s k : ℕ) (o : Option Span) → from_one (list_of x.spans) s ≡ Some Unread → o ≡ from_one (list_of y.spans) s → ((m : ℕ) → o ≡ Some (Read k m) → ⊥) → (m : ℕ) → phrase_of y ≡ read_as (phrase_of x) s k m → ⊥
not_read x y s k o u e other m r = other m (e ∙ span_there x y s k m u r)

-- whether y is the phrase so read tells it
decided_by : (x y whole : Phrase) (s k end : ℕ) (same : Bool) → Decides same (y ≡ whole) → from_one (list_of x.spans) s ≡ Some Unread → Some (Read k end) ≡ from_one (list_of y.spans) s → phrase_of whole ≡ read_as (phrase_of x) s k end → ReadFrom x s k y (then_some same end)
decided_by x y whole s k end true d u at w = ap phrase_of (d.0 refl) ∙ w
decided_by x y whole s k end false d u at w =
    λ m r.
    let there : Some (Read k end) ≡ Some (Read k m) = at ∙ span_there x y s k m u r in
    let same : m ≡ end = cc in
    let no = d.1 (phrase_apart y whole (r ∙ (ap (read_as (phrase_of x) s k) same ∙ sym w))) in
    cc

pub read_decided : (x y whole : Phrase) (s k end : ℕ) (same : Bool) (r : Option ℕ) → from_one (list_of x.spans) s ≡ Some Unread → Some (Read k end) ≡ from_one (list_of y.spans) s → phrase_of whole ≡ read_as (phrase_of x) s k end → Decides same (y ≡ whole)
    → r ≡ then_some same end → ReadFrom x s k y r
read_decided x y whole s k end same r u at w d e = subst (ReadFrom x s k y) (sym e) (decided_by x y whole s k end same d u at w)

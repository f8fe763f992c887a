-- The value of a rule, with one argument after another looked up: `product_first`, `product_more`, `product_all`.
use Rattle.std.proofs.Common.{◌≡◌, ℕ, zero, suc, ◌+◌, ◌-◌, ◌<◌, List, [], ◌∷◌, ◌++◌, map, length, get_or, take, Some, None, Option, sym, refl, ap, ◌∙◌, arith}
use Rattle.std.specs.List.{slice_get}
use Rattle.std.specs.Option.{option_map}
use Rattle.std.proofs.lemmas.List.{map-append}
use Rattle.std.proofs.lemmas.List.Sums.{fold-append}
use Rattle.grammar.specs.Grammar.{Grammar, from_one}
use Rattle.faults.specs.Sound.{Sound}
use Rattle.faults.proofs.Made.{all_at}
use Rattle.chart.specs.Chart as chart
use Rattle.chart.specs.Chart.{RuleOf, is_bare, is_made}
use Rattle.chart.proofs.Faultless.{faultless_sound}
use Rattle.chart.proofs.Shapes.{made_shaped}
use Rattle.algebra.specs.Sums.{product_of}
use Rattle.cells.specs.declared.Cell.{Cell}
use Rattle.cells.specs.declared.Phrase.{Phrase}
use Rattle.cells.specs.declared.Rule.{Rule}
use Rattle.cells.specs.declared.Short.{Short}
use Rattle.cells.specs.declared.Short.TheVariants.{Nil, One, Two, Three}
use Rattle.cells.specs.Facts.{list_of, phrase_of, rule_of}
use Rattle.steps.proofs.Reading.{from_mapped}
use Rattle.weigh.specs.declared.table.Table.{Table}
use Rattle.weigh.specs.Weighed.{Ready, Known, First, ReadyRule, ReadyPhrase, ArgumentIs, ProductIs}
use Rattle.weigh.proofs.Indexing.{rule_known, place_inside}

-- the place of a rule is one of the grammar
pub place_known : (g : Grammar) (w : List ℕ) → Sound g → (r : chart.Rule) → RuleOf g w r → r.place < length g.places
place_known g w s r (is_bare b) = let e : r.place ≡ b.place = ap (λ (v : chart.Rule). v.place) b.is in omega (arith, e, place_inside g b.place b.production b.live.filled)
place_known g w s r (is_made c) = let h = made_shaped g w (faultless_sound g s) c in place_inside g r.place h.production h.filled

-- thing i of a list, counted from 1
from_one_nth : {X : Type 0} (xs : List X) (i : ℕ) (o : Option X) → 0 < i → from_one xs i ≡ o → slice_get xs (i - 1) ≡ o
from_one_nth xs zero o pos e = absurd (omega arith)
from_one_nth xs (suc i) o pos e = let z : suc i - 1 ≡ i = omega arith in ap (slice_get xs) z ∙ e

take_nth : {X : Type 0} (xs : List X) (i : ℕ) (x : X) → slice_get xs i ≡ Some x → take (suc i) xs ≡ take i xs ++ (x ∷ [])
take_nth [] i x e = absurd (let z : ◌≡◌ {A = ℕ} 0 1 = cc in omega arith)
take_nth {X} (y ∷ xs) zero x e = let same : y ≡ x = cc in ap (λ (v : X). v ∷ []) same
take_nth {X} (y ∷ xs) (suc i) x e = ap (λ (l : List X). y ∷ l) (take_nth xs i x e)

take_past : {X : Type 0} (xs : List X) (i : ℕ) → slice_get xs i ≡ None → take (suc i) xs ≡ take i xs
take_past [] zero e = refl
take_past [] (suc i) e = refl
take_past (y ∷ xs) zero e = absurd (let z : ◌≡◌ {A = ℕ} 0 1 = cc in omega arith)
take_past {X} (y ∷ xs) (suc i) e = ap (λ (l : List X). y ∷ l) (take_past xs i e)

-- an argument has a working value
argument_known : (g : Grammar) (w : List ℕ) (r : Rule) (d : ℕ) (a : Phrase) → Sound g → RuleOf g w (rule_of r) → 0 < d → from_one (list_of r.arguments) d ≡ Some a → Known g w (phrase_of a)
argument_known g w r d a s h pos e =
    all_at (Known g w) (map phrase_of (list_of r.arguments)) (d - 1) (phrase_of a) (rule_known g w s (rule_of r) h)
    (from_one_nth (map phrase_of (list_of r.arguments)) d (Some (phrase_of a)) pos (from_mapped phrase_of (list_of r.arguments) d ∙ ap (option_map phrase_of) e))

pub ready_argument : (cs : List Cell) (t : Table) (weights : List ℕ) (r : Rule) (d : ℕ) (a : Phrase) → ReadyRule cs t weights r → 0 < d → from_one (list_of r.arguments) d ≡ Some a → ReadyPhrase cs t a
ready_argument cs t weights r d a h pos e = (h.0, h.1, h.2, h.3, argument_known h.0 h.1 r d a h.3.sound h.4 pos e)

-- v is the value of a rule with no more than its arguments before d, counted from 1
abbrev pub ProductTo : {A : Type 0} → (A → A → A) → (ℕ → A) → List Cell → Table → List ℕ → List ℕ → Rule → ℕ → A → Type 0
ProductTo {A} times reads cs t weights work r d v =
    (g : Grammar) (w : List ℕ) (phrases : List chart.Phrase) (f : chart.Phrase → A) → Ready g w cs t phrases → RuleOf g w (rule_of r) → First reads g phrases work f
    → v ≡ product_of times (reads (get_or weights r.place 0)) (map f (map phrase_of (take (d - 1) (list_of r.arguments))))

module _ {A : Type 0} (times : A → A → A) (reads : ℕ → A) (cs : List Cell) (t : Table) (weights work : List ℕ) (r : Rule) where
  pub product_first : (v : A) → v ≡ reads (get_or weights r.place 0) → ProductTo times reads cs t weights work r 1 v
  product_first v e g w phrases f h ro row = e

  pub product_more : (d : ℕ) (a : Phrase) (v x y : A) → 0 < d → from_one (list_of r.arguments) d ≡ Some a → ProductTo times reads cs t weights work r d v → ArgumentIs reads cs t work a x → y ≡ times v x → ProductTo times reads cs t weights work r (d + 1) y
  product_more d a v x y pos there to ex ey g w phrases f h ro row =
      let u = reads (get_or weights r.place 0) in
      let args : List Phrase = list_of r.arguments in
      let z : (d + 1) - 1 ≡ suc (d - 1) = omega (arith, pos) in
      let before : List Phrase = take (d - 1) args in
      let more : take ((d + 1) - 1) args ≡ before ++ (a ∷ []) = ap (λ (n : ℕ). take n args) z ∙ take_nth args (d - 1) a (from_one_nth args d (Some a) pos there) in
      let values : map f (map phrase_of (before ++ (a ∷ []))) ≡ map f (map phrase_of before) ++ (f (phrase_of a) ∷ []) =
      ap (map f) (map-append phrase_of before (a ∷ [])) ∙ map-append f (map phrase_of before) (phrase_of a ∷ []) in
      let vb = to g w phrases f h ro row in
      let xa = ex g w phrases f h (argument_known g w r d a h.sound ro pos there) row in
      ey
      ∙ (ap (λ (q : A). times q x) vb
      ∙ (ap (times (product_of times u (map f (map phrase_of before)))) xa
      ∙ (sym (fold-append times u (map f (map phrase_of before)) (f (phrase_of a) ∷ []))
      ∙ (ap (product_of times u) (sym values) ∙ ap (λ (l : List Phrase). product_of times u (map f (map phrase_of l))) (sym more)))))

  pub product_same : (d : ℕ) (v : A) → 0 < d → from_one (list_of r.arguments) d ≡ None → ProductTo times reads cs t weights work r d v → ProductTo times reads cs t weights work r (d + 1) v
  product_same d v pos none to g w phrases f h ro row =
      let args : List Phrase = list_of r.arguments in
      let z : (d + 1) - 1 ≡ suc (d - 1) = omega (arith, pos) in
      let same : take ((d + 1) - 1) args ≡ take (d - 1) args = ap (λ (n : ℕ). take n args) z ∙ take_past args (d - 1) (from_one_nth args d None pos none) in
      to g w phrases f h ro row ∙ ap (λ (l : List Phrase). product_of times (reads (get_or weights r.place 0)) (map f (map phrase_of l))) (sym same)

  all_three : (args : Short Phrase) → take 3 (list_of args) ≡ list_of args
  all_three Nil = refl
  all_three (One a) = refl
  all_three (Two a b) = refl
  all_three (Three a b c) = refl

  pub product_all : (d : ℕ) (v : A) → d ≡ 4 → ProductTo times reads cs t weights work r d v → ProductIs times reads cs t weights work r v
  product_all d v e to g w phrases f h ro row =
      let z : d - 1 ≡ 3 = omega (arith, e) in
      to g w phrases f h ro row
      ∙ ap (λ (l : List Phrase). product_of times (reads (get_or weights r.place 0)) (map f (map phrase_of l))) (ap (λ (n : ℕ). take n (list_of r.arguments)) z ∙ all_three r.arguments)

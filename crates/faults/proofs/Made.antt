-- What a sound grammar gives, and that a grammar without a fault is sound.
use Rattle.std.proofs.Common.{◌≡◌, ℕ, zero, suc, ◌<◌, ◌≤◌, Bool, false, not, ◌||◌, eqb, ltb, ◌≢◌, List, [], ◌∷◌, ◌++◌, map, length, take, Some, None, Option, sym, refl, ap, ◌∙◌, subst, arith}
use Rattle.std.proofs.lemmas.List.{take_all}
use Rattle.std.proofs.lemmas.Bool.{or_parts, eqb-false, eqb-true, ltb-false, leb-false, not-false, both_ways}
use Rattle.std.specs.List.{slice_get, AllByRecursion}
use Rattle.std.specs.Option.{option_flatten}
use Rattle.grammar.specs.declared.Symbol.{Symbol}
use Rattle.grammar.specs.declared.Symbol.TheVariants.{Token, Argument}
use Rattle.grammar.specs.Grammar.{Grammar, Production, production_at, dimension_at, and_then}
use Rattle.grammar.specs.Grammar as grammar
use Rattle.faults.specs.declared.refusal.Counted.TheVariants.{Tokens, Categories, Functions, Places}
use Rattle.faults.specs.declared.refusal.Thing.TheVariants.{Count, Category, Start, Function, Place}
use Rattle.faults.specs.Faults.{all_counted, fault_of, first_things, first_fault, dimension_over, symbols_over, function_over, symbol_unnamed, function_unnamed, category_unnamed, production_unnamed, symbol_unfit, function_unfit, production_unfit}
use Rattle.faults.specs.Sound.{SymbolNamed, SoundConstituent, SoundFunction, SymbolFits, SoundProduction, SoundPlace, Sound}
use Rattle.faults.specs.Tests.{some_of, there_and, absent_or}
use Rattle.faults.proofs.Asked.{same_some, none_some}
use Rattle.faults.proofs.Order.{both_none, none_parts, none_below}
use Rattle.faults.proofs.Whole.{tests_pass, something_there, nothing_there}

-- what holds of each element holds of the one that stands at a number
pub all_at : {X : Type 0} (P : X → Type 0) (xs : List X) (i : ℕ) (x : X) → AllByRecursion P xs → slice_get xs i ≡ Some x → P x
all_at P [] i x a e = absurd (none_some x (sym e))
all_at P (y ∷ ys) zero x a e = subst P (same_some y x e) a.0
all_at P (y ∷ ys) (suc i) x a e = all_at P ys i x a.1 e

pub all_from_at : {X : Type 0} (P : X → Type 0) (xs : List X) → ((i : ℕ) (x : X) → slice_get xs i ≡ Some x → P x) → AllByRecursion P xs
all_from_at P [] h = tt
all_from_at P (x ∷ xs) h = (h 0 x refl, all_from_at P xs (λ i y e. h (suc i) y e))

pub below_there : {X : Type 0} (xs : List X) (i : ℕ) (x : X) → slice_get xs i ≡ Some x → i < length xs
below_there xs i x e = let f = something_there xs i x (sym e) in leb-false (length xs) i f

pub there_below : {X : Type 0} (xs : List X) (i : ℕ) → i < length xs → (x : X) × (slice_get xs i ≡ Some x)
there_below [] i l = absurd (omega arith)
there_below (x ∷ xs) zero l = (x, refl)
there_below (x ∷ xs) (suc i) l = there_below xs i (omega arith)

filled_there : (ps : List (Option Production)) (p : ℕ) (q : Production) → option_flatten (slice_get ps p) ≡ Some q → slice_get ps p ≡ Some (Some q)
filled_there ps p q e = by_place (slice_get ps p) e
  where
    by_place : (o : Option (Option Production)) → option_flatten o ≡ Some q → o ≡ Some (Some q)
    by_place None e = absurd (none_some q (sym e))
    by_place (Some x) e = ap (λ (y : Option Production). Some y) e

pub production_sound : (g : Grammar) → Sound g → (p : ℕ) (q : Production) → production_at g p ≡ Some q → SoundProduction g q
production_sound g s p q e = all_at (SoundPlace g) g.places p (Some q) s.each_place (filled_there g.places p q e)

pub result_inside : (g : Grammar) → Sound g → (p : ℕ) (q : Production) → production_at g p ≡ Some q → q.result < 64
result_inside g s p q e =
    let q' = production_sound g s p q e in
    omega (arith, below_there g.dimensions q.result (length q'.its.constituents) q'.result, s.categories)

pub arguments_few : (g : Grammar) → Sound g → (p : ℕ) (q : Production) → production_at g p ≡ Some q → length q.arguments ≤ 3
arguments_few g s p q e =
    let q' = production_sound g s p q e in
    let f = all_at (SoundFunction g.tokens) g.functions q.function q'.its s.each_function q'.function in
    omega (arith, q'.arguments, f.arity)

-- tests that fail at each element
all_failing : {X : Type 0} (p : X → Bool) (P : X → Type 0) → ((x : X) → p x ≡ false → P x) → (xs : List X) → some_of p xs ≡ false → AllByRecursion P xs
all_failing p P h [] e = tt
all_failing p P h (x ∷ xs) e = let b = or_parts (p x) (some_of p xs) e in (h x b.0, all_failing p P h xs b.1)

both_failing : {X : Type 0} (p q : X → Bool) (P : X → Type 0) → ((x : X) → p x ≡ false → q x ≡ false → P x) → (xs : List X) → some_of p xs ≡ false → some_of q xs ≡ false → AllByRecursion P xs
both_failing p q P h [] e f = tt
both_failing p q P h (x ∷ xs) e f =
    let a = or_parts (p x) (some_of p xs) e in
    let b = or_parts (q x) (some_of q xs) f in
    (h x a.0 b.0, both_failing p q P h xs a.1 b.1)

all_and_failing : {X : Type 0} (Q : X → Type 0) (p : X → Bool) (P : X → Type 0) → ((x : X) → Q x → p x ≡ false → P x) → (xs : List X) → AllByRecursion Q xs → some_of p xs ≡ false → AllByRecursion P xs
all_and_failing Q p P h [] a e = tt
all_and_failing Q p P h (x ∷ xs) a e = let b = or_parts (p x) (some_of p xs) e in (h x a.0 b.0, all_and_failing Q p P h xs a.1 b.1)

named : (tokens arity : ℕ) (s : Symbol) → symbol_unnamed tokens arity s ≡ false → SymbolNamed tokens arity s
named tokens arity (Token t) e = leb-false tokens t e
named tokens arity (Argument k l) e =
    let a = or_parts (eqb k 0) (ltb arity k || eqb l 0) e in
    let b = or_parts (ltb arity k) (eqb l 0) a.1 in
    let k0 = eqb-false k 0 a.0 in
    let l0 = eqb-false l 0 b.1 in
    (omega arith, ltb-false arity k b.0, omega arith)

function_sound : (g : Grammar) (f : grammar.Function) → function_over f ≡ false → function_unnamed g f ≡ false → SoundFunction g.tokens f
function_sound g f over unnamed =
    let a = or_parts (ltb 3 f.arity) (ltb 3 (length f.constituents) || some_of symbols_over f.constituents) over in
    let b = or_parts (ltb 3 (length f.constituents)) (some_of symbols_over f.constituents) a.1 in
    record {
      arity = ltb-false 3 f.arity a.0;
      count = ltb-false 3 (length f.constituents) b.0;
      each =
          both_failing symbols_over (some_of (symbol_unnamed g.tokens f.arity)) (SoundConstituent g.tokens f.arity)
          (λ α o n. record { few = ltb-false 16 (length α) o; named = all_failing (symbol_unnamed g.tokens f.arity) (SymbolNamed g.tokens f.arity) (named g.tokens f.arity) α n })
          f.constituents b.1 unnamed;
    }

fits : (g : Grammar) (tokens arity : ℕ) (cs : List ℕ) → length cs ≡ arity → AllByRecursion (λ c. c < length g.dimensions) cs → (s : Symbol) → SymbolNamed tokens arity s → symbol_unfit g cs s ≡ false → SymbolFits g cs s
fits g tokens arity cs n cats (Token t) m e = tt
fits g tokens arity cs n cats (Argument zero l) m e = absurd (omega (arith, m.0))
fits g tokens arity cs n cats (Argument (suc k) l) m e =
    let c = there_below cs k (omega (arith, m.1)) in
    let d = there_below g.dimensions c.0 (all_at (λ (i : ℕ). i < length g.dimensions) cs k c.0 cats c.1) in
    let at : and_then (slice_get cs k) (dimension_at g) ≡ Some d.0 = ap (λ (o : Option ℕ). and_then o (dimension_at g)) c.1 ∙ d.1 in
    (d.0, at, ltb-false d.0 l (sym (ap (there_and (λ (x : ℕ). ltb x l)) at) ∙ e))

-- a function that is named is there
function_behind : (o : Option grammar.Function) (t : grammar.Function → Bool) → absent_or t o ≡ false → (f : grammar.Function) × (o ≡ Some f) × (t f ≡ false)
function_behind None t e = absurd (let z : ◌≡◌ {A = ℕ} 0 1 = cc in omega arith)
function_behind (Some f) t e = (f, refl, e)

production_made : (g : Grammar) → AllByRecursion (SoundFunction g.tokens) g.functions → (q : Production) → production_unnamed g q ≡ false → production_unfit g q ≡ false → SoundProduction g q
production_made g fs q unnamed unfit =
    let f = function_behind (slice_get g.functions q.function) (λ f. category_unnamed g q.result || some_of (category_unnamed g) (take f.arity q.arguments)) unnamed in
    let a = or_parts (category_unnamed g q.result) (some_of (category_unnamed g) (take f.0.arity q.arguments)) f.2 in
    let b : function_unfit g q f.0 ≡ false = sym (ap (there_and (function_unfit g q)) f.1) ∙ unfit in
    let B = there_and (λ d. not (eqb (length f.0.constituents) d)) (dimension_at g q.result) in
    let C = some_of (some_of (symbol_unfit g q.arguments)) f.0.constituents in
    let c = or_parts (not (eqb (length q.arguments) f.0.arity)) (B || C) b in
    let d = or_parts B C c.1 in
    let same : length q.arguments ≡ f.0.arity = eqb-true (length q.arguments) f.0.arity (not-false (eqb (length q.arguments) f.0.arity) c.0) in
    let cats : AllByRecursion (λ c. c < length g.dimensions) q.arguments =
    all_failing (category_unnamed g) (λ (c : ℕ). c < length g.dimensions) (λ c e. leb-false (length g.dimensions) c e) q.arguments
    (sym (ap (some_of (category_unnamed g)) (take_all f.0.arity q.arguments (omega (arith, same)))) ∙ a.1) in
    let r = there_below g.dimensions q.result (leb-false (length g.dimensions) q.result a.0) in
    let many : length f.0.constituents ≡ r.0 =
    eqb-true (length f.0.constituents) r.0 (not-false (eqb (length f.0.constituents) r.0) (sym (ap (there_and (λ (d : ℕ). not (eqb (length f.0.constituents) d))) r.1) ∙ d.0)) in
    let s = all_at (SoundFunction g.tokens) g.functions q.function f.0 fs f.1 in
    record {
      its = f.0;
      function = f.1;
      result = r.1 ∙ ap (λ (n : ℕ). Some n) (sym many);
      arguments = same;
      categories = cats;
      fits =
          all_and_failing (SoundConstituent g.tokens f.0.arity) (some_of (symbol_unfit g q.arguments)) (AllByRecursion (SymbolFits g q.arguments))
          (λ α n e. all_and_failing (SymbolNamed g.tokens f.0.arity) (symbol_unfit g q.arguments) (SymbolFits g q.arguments) (fits g g.tokens f.0.arity q.arguments same cats) α n.named e)
          f.0.constituents s.each d.1;
    }

dimension_sound : (d : ℕ) → dimension_over d ≡ false → (1 ≤ d) × (d ≤ 3)
dimension_sound d e =
    let a = or_parts (eqb d 0) (ltb 3 d) e in
    let n = eqb-false d 0 a.0 in
    (omega arith, ltb-false 3 d a.1)

start_sound : (o : Option ℕ) → None ≢ o → there_and (λ d. not (eqb 1 d)) o ≡ false → o ≡ Some 1
start_sound None n e = absurd (n refl)
start_sound (Some d) n e = ap (λ (x : ℕ). Some x) (sym (eqb-true 1 d (not-false (eqb 1 d) e)))

pub made_sound : (g : Grammar) → first_fault g ≡ None → Sound g
made_sound g h =
    let F = first_things Function (length g.functions) in
    let P = first_things Place (length g.places) in
    let K = first_things Category (length g.dimensions) in
    let a = none_parts (fault_of g) (map Count all_counted) (K ++ ((Start ∷ []) ++ (F ++ P))) h in
    let b = none_parts (fault_of g) K ((Start ∷ []) ++ (F ++ P)) a.1 in
    let c = none_parts (fault_of g) (Start ∷ []) (F ++ P) b.1 in
    let d = none_parts (fault_of g) F P c.1 in
    let count = both_none (fault_of g (Count Tokens)) _ a.0 in
    let count_2 = both_none (fault_of g (Count Categories)) _ count.1 in
    let count_3 = both_none (fault_of g (Count Functions)) _ count_2.1 in
    let count_4 = both_none (fault_of g (Count Places)) None count_3.1 in
    let begin = tests_pass g Start (both_none (fault_of g Start) None c.0).0 in
    let functions : AllByRecursion (SoundFunction g.tokens) g.functions =
    all_from_at (SoundFunction g.tokens) g.functions
    (λ f x e.
    let t = tests_pass g (Function f) (none_below (fault_of g) Function (length g.functions) f d.0 (below_there g.functions f x e)) in
    function_sound g x (sym (ap (there_and function_over) e) ∙ t.0) (sym (ap (there_and (function_unnamed g)) e) ∙ t.1)) in
    record {
      tokens = ltb-false 1024 g.tokens (tests_pass g (Count Tokens) count.0).0;
      categories = ltb-false 64 (length g.dimensions) (tests_pass g (Count Categories) count_2.0).0;
      functions = ltb-false 512 (length g.functions) (tests_pass g (Count Functions) count_3.0).0;
      places = ltb-false 512 (length g.places) (tests_pass g (Count Places) count_4.0).0;
      dimensions =
          all_from_at (λ (d : ℕ). (1 ≤ d) × (d ≤ 3)) g.dimensions
          (λ k x e.
          let t = tests_pass g (Category k) (none_below (fault_of g) Category (length g.dimensions) k b.0 (below_there g.dimensions k x e)) in
          dimension_sound x (sym (ap (there_and dimension_over) e) ∙ t.0));
      start = start_sound (dimension_at g g.start) (λ e. both_ways (category_unnamed g g.start) begin.1 (nothing_there g.dimensions g.start e)) begin.2;
      each_function = functions;
      each_place =
          all_from_at (SoundPlace g) g.places
          (λ p x e.
          let t = tests_pass g (Place p) (none_below (fault_of g) Place (length g.places) p d.1 (below_there g.places p x e)) in
          place_made g functions x (sym (ap (λ (o : Option (Option Production)). there_and (production_unnamed g) (option_flatten o)) e) ∙ t.1) (sym (ap (λ (o : Option (Option Production)). there_and (production_unfit g) (option_flatten o)) e) ∙ t.2));
    }
  where
    place_made : (g : Grammar) → AllByRecursion (SoundFunction g.tokens) g.functions → (x : Option Production) → there_and (production_unnamed g) x ≡ false → there_and (production_unfit g) x ≡ false → SoundPlace g x
    place_made g fs None a b = tt
    place_made g fs (Some q) a b = production_made g fs q a b

-- The fault of one single thing, from its tests.
use Rattle.std.proofs.Common.{◌≡◌, ℕ, Bool, true, false, not, ◌||◌, eqb, List, [], length, take, Some, None, Option, unwrap_or, sym, refl, ap, ◌∙◌}
use Rattle.std.specs.List.{slice_get}
use Rattle.std.specs.Option.{option_map}
use Rattle.grammar.specs.Grammar.{Grammar, Function, Production, production_at, place_at, arity_at, constituent_count, dimension_at, head_of}
use Rattle.grammar.specs.declared.Place.{Place}
use Rattle.grammar.specs.declared.Symbol.{Symbol}
use Rattle.faults.specs.declared.refusal.Thing.{Thing}
use Rattle.faults.specs.declared.refusal.Thing.TheVariants as thing
use Rattle.faults.specs.declared.refusal.Fault.{Fault}
use Rattle.faults.specs.Faults.{over_limit, names_nothing, does_not_fit, fault_from, fault_of, function_over, function_unnamed, function_unfit, production_unfit, symbol_unnamed, symbol_unfit}
use Rattle.faults.specs.Parts.{constituents_of, arguments_of, FunctionsWithin}
use Rattle.faults.specs.Tests.{some_of, there_and}
use Rattle.faults.proofs.Asked.{same_some, none_some, all_scanned}

-- each test is asked only where those before it fail
pub fault_is : (g : Grammar) (x : Thing) (a b c : Bool) (r : Option Fault) → a ≡ over_limit g x → (a ≡ false → b ≡ names_nothing g x) → (a ≡ false → c ≡ does_not_fit g x) → r ≡ fault_from x a b c → r ≡ fault_of g x
fault_is g x true b c r ea eb ec h = h ∙ ap (λ (t : Bool). fault_from x t (names_nothing g x) (does_not_fit g x)) ea
fault_is g x false b c r ea eb ec h =
    h ∙ (ap (λ (t : Bool). fault_from x t b c) ea ∙ (ap (λ (t : Bool). fault_from x (over_limit g x) t c) (eb refl) ∙ ap (λ (t : Bool). fault_from x (over_limit g x) (names_nothing g x) t) (ec refl)))

-- the function behind an arity that is there
pub function_there : (g : Grammar) (f a : ℕ) → Some a ≡ arity_at g f → (h : Function) × (slice_get g.functions f ≡ Some h) × (h.arity ≡ a)
function_there g f a e = by_function (slice_get g.functions f) e
  where
    by_function : {a : ℕ} (o : Option Function) → Some a ≡ option_map (λ h. h.arity) o → (h : Function) × (o ≡ Some h) × (h.arity ≡ a)
    by_function {a} None e = absurd (none_some a e)
    by_function {a} (Some h) e = (h, refl, sym (same_some a h.arity e))

-- the production behind a place that is filled
pub production_there : (g : Grammar) (p : ℕ) (x : Place) → Some x ≡ place_at g p → (q : Production) × (production_at g p ≡ Some q) × (head_of q ≡ x)
production_there g p x e = by_production (production_at g p) e
  where
    by_production : {x : Place} (o : Option Production) → Some x ≡ option_map head_of o → (q : Production) × (o ≡ Some q) × (head_of q ≡ x)
    by_production {x} None e = absurd (none_some x e)
    by_production {x} (Some q) e = (q, refl, sym (same_some x (head_of q) e))

pub unnamed_scanned : (g : Grammar) (f a : ℕ) (r : Bool) → Some a ≡ arity_at g f → over_limit g (thing.Function f) ≡ false → r ≡ some_of (λ α. some_of (symbol_unnamed g.tokens a) (take 16 α)) (take 3 (constituents_of g f)) → r ≡ names_nothing g (thing.Function f)
unnamed_scanned g f a r e w h = by_function (slice_get g.functions f) e w h
  where
    by_function : {a : ℕ} {r : Bool} (o : Option Function) → Some a ≡ option_map (λ h. h.arity) o → there_and function_over o ≡ false → r ≡ some_of (λ α. some_of (symbol_unnamed g.tokens a) (take 16 α)) (take 3 (unwrap_or (option_map (λ h. h.constituents) o) [])) → r ≡ there_and (function_unnamed g) o
    by_function {a} {r} None e w h = absurd (none_some a e)
    by_function {a} {r} (Some f) e w h =
        h ∙ (all_scanned f (symbol_unnamed g.tokens a) w ∙ ap (λ (n : ℕ). some_of (some_of (symbol_unnamed g.tokens n)) f.constituents) (same_some a f.arity e))

pub unfit_rest : (g : Grammar) (p : ℕ) (x : Place) (a n : ℕ) (d : Option ℕ) (r : Bool) → FunctionsWithin g → Some x ≡ place_at g p → Some a ≡ arity_at g x.function → Some n ≡ constituent_count g x.function → false ≡ not (eqb (length (arguments_of g p)) a) → d ≡ dimension_at g x.result → false ≡ there_and (λ d. not (eqb n d)) d → r ≡ some_of (λ α. some_of (symbol_unfit g (arguments_of g p)) (take 16 α)) (take 3 (constituents_of g x.function)) → r ≡ does_not_fit g (thing.Place p)
unfit_rest g p x a n d r w h ha hn A de B C =
    let q = production_there g p x h in
    let f = function_there g x.function a ha in
    let args : arguments_of g p ≡ q.0.arguments = ap (λ (o : Option Production). unwrap_or (option_map (λ y. y.arguments) o) []) q.1 in
    let result : x.result ≡ q.0.result = ap (λ (y : Place). y.result) (sym q.2) in
    let at : slice_get g.functions q.0.function ≡ Some f.0 = ap (λ (y : Place). slice_get g.functions y.function) q.2 ∙ f.1 in
    let count : n ≡ length f.0.constituents = same_some n (length f.0.constituents) (hn ∙ ap (option_map (λ (y : Function). length y.constituents)) f.1) in
    let constituents : constituents_of g x.function ≡ f.0.constituents = ap (λ (o : Option Function). unwrap_or (option_map (λ y. y.constituents) o) []) f.1 in
    let inside : function_over f.0 ≡ false = sym (ap (there_and function_over) f.1) ∙ w x.function in
    let A' : not (eqb (length q.0.arguments) f.0.arity) ≡ false = sym (A ∙ (ap (λ (cs : List ℕ). not (eqb (length cs) a)) args ∙ ap (λ (m : ℕ). not (eqb (length q.0.arguments) m)) (sym f.2))) in
    let B' : there_and (λ d. not (eqb (length f.0.constituents) d)) (dimension_at g q.0.result) ≡ false =
    sym (B ∙ (ap (there_and (λ (d : ℕ). not (eqb n d))) (de ∙ ap (dimension_at g) result) ∙ ap (λ (m : ℕ). there_and (λ d. not (eqb m d)) (dimension_at g q.0.result)) count)) in
    let C' : r ≡ some_of (some_of (symbol_unfit g q.0.arguments)) f.0.constituents =
    C ∙ (ap (λ (cs : List ℕ). some_of (λ α. some_of (symbol_unfit g cs) (take 16 α)) (take 3 (constituents_of g x.function))) args
    ∙ (ap (λ (αs : List (List Symbol)). some_of (λ α. some_of (symbol_unfit g q.0.arguments) (take 16 α)) (take 3 αs)) constituents
    ∙ all_scanned f.0 (symbol_unfit g q.0.arguments) inside)) in
    let whole : function_unfit g q.0 f.0 ≡ some_of (some_of (symbol_unfit g q.0.arguments)) f.0.constituents =
    ap (λ (t : Bool). t || (there_and (λ d. not (eqb (length f.0.constituents) d)) (dimension_at g q.0.result) || some_of (some_of (symbol_unfit g q.0.arguments)) f.0.constituents)) A'
    ∙ ap (λ (t : Bool). t || some_of (some_of (symbol_unfit g q.0.arguments)) f.0.constituents) B' in
    C' ∙ sym (ap (there_and (production_unfit g)) q.1 ∙ (ap (there_and (function_unfit g q.0)) at ∙ whole))

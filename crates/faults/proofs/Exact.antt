-- A sound grammar has no fault.
use Rattle.std.proofs.Common.{◌≡◌, ℕ, zero, suc, ◌<◌, ◌≤◌, Bool, false, not, ◌||◌, eqb, ltb, List, [], ◌∷◌, ◌++◌, map, length, take, Some, None, Option, sym, refl, ap, ◌∙◌, arith}
use Rattle.std.proofs.lemmas.List.{take_all}
use Rattle.std.proofs.lemmas.Bool.{or_from, le-ltb, lt-leb, ne_eqb, eq-eqb}
use Rattle.std.specs.List.{slice_get, range_with_len, AllByRecursion}
use Rattle.std.specs.Option.{option_flatten}
use Rattle.grammar.specs.declared.Symbol.{Symbol}
use Rattle.grammar.specs.declared.Symbol.TheVariants.{Token, Argument}
use Rattle.grammar.specs.Grammar.{Grammar, Production, dimension_at}
use Rattle.grammar.specs.Grammar as grammar
use Rattle.faults.specs.declared.refusal.Counted.{Counted}
use Rattle.faults.specs.declared.refusal.Counted.TheVariants.{Tokens, Categories, Functions, Places}
use Rattle.faults.specs.declared.refusal.Thing.{Thing}
use Rattle.faults.specs.declared.refusal.Thing.TheVariants.{Count, Category, Start, Function, Place}
use Rattle.faults.specs.Faults.{over_limit, names_nothing, does_not_fit, all_counted, fault_of, first_things, first_fault, dimension_over, symbols_over, function_over, symbol_unnamed, function_unnamed, category_unnamed, production_unnamed, symbol_unfit, function_unfit, production_unfit}
use Rattle.faults.specs.Sound.{SymbolNamed, SoundConstituent, SoundFunction, SymbolFits, SoundProduction, SoundPlace, Sound, FirstFault}
use Rattle.faults.specs.Tests.{some_of, there_and, absent_or, or_else, first_of}
use Rattle.faults.specs.declared.refusal.Fault.{Fault}
use Rattle.faults.proofs.Made.{made_sound}
use Rattle.faults.proofs.Order.{first_append}
use Rattle.faults.proofs.Single.{fault_is}
use Rattle.faults.proofs.Whole.{something_there}

none_all : {K X Y : Type 0} (f : X → Option Y) (x : K → X) (ks : List K) → ((k : K) → f (x k) ≡ None) → first_of f (map x ks) ≡ None
none_all f x [] h = refl
none_all f x (k ∷ ks) h = ap (λ o. or_else o (first_of f (map x ks))) (h k) ∙ none_all f x ks h

no_fault : (g : Grammar) (x : Thing) → over_limit g x ≡ false → names_nothing g x ≡ false → does_not_fit g x ≡ false → fault_of g x ≡ None
no_fault g x a b c = sym (fault_is g x false false false None (sym a) (λ _. sym b) (λ _. sym c) refl)

-- a test that fails wherever P holds
fails : {X : Type 0} (P : X → Type 0) (p : X → Bool) → ((x : X) → P x → p x ≡ false) → (xs : List X) → AllByRecursion P xs → some_of p xs ≡ false
fails P p h [] a = refl
fails P p h (x ∷ xs) a = or_from (p x) (some_of p xs) (h x a.0) (fails P p h xs a.1)

fails_at : {X : Type 0} (P : X → Type 0) (p : X → Bool) → ((x : X) → P x → p x ≡ false) → (xs : List X) (i : ℕ) → AllByRecursion P xs → there_and p (slice_get xs i) ≡ false
fails_at P p h [] i a = refl
fails_at P p h (x ∷ xs) zero a = h x a.0
fails_at P p h (x ∷ xs) (suc i) a = fails_at P p h xs i a.1

count_fine : (g : Grammar) → Sound g → (k : Counted) → over_limit g (Count k) ≡ false
count_fine g s Tokens = le-ltb 1024 g.tokens s.tokens
count_fine g s Categories = le-ltb 64 (length g.dimensions) s.categories
count_fine g s Functions = le-ltb 512 (length g.functions) s.functions
count_fine g s Places = le-ltb 512 (length g.places) s.places

dimension_fine : (d : ℕ) → (1 ≤ d) × (d ≤ 3) → dimension_over d ≡ false
dimension_fine d h = or_from (eqb d 0) (ltb 3 d) (ne_eqb d 0 (λ e. omega (arith, h.0))) (le-ltb 3 d h.1)

function_fine : (tokens : ℕ) (f : grammar.Function) → SoundFunction tokens f → function_over f ≡ false
function_fine tokens f s =
    or_from (ltb 3 f.arity) (ltb 3 (length f.constituents) || some_of symbols_over f.constituents) (le-ltb 3 f.arity s.arity)
    (or_from (ltb 3 (length f.constituents)) (some_of symbols_over f.constituents) (le-ltb 3 (length f.constituents) s.count)
    (fails (SoundConstituent tokens f.arity) symbols_over (λ α a. le-ltb 16 (length α) a.few) f.constituents s.each))

symbol_named : (tokens arity : ℕ) (s : Symbol) → SymbolNamed tokens arity s → symbol_unnamed tokens arity s ≡ false
symbol_named tokens arity (Token t) h = lt-leb tokens t h
symbol_named tokens arity (Argument k l) h =
    or_from (eqb k 0) (ltb arity k || eqb l 0) (ne_eqb k 0 (λ e. omega (arith, h.0))) (or_from (ltb arity k) (eqb l 0) (le-ltb arity k h.1) (ne_eqb l 0 (λ e. omega (arith, h.2))))

function_named : (g : Grammar) (f : grammar.Function) → SoundFunction g.tokens f → function_unnamed g f ≡ false
function_named g f s =
    fails (SoundConstituent g.tokens f.arity) (some_of (symbol_unnamed g.tokens f.arity))
    (λ α a. fails (SymbolNamed g.tokens f.arity) (symbol_unnamed g.tokens f.arity) (symbol_named g.tokens f.arity) α a.named) f.constituents s.each

symbol_fits : (g : Grammar) (cs : List ℕ) (s : Symbol) → SymbolFits g cs s → symbol_unfit g cs s ≡ false
symbol_fits g cs (Token t) h = refl
symbol_fits g cs (Argument k l) h = ap (there_and (λ (d : ℕ). ltb d l)) h.1 ∙ le-ltb h.0 l h.2

production_named : (g : Grammar) (q : Production) → SoundProduction g q → production_unnamed g q ≡ false
production_named g q s =
    ap (absent_or (λ (f : grammar.Function). category_unnamed g q.result || some_of (category_unnamed g) (take f.arity q.arguments))) s.function
    ∙ or_from (category_unnamed g q.result) (some_of (category_unnamed g) (take s.its.arity q.arguments)) (something_there g.dimensions q.result (length s.its.constituents) (sym s.result))
    (ap (some_of (category_unnamed g)) (take_all s.its.arity q.arguments (omega (arith, s.arguments)))
    ∙ fails (λ (c : ℕ). c < length g.dimensions) (category_unnamed g) (λ c l. lt-leb (length g.dimensions) c l) q.arguments s.categories)

production_fits : (g : Grammar) (q : Production) → SoundProduction g q → production_unfit g q ≡ false
production_fits g q s =
    let A = not (eqb (length q.arguments) s.its.arity) in
    let B = there_and (λ d. not (eqb (length s.its.constituents) d)) (dimension_at g q.result) in
    let C = some_of (some_of (symbol_unfit g q.arguments)) s.its.constituents in
    let a : A ≡ false = ap not (eq-eqb (length q.arguments) s.its.arity s.arguments) in
    let b : B ≡ false = ap (there_and (λ (d : ℕ). not (eqb (length s.its.constituents) d))) s.result ∙ ap not (eq-eqb (length s.its.constituents) (length s.its.constituents) refl) in
    let c : C ≡ false =
    fails (AllByRecursion (SymbolFits g q.arguments)) (some_of (symbol_unfit g q.arguments)) (λ α h. fails (SymbolFits g q.arguments) (symbol_unfit g q.arguments) (symbol_fits g q.arguments) α h) s.its.constituents s.fits in
    ap (there_and (function_unfit g q)) s.function ∙ or_from A (B || C) a (or_from B C b c)

place_fine : (g : Grammar) (t : Production → Bool) → ((q : Production) → SoundProduction g q → t q ≡ false) → (ps : List (Option Production)) (p : ℕ) → AllByRecursion (SoundPlace g) ps → there_and t (option_flatten (slice_get ps p)) ≡ false
place_fine g t h [] p a = refl
place_fine g t h (None ∷ ps) zero a = refl
place_fine g t h (Some q ∷ ps) zero a = h q a.0
place_fine g t h (x ∷ ps) (suc p) a = place_fine g t h ps p a.1

pub sound_faultless : (g : Grammar) → Sound g → first_fault g ≡ None
sound_faultless g s =
    let F = first_things Function (length g.functions) in
    let P = first_things Place (length g.places) in
    let K = first_things Category (length g.dimensions) in
    joined (map Count all_counted) (K ++ ((Start ∷ []) ++ (F ++ P))) (none_all (fault_of g) Count all_counted (λ k. no_fault g (Count k) (count_fine g s k) refl refl))
    (joined K ((Start ∷ []) ++ (F ++ P)) (none_all (fault_of g) Category (range_with_len 0 (length g.dimensions)) (λ c. no_fault g (Category c) (fails_at (λ (d : ℕ). (1 ≤ d) × (d ≤ 3)) dimension_over dimension_fine g.dimensions c s.dimensions) refl refl))
    (joined (Start ∷ []) (F ++ P)
    (ap (λ o. or_else o None) (no_fault g Start refl (something_there g.dimensions g.start 1 (sym s.start)) (ap (there_and (λ (d : ℕ). not (eqb 1 d))) s.start)))
    (joined F P
    (none_all (fault_of g) Function (range_with_len 0 (length g.functions))
    (λ f. no_fault g (Function f) (fails_at (SoundFunction g.tokens) function_over (function_fine g.tokens) g.functions f s.each_function) (fails_at (SoundFunction g.tokens) (function_unnamed g) (function_named g) g.functions f s.each_function) refl))
    (none_all (fault_of g) Place (range_with_len 0 (length g.places))
    (λ p. no_fault g (Place p) refl (place_fine g (production_unnamed g) (production_named g) g.places p s.each_place) (place_fine g (production_unfit g) (production_fits g) g.places p s.each_place))))))
  where
    joined : (xs ys : List Thing) → first_of (fault_of g) xs ≡ None → first_of (fault_of g) ys ≡ None → first_of (fault_of g) (xs ++ ys) ≡ None
    joined xs ys a b = first_append (fault_of g) xs ys ∙ (ap (λ o. or_else o (first_of (fault_of g) ys)) a ∙ b)

pub first_is : (g : Grammar) (r : Option Fault) → r ≡ first_fault g → FirstFault g r
first_is g r e = record { first = e; sound = λ n. made_sound g (sym e ∙ n); faultless = λ s. e ∙ sound_faultless g s }

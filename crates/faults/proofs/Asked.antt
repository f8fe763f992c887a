-- What the answers of a source say of the lists of its meaning.
use Rattle.std.proofs.Common.{◌≡◌, ℕ, zero, suc, ◌+◌, Bool, false, ◌||◌, ltb, List, [], length, take, is_some, Some, None, Option, unwrap_or, refl, ap, ◌∙◌, arith}
use Rattle.std.specs.List.{slice_get}
use Rattle.std.specs.Option.{option_map}
use Rattle.grammar.specs.Grammar.{Grammar, Function, Production, from_one, and_then, constituent_at, symbol_at, argument_at, production_at}
use Rattle.grammar.specs.declared.Symbol.{Symbol}
use Rattle.faults.specs.Faults.{symbols_over, function_over}
use Rattle.faults.specs.Parts.{constituents_of, symbols_of, arguments_of}
use Rattle.faults.specs.Tests.{some_of, there_and}
use Rattle.std.proofs.lemmas.List.{take_all}
use Rattle.std.proofs.lemmas.Bool.{ltb-false, or_parts}
use Rattle.faults.proofs.Scan.{is_some_nth, from_one_next, there_first, some_within}

pub constituent_next : (g : Grammar) (f l : ℕ) → constituent_at g f (l + 1) ≡ slice_get (constituents_of g f) l
constituent_next g f l = by_function (slice_get g.functions f) l
  where
    by_function : (o : Option Function) (l : ℕ) → and_then o (λ h. from_one h.constituents (l + 1)) ≡ slice_get (unwrap_or (option_map (λ h. h.constituents) o) []) l
    by_function None l = refl
    by_function (Some h) l = from_one_next h.constituents l

pub symbol_next : (g : Grammar) (f l i : ℕ) → symbol_at g f l (i + 1) ≡ slice_get (symbols_of g f l) i
symbol_next g f l i = by_constituent (constituent_at g f l) i
  where
    by_constituent : (o : Option (List Symbol)) (i : ℕ) → and_then o (λ s. from_one s (i + 1)) ≡ slice_get (unwrap_or o []) i
    by_constituent None i = refl
    by_constituent (Some s) i = from_one_next s i

-- a constituent has too many symbols just where it has one after the last that is allowed
pub over_asked : (g : Grammar) (f l : ℕ) → is_some (symbol_at g f (l + 1) 17) ≡ there_and symbols_over (slice_get (constituents_of g f) l)
over_asked g f l = by_constituent (constituent_at g f (l + 1)) ∙ ap (there_and symbols_over) (constituent_next g f l)
  where
    by_constituent : (o : Option (List Symbol)) → is_some (and_then o (λ s. from_one s 17)) ≡ there_and symbols_over o
    by_constituent None = refl
    by_constituent (Some s) = is_some_nth s 16

pub argument_from : (g : Grammar) (p k : ℕ) → argument_at g p k ≡ from_one (arguments_of g p) k
argument_from g p k = by_production (production_at g p) k
  where
    by_production : (o : Option Production) (k : ℕ) → and_then o (λ q. from_one q.arguments k) ≡ from_one (unwrap_or (option_map (λ q. q.arguments) o) []) k
    by_production None zero = refl
    by_production None (suc k) = refl
    by_production (Some q) k = refl

pub argument_next : (g : Grammar) (p i : ℕ) → argument_at g p (i + 1) ≡ slice_get (arguments_of g p) i
argument_next g p i = argument_from g p (i + 1) ∙ from_one_next (arguments_of g p) i

-- what a scan of one constituent says, as a test of the constituent
pub scanned : (g : Grammar) (f n : ℕ) (p : Symbol → Bool) (l : ℕ) → some_of p (take n (symbols_of g f (l + 1))) ≡ there_and (λ α. some_of p (take n α)) (slice_get (constituents_of g f) l)
scanned g f n p l = there_first p n (constituent_at g f (l + 1)) ∙ ap (there_and (λ (α : List Symbol). some_of p (take n α))) (constituent_next g f l)

pub same_some : {X : Type 0} (x y : X) → ◌≡◌ {A = Option X} (Some x) (Some y) → x ≡ y
same_some x y e = cc

pub none_some : {X : Type 0} (x : X) → ◌≡◌ {A = Option X} (Some x) None → ⊥
none_some x e = let z : ◌≡◌ {A = ℕ} 0 1 = cc in omega arith

-- of a function within the limits, the first symbols of the first constituents are all
pub all_scanned : (f : Function) (p : Symbol → Bool) → function_over f ≡ false → some_of (λ α. some_of p (take 16 α)) (take 3 f.constituents) ≡ some_of (some_of p) f.constituents
all_scanned f p h =
    let a = or_parts (ltb 3 f.arity) (ltb 3 (length f.constituents) || some_of symbols_over f.constituents) h in
    let b = or_parts (ltb 3 (length f.constituents)) (some_of symbols_over f.constituents) a.1 in
    ap (some_of (λ (α : List Symbol). some_of p (take 16 α))) (take_all 3 f.constituents (ltb-false 3 (length f.constituents) b.0))
    ∙ some_within (λ (α : List Symbol). some_of p (take 16 α)) (some_of p) symbols_over (λ α e. ap (some_of p) (take_all 16 α (ltb-false 16 (length α) e))) f.constituents b.1

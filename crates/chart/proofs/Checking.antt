-- A test that shows a grammar sound where it passes: `sound?`. Assumes nothing.
use Rattle.std.proofs.Common.{◌≡◌, ℕ, zero, suc, ◌<◌, ◌≤◌, true, List, [], ◌∷◌, length, is_some, Some, None, Option, sym, refl, ap, ◌∙◌, subst, arith}
use Rattle.std.specs.List.{slice_get, AllByRecursion}
use Rattle.std.specs.Option.{option_map, option_flatten}
use Rattle.grammar.specs.declared.Symbol.{Symbol}
use Rattle.grammar.specs.declared.Symbol.TheVariants.{Token, Argument}
use Rattle.grammar.specs.Grammar.{Grammar, Function, Production, from_one, and_then, dimension_at, symbol_at}
use Rattle.chart.specs.Sound.{Sound, SoundProduction, Names, Category}
use Rattle.chart.proofs.Ends.{all_at}

abbrev pub le? : (m n : ℕ) → Option (m ≤ n)
le? zero n = Some (omega arith)
le? (suc m) zero = None
le? (suc m) (suc n) = option_map (λ (h : m ≤ n). let k : suc m ≤ suc n = omega arith in k) (le? m n)

abbrev pub same? : (m n : ℕ) → Option (m ≡ n)
same? zero zero = Some refl
same? zero (suc n) = None
same? (suc m) zero = None
same? (suc m) (suc n) = option_map (λ (h : m ≡ n). ap suc h) (same? m n)

-- What stands there, with the equation.
abbrev pub there? : {A : Type 0} (o : Option A) → Option ((x : A) × (o ≡ Some x))
there? None = None
there? (Some x) = Some (x, refl)

abbrev pub all? : {A : Type 0} {P : A → Type 0} → ((x : A) → Option (P x)) → (xs : List A) → Option (AllByRecursion P xs)
all? f [] = Some tt
all? f (x ∷ xs) = and_then (f x) (λ p. option_map (λ ps. (p, ps)) (all? f xs))

abbrev pub SymbolFits : Grammar → Production → Symbol → Type 0
SymbolFits g q (Token t) = t < g.tokens
SymbolFits g q (Argument d r) = Names g q d r

abbrev pub symbol? : (g : Grammar) (q : Production) (x : Symbol) → Option (SymbolFits g q x)
symbol? g q (Token t) = le? (suc t) g.tokens
symbol? g q (Argument d r) = and_then (there? (from_one q.arguments d)) (λ c. and_then (there? (dimension_at g c.0)) (λ n. and_then (le? 1 r) (λ a. and_then (le? r n.0) (λ b.
    Some (record { category = c.0; argument = c.1; dimension = n.0; known = n.1; positive = a; within = b })))))

-- What is asked of a place, over the lists of the grammar.
pub record PlaceFits (g : Grammar) (q : Production) : Type 0 where
  pub uses : Function
  pub function : slice_get g.functions q.function ≡ Some uses
  pub arity : length q.arguments ≡ uses.arity
  pub result : dimension_at g q.result ≡ Some (length uses.constituents)
  pub arguments : AllByRecursion (Category g) q.arguments
  pub symbols : AllByRecursion (AllByRecursion (SymbolFits g q)) uses.constituents

abbrev pub Filled : Grammar → Option Production → Type 0
Filled g None = Unit {0}
Filled g (Some q) = PlaceFits g q

abbrev pub production? : (g : Grammar) (q : Production) → Option (PlaceFits g q)
production? g q =
    and_then (there? (slice_get g.functions q.function)) (λ f.
    and_then (same? (length q.arguments) f.0.arity) (λ a.
    and_then (there? (dimension_at g q.result)) (λ n.
    and_then (same? n.0 (length f.0.constituents)) (λ e.
    and_then (all? (λ c. there? (dimension_at g c)) q.arguments) (λ cs.
    and_then (all? {P = AllByRecursion (SymbolFits g q)} (all? (symbol? g q)) f.0.constituents) (λ ss.
    Some (record { uses = f.0; function = f.1; arity = a; result = n.1 ∙ ap Some e; arguments = cs; symbols = ss })))))))

abbrev pub place? : (g : Grammar) (o : Option Production) → Option (Filled g o)
place? g None = Some tt
place? g (Some q) = production? g q

symbol_at_lem : (g : Grammar) (q : Production) (f : PlaceFits g q) (l i : ℕ) (x : Symbol) → symbol_at g q.function l i ≡ Some x → SymbolFits g q x
symbol_at_lem g q f l i x e =
    go (from_one f.uses.constituents l) (λ α h. all_at (AllByRecursion (SymbolFits g q)) f.uses.constituents l α f.symbols h)
    (sym (ap (λ o. and_then (and_then o (λ h. from_one h.constituents l)) (λ α. from_one α i)) f.function) ∙ e)
  where
    go : (o : Option (List Symbol)) → ((α : List Symbol) → o ≡ Some α → AllByRecursion (SymbolFits g q) α) → and_then o (λ α. from_one α i) ≡ Some x → SymbolFits g q x
    go None h e = absurd (let z : ◌≡◌ {A = ℕ} 0 1 = cc in omega arith)
    go (Some α) h e = all_at (SymbolFits g q) α i x (h α refl) e

production_sound : (g : Grammar) (q : Production) → PlaceFits g q → SoundProduction g q
production_sound g q f = record {
  uses = f.uses;
  function = f.function;
  arity = f.arity;
  result = f.result;
  arguments = f.arguments;
  tokens = λ l i t e. symbol_at_lem g q f l i (Token t) e;
  pairs = λ l i d r e. symbol_at_lem g q f l i (Argument d r) e;
}

pub places_sound : (g : Grammar) (os : List (Option Production)) → AllByRecursion (Filled g) os → (p : ℕ) (q : Production) → option_flatten (slice_get os p) ≡ Some q → SoundProduction g q
places_sound g [] h p q e = absurd (let z : ◌≡◌ {A = ℕ} 0 1 = cc in omega arith)
places_sound g (None ∷ os) h zero q e = absurd (let z : ◌≡◌ {A = ℕ} 0 1 = cc in omega arith)
places_sound g (Some y ∷ os) h zero q e = let is : y ≡ q = cc in subst (SoundProduction g) is (production_sound g y h.0)
places_sound g (o ∷ os) h (suc p) q e = places_sound g os h.1 p q e

abbrev pub start? : (g : Grammar) → Option (dimension_at g g.start ≡ Some 1)
start? g = and_then (there? (dimension_at g g.start)) (λ n. option_map (λ (e : n.0 ≡ 1). n.1 ∙ ap Some e) (same? n.0 1))

abbrev pub sound? : (g : Grammar) → Option (Sound g)
sound? g = and_then (start? g) (λ s. option_map (λ (h : AllByRecursion (Filled g) g.places). record { start = s; places = places_sound g g.places h }) (all? (place? g) g.places))

pub passed : {A : Type 0} (o : Option A) → is_some o ≡ true → A
passed None e = absurd (let z : ◌≡◌ {A = ℕ} 0 1 = cc in omega arith)
passed (Some x) e = x

-- A grammar in which the check before opening finds no fault is sound for the chart.
use Rattle.std.proofs.Common.{◌≡◌, ℕ, ◌<◌, length, Some, None, Option, sym, refl, ◌∙◌, subst}
use Rattle.std.specs.List.{slice_get, AllByRecursion}
use Rattle.std.proofs.ByRecursion.{All-weaker}
use Rattle.grammar.specs.declared.Symbol.{Symbol}
use Rattle.grammar.specs.declared.Symbol.TheVariants.{Token, Argument}
use Rattle.grammar.specs.Grammar.{Grammar, Function, Production, from_one, and_then, dimension_at, symbol_at}
use Rattle.faults.specs.Sound.{SymbolNamed, SoundConstituent, SoundFunction, SymbolFits}
use Rattle.faults.specs.Sound as checked
use Rattle.faults.proofs.Asked.{same_some, none_some}
use Rattle.faults.proofs.Made.{all_at as all_nth, there_below, production_sound}
use Rattle.chart.specs.Sound.{Category, SoundProduction, Sound}
use Rattle.chart.proofs.Ends.{all_at}

then_parts : {X Y : Type 0} (o : Option X) (f : X → Option Y) (y : Y) → and_then o f ≡ Some y → (x : X) × (o ≡ Some x) × (f x ≡ Some y)
then_parts None f y e = absurd (none_some y (sym e))
then_parts (Some x) f y e = (x, refl, e)

-- What holds of each symbol of a function's constituents holds of the one at these numbers.
symbol_holds : (g : Grammar) (f : ℕ) (h : Function) (P : Symbol → Type 0) → slice_get g.functions f ≡ Some h → AllByRecursion (AllByRecursion P) h.constituents → (l i : ℕ) (x : Symbol) → symbol_at g f l i ≡ Some x → P x
symbol_holds g f h P at all l i x e =
    let α = then_parts (and_then (slice_get g.functions f) (λ k. from_one k.constituents l)) (λ s. from_one s i) x e in
    let k = then_parts (slice_get g.functions f) (λ k. from_one k.constituents l) α.0 α.1 in
    let same : k.0 ≡ h = same_some k.0 h (sym k.1 ∙ at) in
    let its : from_one h.constituents l ≡ Some α.0 = subst (λ (m : Function). from_one m.constituents l ≡ Some α.0) same k.2 in
    all_at P α.0 i x (all_at (AllByRecursion P) h.constituents l α.0 all its) α.2

production_fits : (g : Grammar) → checked.Sound g → (q : Production) → checked.SoundProduction g q → SoundProduction g q
production_fits g s q h =
    let f = all_nth (SoundFunction g.tokens) g.functions q.function h.its s.each_function h.function in
    let named : AllByRecursion (AllByRecursion (SymbolNamed g.tokens h.its.arity)) h.its.constituents =
    All-weaker (SoundConstituent g.tokens h.its.arity) (AllByRecursion (SymbolNamed g.tokens h.its.arity)) (λ α c. c.named) h.its.constituents f.each in
    record {
      uses = h.its;
      function = h.function;
      arity = h.arguments;
      result = h.result;
      arguments = All-weaker (λ (c : ℕ). c < length g.dimensions) (Category g) (λ c l. there_below g.dimensions c l) q.arguments h.categories;
      tokens = λ l i t e. symbol_holds g q.function h.its (SymbolNamed g.tokens h.its.arity) h.function named l i (Token t) e;
      pairs = λ l i d r e.
          let n = symbol_holds g q.function h.its (SymbolNamed g.tokens h.its.arity) h.function named l i (Argument d r) e in
          let m = symbol_holds g q.function h.its (SymbolFits g q.arguments) h.function h.fits l i (Argument d r) e in
          let c = then_parts (from_one q.arguments d) (dimension_at g) m.0 m.1 in
          record { category = c.0; argument = c.1; dimension = m.0; known = c.2; positive = n.2; within = m.2 };
    }

pub faultless_sound : (g : Grammar) → checked.Sound g → Sound g
faultless_sound g s = record { start = s.start; places = λ p q e. production_fits g s q (production_sound g s p q e) }

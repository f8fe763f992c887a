-- The answers to a source's questions, from the record that was found. Assumes nothing.
use Rattle.std.proofs.Common.{◌≡◌, ℕ, zero, suc, ◌+◌, ◌<◌, min, Bool, true, false, cond, ◌==◌, List, [], ◌∷◌, map, length, take, drop, Some, None, Ok, Err, MatchOption, Option, Result, sym, refl, ap, ◌∙◌, arith, length-take}
use Rattle.std.proofs.lemmas.List.{take-map, length-map}
use Rattle.std.proofs.lemmas.Option.{slice_get-map}
use Rattle.std.specs.Bool.{then_some}
use Rattle.std.specs.List.{filter, slice_get}
use Rattle.records.specs.declared.records.Record.{Record}
use Rattle.std.specs.Option.{option_map, option_flatten}
use Rattle.grammar.specs.declared.Symbol.{Symbol}
use Rattle.grammar.specs.Grammar.{Grammar, Function, from_one, and_then, dimension_at, arity_at, constituent_count, production_at, constituent_at, symbol_at, argument_at}
use Rattle.records.specs.declared.kinds.Kind.TheVariants.{Category, Function as FunctionKind}
use Rattle.walk.specs.declared.seek.Group.TheVariants.{Only, Places}
use Rattle.walk.specs.Groups.{grouped}
use Rattle.records.specs.Kinds.{kind_number}
use Rattle.records.specs.Meaning.{is_function, most, symbols_of, constituents_first, functions_of, number_of, dimension_of, production_of, place_of, grammar_of}
use Rattle.records.specs.Records.{Entry, viewed, after_entry, entry_at, entries_from}
use Rattle.walk.proofs.Nth.{nth_take, nth_drop_two}
use Rattle.records.proofs.Rows.{stands, past, entries_more, entries_none}

-- a list of the grammar, cut off at its most, from the records of a group
cut_map : {Y : Type 0} (f : Entry → Y) (es : List Entry) (i : ℕ) (o : Option Entry) → o ≡ slice_get (take most es) i → option_map f o ≡ slice_get (take most (map f es)) i
cut_map f es i o h = ap (option_map f) h ∙ sym (ap (λ ys. slice_get ys i) (take-map f most es) ∙ slice_get-map f (take most es) i)

length_cut : {Y : Type 0} (f : Entry → Y) (es : List Entry) → min most (length es) ≡ length (take most (map f es))
length_cut f es = sym (length-take most (map f es) ∙ ap (min most) (length-map es f))

module _ (bs : List ℕ) where
  -- a function record with the constituents that follow it in the file
  abbrev function_from : Entry → Function
  function_from e = record { arity = number_of e 0; constituents = take most (map symbols_of (constituents_first (entries_from bs (after_entry e)))) }

  functions_step : (o : ℕ) (r : Result Entry (List ℕ)) → entry_at bs o ≡ r → ((e : Entry) → r ≡ Ok e → functions_of (entries_from bs (after_entry e)) ≡ map function_from (filter is_function (entries_from bs (after_entry e)))) → functions_of (entries_from bs o) ≡ map function_from (filter is_function (entries_from bs o))
  functions_step o (Err f) read on = ap functions_of (entries_none bs o f read) ∙ sym (ap (λ es. map function_from (filter is_function es)) (entries_none bs o f read))
  functions_step o (Ok e) read on =
      let rest = entries_from bs (after_entry e) in
      ap functions_of (entries_more bs o e read)
      ∙ both (is_function e) (functions_of rest) (filter is_function rest) (on e refl)
      ∙ sym (ap (λ es. map function_from (filter is_function es)) (entries_more bs o e read))
    where
      both : (b : Bool) (fs : List Function) (es : List Entry) → fs ≡ map function_from es → cond b (function_from e ∷ fs) fs ≡ map function_from (cond b (e ∷ es) es)
      both true fs es h = ap (λ xs. function_from e ∷ xs) h
      both false fs es h = h

  functions_within : (n o : ℕ) → length bs < n + o → functions_of (entries_from bs o) ≡ map function_from (filter is_function (entries_from bs o))
  functions_within zero o h = functions_step o (Err (1 ∷ o ∷ [])) (past bs o (omega arith)) (λ e r. absurd (let z : ◌≡◌ {A = ℕ} 0 1 = cc in omega arith))
  functions_within (suc n) o h = functions_step o (entry_at bs o) refl (λ e r. let s = stands bs o e r in functions_within n (after_entry e) (omega arith))

  functions_are : functions_of (entries_from bs 0) ≡ map function_from (grouped (Only FunctionKind) (entries_from bs 0))
  unfolding grouped
  functions_are = functions_within (suc (length bs)) 0 (omega arith)

  abbrev g : Grammar
  g = grammar_of (entries_from bs 0)

  pub categories_count : min most (length (grouped (Only Category) (entries_from bs 0))) ≡ length g.dimensions
  unfolding grouped grammar_of
  categories_count = length_cut dimension_of _

  pub functions_count : min most (length (grouped (Only FunctionKind) (entries_from bs 0))) ≡ length g.functions
  unfolding grammar_of
  functions_count = length_cut function_from _ ∙ ap (λ fs. length (take most fs)) (sym functions_are)

  pub places_count : min most (length (grouped Places (entries_from bs 0))) ≡ length g.places
  unfolding grouped grammar_of
  places_count = length_cut place_of _

  pub dimension_answer : (c : ℕ) → option_map dimension_of (slice_get (take most (grouped (Only Category) (entries_from bs 0))) c) ≡ dimension_at g c
  unfolding grouped grammar_of
  dimension_answer c = cut_map dimension_of _ c _ refl

  function_found : (f : ℕ) (o : Option Entry) → o ≡ slice_get (take most (grouped (Only FunctionKind) (entries_from bs 0))) f → option_map function_from o ≡ slice_get g.functions f
  unfolding grammar_of
  function_found f o h = cut_map function_from _ f o h ∙ ap (λ fs. slice_get (take most fs) f) (sym functions_are)

  -- a question of a function, from its record
  about_function : {Y : Type 0} (q : Option Function → Y) (f : ℕ) (o : Option Entry) → o ≡ slice_get (take most (grouped (Only FunctionKind) (entries_from bs 0))) f → q (option_map function_from o) ≡ q (slice_get g.functions f)
  about_function q f o h = ap q (function_found f o h)

  arity_of : (f : ℕ) (o : Option Entry) → o ≡ slice_get (take most (grouped (Only FunctionKind) (entries_from bs 0))) f → option_map (λ e. number_of e 0) o ≡ arity_at g f
  arity_of f None h = about_function (option_map (λ x. x.arity)) f None h
  arity_of f (Some e) h = about_function (option_map (λ x. x.arity)) f (Some e) h

  pub arity_answer : (f : ℕ) → option_map (λ e. number_of e 0) (slice_get (take most (grouped (Only FunctionKind) (entries_from bs 0))) f) ≡ arity_at g f
  arity_answer f = arity_of f _ refl

  pub constituents_answer : (f : ℕ) (o : Option Entry) → o ≡ slice_get (take most (grouped (Only FunctionKind) (entries_from bs 0))) f → option_map (λ e. min most (length (constituents_first (entries_from bs (after_entry e))))) o ≡ constituent_count g f
  constituents_answer f None h = about_function (option_map (λ x. length x.constituents)) f None h
  constituents_answer f (Some e) h = ap Some (length_cut symbols_of _) ∙ about_function (option_map (λ x. length x.constituents)) f (Some e) h

  -- symbol i of constituent l of what was found, counted from 0
  abbrev pub symbol_in : Entry → ℕ → ℕ → Option Symbol
  symbol_in e l i = and_then (slice_get (constituents_first (entries_from bs (after_entry e))) l) (λ c. slice_get (symbols_of c) i)

  symbol_answer : (f l i : ℕ) (o : Option Entry) → l < most → o ≡ slice_get (take most (grouped (Only FunctionKind) (entries_from bs 0))) f → and_then o (λ e. symbol_in e l i) ≡ symbol_at g f (suc l) (suc i)
  symbol_answer f l i None small h = about_function (λ x. and_then (and_then x (λ y. from_one y.constituents (suc l))) (λ s. from_one s (suc i))) f None h
  symbol_answer f l i (Some e) small h =
      let first = constituents_first (entries_from bs (after_entry e)) in
      sym (ap (λ x. and_then x (λ s. from_one s (suc i))) (nth_take most (map symbols_of first) l small ∙ slice_get-map symbols_of first l) ∙ through (slice_get first l))
      ∙ about_function (λ x. and_then (and_then x (λ y. from_one y.constituents (suc l))) (λ s. from_one s (suc i))) f (Some e) h
    where
      through : (x : Option Entry) → and_then (option_map symbols_of x) (λ s. from_one s (suc i)) ≡ and_then x (λ c. slice_get (symbols_of c) i)
      through None = refl
      through (Some x) = refl

  -- the same, where constituents and symbols are counted from 1
  pub symbol_there : (f k j l i : ℕ) (o : Option Entry) → suc k ≡ l → suc j ≡ i → k < most → o ≡ slice_get (take most (grouped (Only FunctionKind) (entries_from bs 0))) f → and_then o (λ e. symbol_in e k j) ≡ symbol_at g f l i
  symbol_there f k j l i o p q small h = symbol_answer f k j o small h ∙ (λ n. symbol_at g f (p n) (q n))

  place_found : (p : ℕ) (o : Option Entry) → o ≡ slice_get (take most (grouped Places (entries_from bs 0))) p → option_map place_of o ≡ slice_get g.places p
  unfolding grouped grammar_of
  place_found p o h = cut_map place_of _ p o h

  pub production_answer : (p : ℕ) (o : Option Entry) → o ≡ slice_get (take most (grouped Places (entries_from bs 0))) p → and_then o place_of ≡ production_at g p
  production_answer p None h = ap option_flatten (place_found p None h)
  production_answer p (Some e) h = ap option_flatten (place_found p (Some e) h)

-- the production of a record that is kept only where a test says that it is a filled place
pub kept_filled : {Test : Record → Bool → Type 0} (o r : Option Record) → MatchOption o (r ≡ None) (λ x. (b : Bool) × Test x b × (r ≡ then_some b x)) → ((x : Record) (b : Bool) → Test x b → b ≡ (kind_number x.kind == 5)) → option_map (λ x. production_of (viewed x)) r ≡ and_then (option_map viewed o) place_of
kept_filled None r h tests = ap (option_map (λ x. production_of (viewed x))) h
kept_filled (Some x) r h tests = ap (option_map (λ y. production_of (viewed y))) h.2 ∙ kept h.0 ∙ ap (λ b. cond b (Some (production_of (viewed x))) None) (tests x h.0 h.1)
  where
    kept : (b : Bool) → option_map (λ y. production_of (viewed y)) (then_some b x) ≡ cond b (Some (production_of (viewed x))) None
    kept true = refl
    kept false = refl

nothing_then : {X Y : Type 0} (o : Option X) → and_then {Y = Y} o (λ _. None) ≡ None
nothing_then None = refl
nothing_then (Some x) = refl

-- counting from 1, nothing stands at 0
pub no_argument : (h : Grammar) (p i : ℕ) → i ≡ 0 → None ≡ argument_at h p i
no_argument h p i z = sym (ap (argument_at h p) z ∙ nothing_then (production_at h p))

pub no_constituent : (h : Grammar) (f l i : ℕ) → l ≡ 0 → None ≡ symbol_at h f l i
no_constituent h f l i z = sym (ap (λ n. symbol_at h f n i) z ∙ ap (λ o. and_then o (λ s. from_one s i)) (nothing_then (slice_get h.functions f)))

pub no_symbol : (h : Grammar) (f l i : ℕ) → i ≡ 0 → None ≡ symbol_at h f l i
no_symbol h f l i z = sym (ap (symbol_at h f l) z ∙ nothing_then (constituent_at h f l))

-- the arguments are the numbers after the first two
pub argument_number : (ns : List ℕ) (j i : ℕ) → suc j ≡ i → slice_get ns (2 + j) ≡ from_one (drop 2 ns) i
argument_number ns j i h = let two : 2 + j ≡ suc (suc j) = omega arith in ap (slice_get ns) two ∙ sym (nth_drop_two ns j) ∙ ap (from_one (drop 2 ns)) h

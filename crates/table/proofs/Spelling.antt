-- An answer about a function or a place of what a table means, given the row that stands there. Assumes nothing.
use Rattle.std.proofs.Common.{◌≡◌, ℕ, Some, None, Option, ap, ◌∙◌}
use Rattle.std.specs.Option.{MatchOption, IsSomeAnd, option_map, option_flatten}
use Rattle.std.specs.List.{slice_get}
use Rattle.grammar.specs.declared.Place.{Place}
use Rattle.grammar.specs.Grammar.{Function, Production, from_one, and_then, symbol_at, production_at, place_at, head_of}
use Rattle.table.specs.declared.record_table.FunctionRow.{FunctionRow}
use Rattle.table.specs.declared.record_table.ConstituentRow.{ConstituentRow}
use Rattle.table.specs.declared.record_table.PlaceRow.{PlaceRow}
use Rattle.table.specs.declared.record_table.Table.{Table}
use Rattle.table.specs.Rows.{part, stopped}
use Rattle.table.specs.Table.{constituent_spelt, function_spelt, production_spelt, production_head, table_meaning}
use Rattle.table.proofs.Lookups.{nth_via, nth_map, from_one_via, flattened_mapped}

abbrev pub function_of : Table → FunctionRow → Function
function_of t = function_spelt t.constituents.now t.symbols.now

abbrev pub production_of : Table → PlaceRow → Production
production_of t = production_spelt t.arguments.now

pub function_via : {Z : Type 0} (G : Option Function → Z) (t : Table) (f : ℕ) (o : Option FunctionRow)
    → o ≡ slice_get (stopped t.functions.now) f → G (option_map (function_of t) o) ≡ G (slice_get (table_meaning t).functions f)
function_via G t f o e = nth_via (function_of t) G (stopped t.functions.now) f o e

pub production_via : {Z : Type 0} (G : Option Production → Z) (t : Table) (p : ℕ) (o : Option PlaceRow)
    → o ≡ option_flatten (slice_get (stopped t.places.now) p) → G (option_map (production_of t) o) ≡ G (production_at (table_meaning t) p)
production_via G t p o e =
    ap (λ q. G (option_map (production_of t) q)) e
    ∙ (ap G (flattened_mapped (production_of t) (slice_get (stopped t.places.now) p))
    ∙ ap (λ q. G (option_flatten q)) (nth_map (option_map (production_of t)) (stopped t.places.now) p))

pub place_via : (t : Table) (p : ℕ) (o : Option PlaceRow) (r : Option Place) → o ≡ option_flatten (slice_get (stopped t.places.now) p)
    → MatchOption o (r ≡ None) (λ row. IsSomeAnd r (λ place. place ≡ production_head row)) → r ≡ place_at (table_meaning t) p
place_via t p None r e k = k ∙ production_via (option_map head_of) t p None e
place_via t p (Some row) None e k = elim k [ ]
place_via t p (Some row) (Some place) e k = ap Some k ∙ production_via (option_map head_of) t p (Some row) e

-- Symbol i of what the row of a constituent spells, in a function whose row is known.
pub symbol_via : (t : Table) (f l i : ℕ) (row : FunctionRow) (o : Option ConstituentRow)
    → Some row ≡ slice_get (stopped t.functions.now) f → o ≡ from_one (part t.constituents.now row.first row.count) l
    → and_then (option_map (constituent_spelt t.symbols.now) o) (λ s. from_one s i) ≡ symbol_at (table_meaning t) f l i
symbol_via t f l i row o e d =
    from_one_via (constituent_spelt t.symbols.now) (λ q. and_then q (λ s. from_one s i)) (part t.constituents.now row.first row.count) l o d
    ∙ function_via (λ q. and_then (and_then q (λ h. from_one h.constituents l)) (λ s. from_one s i)) t f (Some row) e

-- What a table means: exactly what its rows spell. Assumes nothing.
use Rattle.std.specs.Prelude.{ℕ, List, map}
use Rattle.std.specs.Option.{option_map}
use Rattle.grammar.specs.declared.Place.{Place}
use Rattle.grammar.specs.declared.Symbol.{Symbol}
use Rattle.grammar.specs.Grammar.{Grammar, Function, Production}
use Rattle.table.specs.declared.record_table.FunctionRow.{FunctionRow}
use Rattle.table.specs.declared.record_table.ConstituentRow.{ConstituentRow}
use Rattle.table.specs.declared.record_table.PlaceRow.{PlaceRow}
use Rattle.table.specs.declared.record_table.Table.{Table}
use Rattle.table.specs.Rows.{part, stopped}

abbrev pub constituent_spelt : List Symbol → ConstituentRow → List Symbol
constituent_spelt symbols row = part symbols row.first row.count

abbrev pub function_spelt : List ConstituentRow → List Symbol → FunctionRow → Function
function_spelt constituents symbols row =
    record { arity = row.arity; constituents = map (constituent_spelt symbols) (part constituents row.first row.count) }

abbrev pub production_spelt : List ℕ → PlaceRow → Production
production_spelt arguments row =
    record { result = row.result; function = row.function; arguments = part arguments row.first row.count }

-- The result and the function of a production's row.
abbrev pub production_head : PlaceRow → Place
production_head row = record { result = row.result; function = row.function }

abbrev pub table_meaning : Table → Grammar
table_meaning t =
    record {
      tokens = t.tokens;
      start = t.start;
      dimensions = stopped t.dimensions.now;
      functions = map (function_spelt t.constituents.now t.symbols.now) (stopped t.functions.now);
      places = map (option_map (production_spelt t.arguments.now)) (stopped t.places.now);
    }

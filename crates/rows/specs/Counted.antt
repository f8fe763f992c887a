-- The numbers of a grammar, and how many cells it takes. Assumes nothing.
use Rattle.std.specs.Prelude.{◌≡◌, ℕ, ◌+◌, length}
use Rattle.grammar.specs.Grammar.{Grammar}
use Rattle.soundness.specs.declared.opening.Shape.{Shape}
use Rattle.soundness.specs.Totals.{constituent_total, symbol_total, argument_total}
use Rattle.rows.specs.declared.counts.Counts.{Counts}

-- The counts are those of the grammar.
pub record CountsOf (g : Grammar) (n : Counts) : Type 0 where
  pub tokens : n.tokens ≡ g.tokens
  pub start : n.start ≡ g.start
  pub categories : n.categories ≡ length g.dimensions
  pub functions : n.functions ≡ length g.functions
  pub constituents : n.constituents ≡ constituent_total g
  pub symbols : n.symbols ≡ symbol_total g
  pub places : n.places ≡ length g.places
  pub arguments : n.arguments ≡ argument_total g

-- The counts that a shape has.
abbrev pub counts_in : Shape → Counts
counts_in s =
    record {
      tokens = s.tokens;
      start = s.start;
      categories = s.categories;
      functions = s.functions;
      constituents = s.constituents;
      symbols = s.symbols;
      places = s.places;
      arguments = s.arguments;
    }

-- One cell for each category, function, place, constituent, symbol and argument.
abbrev pub cells_counted : Counts → ℕ
cells_counted n = n.categories + n.functions + n.places + n.constituents + n.symbols + n.arguments

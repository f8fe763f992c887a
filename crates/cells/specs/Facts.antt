-- Which fact of a chart a row is, and the cell that is not in use. Assumes nothing.
use Rattle.std.specs.Prelude.{◌≡◌, List, [], ◌∷◌, map, Some, None, Option}
use Rattle.chart.specs.Chart as chart
use Rattle.chart.specs.Chart.{Reading, unread, read, made, item}
use Rattle.cells.specs.declared.Span.{Span}
use Rattle.cells.specs.declared.Span.TheVariants.{Unread, Read}
use Rattle.cells.specs.declared.Short.{Short}
use Rattle.cells.specs.declared.Short.TheVariants.{Nil, One, Two, Three}
use Rattle.cells.specs.declared.Phrase.{Phrase}
use Rattle.cells.specs.declared.Rule.{Rule}
use Rattle.cells.specs.declared.Fact.{Fact}
use Rattle.cells.specs.declared.Fact.TheVariants.{Item, Made}
use Rattle.cells.specs.declared.Row as row
use Rattle.cells.specs.declared.Row.{Row}
use Rattle.cells.specs.declared.Link.{Link}
use Rattle.cells.specs.declared.Waiting as waiting
use Rattle.cells.specs.declared.Cell.{Cell}

-- The things in order.
abbrev pub list_of : {X : Type 0} → Short X → List X
list_of Nil = []
list_of (One x) = x ∷ []
list_of (Two x y) = x ∷ y ∷ []
list_of (Three x y z) = x ∷ y ∷ z ∷ []

abbrev pub reading_of : Span → Reading
reading_of Unread = unread
reading_of (Read a b) = read a b

abbrev pub phrase_of : Phrase → chart.Phrase
phrase_of X = record { category = X.category; readings = map reading_of (list_of X.spans) }

abbrev pub rule_of : Rule → chart.Rule
rule_of r = record { left = phrase_of r.left; place = r.place; arguments = map phrase_of (list_of r.arguments) }

-- The fact of the chart that a fact in a cell means.
abbrev pub meant : Fact → chart.Fact
meant (Item x) = item (rule_of x.rule) x.constituent x.start x.dot x.end
meant (Made r) = made (rule_of r)

-- The fact that a row is: none where it is another row.
abbrev pub fact_of : Row → Option chart.Fact
fact_of row.TheVariants.Nothing = None
fact_of (row.TheVariants.Category d h p) = None
fact_of (row.TheVariants.Function a c n) = None
fact_of (row.TheVariants.Constituent s n) = None
fact_of (row.TheVariants.Symbol s) = None
fact_of row.TheVariants.Empty = None
fact_of (row.TheVariants.Place c f a n p) = None
fact_of (row.TheVariants.Argument c) = None
fact_of (row.TheVariants.Token t) = None
fact_of (row.TheVariants.Fact f) = Some (meant f)

abbrev pub FactsApart : Type 0
FactsApart = (x y : Fact) → meant x ≡ meant y → x ≡ y

abbrev pub no_link : Link
no_link = record { head = 0; next = 0 }

-- The cell that is not in use.
abbrev pub zero_cell : Cell
zero_cell =
    record {
      row = row.TheVariants.Nothing;
      wait = waiting.TheVariants.Idle;
      fact = no_link;
      first = no_link;
      second = no_link;
      third = no_link;
      whole = no_link;
    }

use Rattle.frontier.specs.Marks.{Marks, RangeOffers}
use Rattle.frontier.proofs.marking.frontier.Given as goal

abbrev pub invariant-loop-due : goal.invariant-loop-due
invariant-loop-due g l =
    Marks (RangeOffers (g.S.Source.meaning l.chart.source.now) l.chart.tokens.now l.chart.cells.now l.chart.room.base l.chart.end l.next l.due) l.initial.marks l.marks

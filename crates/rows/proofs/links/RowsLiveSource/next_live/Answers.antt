use Rattle.std.proofs.Common.{ap, ◌∙◌}
use Rattle.grammar.specs.Grammar.{and_then}
use Rattle.rows.specs.Meaning.{cells_of}
use Rattle.rows.specs.Links.{place_of_cell}
use Rattle.rows.proofs.Reading.{next_told}
use Rattle.rows.proofs.links.RowsLiveSource.next_live.Goals as goal

pub returns-in_err-row : goal.returns-in_err-row
returns-in_err-row c =
    let s = c.args.self.now in
    next_told (cells_of s) s.counts c.args.place c.from_residual.result c.requires
    (c.from_residual.ensures ∙ ap (λ o. and_then o (λ r. place_of_cell s.counts r.next)) c.in_err-row.ensures)

pub returns : goal.returns
returns c =
    let s = c.args.self.now in
    next_told (cells_of s) s.counts c.args.place c.place_of_cell.result c.requires
    (c.place_of_cell.ensures ∙ ap (λ o. and_then o (λ r. place_of_cell s.counts r.next)) c.in_ok-row.ensures)

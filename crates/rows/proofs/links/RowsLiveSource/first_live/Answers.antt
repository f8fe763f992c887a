use Rattle.std.proofs.Common.{sym, ap, ◌∙◌, subst}
use Rattle.grammar.specs.Grammar.{and_then}
use Rattle.steps.specs.Live.{FirstLive}
use Rattle.rows.specs.Sorts.{first_live_in}
use Rattle.std.specs.List.{slice_get}
use Rattle.rows.specs.declared.sorts.Part.{Part}
use Rattle.rows.specs.Meaning.{cells_of, rows_in, rows_meaning}
use Rattle.rows.specs.Links.{place_of_cell}
use Rattle.rows.proofs.links.RowsLiveSource.first_live.Goals as goal

pub returns-in_err-row : goal.returns-in_err-row
returns-in_err-row c =
    let s = c.args.self.now in
    subst (FirstLive (rows_meaning (cells_of s) s.counts) c.args.category 0)
    (sym (c.from_residual.ensures ∙ ap (λ o. and_then o (λ r. place_of_cell s.counts (first_live_in r))) (c.in_err-row.ensures ∙ ap (λ (p : Part). slice_get (rows_in (cells_of s) p) c.args.category) c.category_part.ensures)))
    (c.requires.first c.args.category)

pub returns : goal.returns
returns c =
    let s = c.args.self.now in
    subst (FirstLive (rows_meaning (cells_of s) s.counts) c.args.category 0)
    (sym (c.place_of_cell.ensures ∙ (ap (place_of_cell s.counts) c.first_live_in.ensures ∙ ap (λ o. and_then o (λ r. place_of_cell s.counts (first_live_in r))) (c.in_ok-row.ensures ∙ ap (λ (p : Part). slice_get (rows_in (cells_of s) p) c.args.category) c.category_part.ensures))))
    (c.requires.first c.args.category)

use Rattle.std.proofs.Common.{ℕ, refl, subst}
use Rattle.std.proofs.lemmas.Result.{err_from_is_err_and}
use Rattle.note.specs.Promises.{OpeningRefused, Openable}
use Rattle.note.proofs.Noted.{opening_refused, openable}
use Rattle.note.proofs.whole.run.Goals as goal

pub returns-in_err-opened-clause-runs : goal.returns-in_err-opened-clause-runs
returns-in_err-opened-clause-runs g c =
    let p = err_from_is_err_and c.from_residual.result c.from_residual.ensures.1 in
    let v = g.S.Source.meaning c.args.source.now in
    let f = c.in_err-opened.field-0.0 in
    rw (p.1, p.2) (subst (λ (n : ℕ). OpeningRefused v n f) c.open_area.auto.cells (opening_refused v c.open_area.new.cells f c.in_err-opened.ensures), refl)

pub returns-in_err-told-clause-runs : goal.returns-in_err-told-clause-runs
returns-in_err-told-clause-runs g c =
    let p = err_from_is_err_and c.from_residual-in_err-told.result c.from_residual-in_err-told.ensures.1 in
    let v = g.S.Source.meaning c.args.source.now in
    let o = c.in_ok-opened.ensures in
    rw (p.1, p.2) (subst (λ (n : ℕ). Openable v n) c.open_area.auto.cells (openable v c.open_area.new.cells c.in_ok-opened.opened o.0 o.1), c.in_err-told.ensures.untold)

use Rattle.std.proofs.Common.{ℕ, List, ◌++◌, ◌∷◌, [], refl, sym, subst, arith}
use Rattle.cells.specs.declared.Cell.{Cell}
use Rattle.area.specs.Held.{Held}
use Rattle.chart.specs.Chart.{CellsInUse}
use Rattle.note.proofs.Noted.{in_area, not_fed}
use Rattle.note.proofs.asking.fed.Goals as goal

pub cells_in_use-requires : goal.cells_in_use-requires
cells_in_use-requires c =
    let i = c.requires in
    (i.0, i.1 ++ (c.args.token ∷ []), (c.in-Ok.ensures i.0 i.1 i.2).1)

pub returns-in-Ok : goal.returns-in-Ok
returns-in-Ok c =
    λ g w h.
    let f = c.in-Ok.ensures g w h in
    let after = w ++ (c.args.token ∷ []) in
    let used = c.cells_in_use.ensures in
    let a = in_area g after c.feed.new.cells c.in-Ok.then f.1 in
    (after, f.1, (f.0, refl, subst (λ (n : ℕ). CellsInUse g after n) (sym used) f.2, omega (arith, a, used, c.feed.auto.cells)))

pub returns-in-Err : goal.returns-in-Err
returns-in-Err c =
    λ g w h.
    let f = not_fed g w c.args.token c.args.cells.now c.feed.new.cells c.in-Err.refusal (c.in-Err.ensures g w h) in
    (w, subst (λ (cs : List Cell). Held g w cs c.args.numbers) (sym f.1) h, (f.0, refl))

use Rattle.std.proofs.Common.{ℕ, List, [], ◌∷◌, ◌++◌, Ok, Err, ap, sym, subst, arith}
use Rattle.std.proofs.lemmas.Result.{err_from_is_err_and}
use Rattle.grammar.specs.Grammar.{Grammar}
use Rattle.calls.specs.Fed.{Fed}
use Rattle.chart.specs.Chart.{CellsInUse}
use Rattle.note.specs.Promises.{OpenState, Holds}
use Rattle.note.proofs.Noted.{in_area, refused_fed}
use Rattle.note.proofs.open.OpenNote.feed.Goals as goal

pub returns-in_err-numbers-clause-fed : goal.returns-in_err-numbers-clause-fed
returns-in_err-numbers-clause-fed c =
    let p = err_from_is_err_and c.from_residual.result c.from_residual.ensures.1 in
    rw (p.1, p.2)
    (λ g w h.
    let e = c.in_err-numbers.field-0.0 in
    let fed = subst (λ (v : OpenState). (g : Grammar) (w : List ℕ) → Holds g w v → Fed g w c.args.token v.area.now c.feed.new.cells (Err e)) c.self.view_is c.in_err-numbers.ensures in
    refused_fed g w c.args.token c.args.self.now c.feed.new.cells c.self.inside.numbers e (fed g w h) (ap (λ (v : OpenState). v.numbers) c.self.view_is))

pub cells_in_use-used-requires : goal.cells_in_use-used-requires
cells_in_use-used-requires c =
    let i = c.self.invariant in
    let f = c.in_ok-numbers.ensures i.0 i.1 i.2 in
    (i.0, i.1 ++ (c.args.token ∷ []), f.1)

pub invariant_of-self-2 : goal.invariant_of-self-2
invariant_of-self-2 c =
    let i = c.self.invariant in
    let f = c.in_ok-numbers.ensures i.0 i.1 i.2 in
    (i.0, _, f.1)

pub returns-clause-fed : goal.returns-clause-fed
returns-clause-fed c =
    λ g w h.
    let n = c.in_ok-numbers.numbers in
    let fed = subst (λ (v : OpenState). (g : Grammar) (w : List ℕ) → Holds g w v → Fed g w c.args.token v.area.now c.feed.new.cells (Ok n)) c.self.view_is c.in_ok-numbers.ensures in
    let f = fed g w h in
    let used = c.cells_in_use-used.ensures in
    let a = in_area g (w ++ (c.args.token ∷ [])) c.feed.new.cells n f.1 in
    (f.0, f.1, subst (λ (u : ℕ). CellsInUse g (w ++ (c.args.token ∷ [])) u) (sym used) f.2, omega (arith, a, used), f.3)

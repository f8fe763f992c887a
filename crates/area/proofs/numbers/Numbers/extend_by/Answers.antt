use Rattle.std.proofs.Common.{◌-◌, [], ◌∷◌, ◌++◌, length, set, sym, refl, ap, ◌∙◌, subst, arith}
use Rattle.cells.specs.declared.Cell.{Cell}
use Rattle.area.specs.Held.{Held}
use Rattle.area.specs.Opened.{one_more}
use Rattle.area.proofs.Longer.{held_ready, held_few, held_none, held_more, held_unmoved}
use Rattle.area.proofs.numbers.Numbers.extend_by.Goals as goal

pub returns-then-limit-self : goal.returns-then-limit-self
returns-then-limit-self c =
    λ g w h.
    let r = c.room-base.ensures g w h in
    (held_none g w c.args.cells.now c.args.self h c.args.token (omega (arith, r.1, c.if-limit-self.true)), refl)

pub push-requires : goal.push-requires
push-requires c =
    let h = c.requires.held.2 in
    let is = ap (λ v. length v) (c.tokens-tokens.ensures c.requires.held.0 c.requires.held.1 h) in
    omega (arith, is, h.few)

pub extend-requires : goal.extend-requires
extend-requires c =
    let g = c.requires.held.0 in
    let w = c.requires.held.1 in
    let h = c.requires.held.2 in
    let r = c.room-base.ensures g w h in
    let longer = c.deref.ensures.0 ∙ (c.push.ensures.items ∙ ap (λ v. v ++ (c.args.token ∷ [])) (c.tokens-tokens.ensures g w h)) in
    let x = held_ready g w c.args.cells.now c.args.self h c.room-base.result.base r.0 c.deref.result.now c.args.token longer (c.room-base.result.limit - 1) (omega (arith, c.if-limit-self.false)) (omega (arith, r.1, c.if-limit-self.false)) in
    record { sound = x.sound; linked = x.linked; tokens = x.tokens_few; before = x.before }

pub returns-in_err-end : goal.returns-in_err-end
returns-in_err-end c =
    λ g w h.
    let r = c.room-base.ensures g w h in
    let longer = c.deref.ensures.0 ∙ (c.push.ensures.items ∙ ap (λ v. v ++ (c.args.token ∷ [])) (c.tokens-tokens.ensures g w h)) in
    let o = c.in_err-end.ensures in
    rw c.from_residual.ensures
    (held_few g w c.args.cells.now c.args.self h c.room-base.result.base r.0 c.deref.result.now c.args.token longer (c.room-base.result.limit - 1) (omega (arith, c.if-limit-self.false)) (omega (arith, r.1, c.if-limit-self.false)) o.0, o.1)

pub bounds-cells-limit : goal.bounds-cells-limit
bounds-cells-limit c =
    let r = c.room-base.ensures c.requires.held.0 c.requires.held.1 c.requires.held.2 in
    omega (arith, r.1, c.if-limit-self.false, c.extend.auto.cells)

pub returns : goal.returns
returns c =
    λ g w h.
    let r = c.room-base.ensures g w h in
    let longer = c.deref.ensures.0 ∙ (c.push.ensures.items ∙ ap (λ v. v ++ (c.args.token ∷ [])) (c.tokens-tokens.ensures g w h)) in
    let made =
    held_more g w c.args.cells.now c.extend.new.cells c.args.self h c.room-base.result.base r.0 c.deref.result.now c.args.token longer (c.room-base.result.limit - 1) c.in_ok-end.end (omega (arith, c.if-limit-self.false)) (omega (arith, r.1, c.if-limit-self.false)) c.requires.known (omega (arith, h.many, c.requires.room)) c.in_ok-end.ensures in
    let stays =
    held_unmoved g w c.args.cells.now c.extend.new.cells c.args.self h c.room-base.result.base (c.room-base.result.limit - 1) c.token_cell.result (omega (arith, c.if-limit-self.false)) (omega (arith, r.1, c.if-limit-self.false)) c.in_ok-end.ensures.1 in
    (refl, subst (λ (x : Cell). Held g (w ++ (c.args.token ∷ [])) (set c.extend.new.cells (c.room-base.result.limit - 1) x) (one_more c.args.self c.in_ok-end.end)) (sym c.token_cell.ensures) made, stays)

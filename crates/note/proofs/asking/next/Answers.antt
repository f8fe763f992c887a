use Rattle.std.proofs.Common.{◌≡◌, length, min, sym, ◌∙◌, arith}
use Rattle.std.proofs.Math.Nat.{min-le_left}
use Rattle.note.proofs.Asked.{next_told, next_untold}
use Rattle.note.proofs.asking.next.Goals as goal

pub returns-in-Some : goal.returns-in-Some
returns-in-Some c =
    λ g w h.
    let given = c.deref_mut.ensures.len in
    let made : length c.deref_mut.result.now ≡ min c.args.room 1024 = given ∙ (c.in_ok-list.ensures.len ∙ c.min.ensures) in
    next_told g w c.deref_mut.result.now c.next_list.new.list _ c.truncate.new.self.items c.in-Some.n c.in_ok-list.list.len c.args.room (c.in-Some.ensures g w h)
    (omega (arith, made, min-le_left c.args.room 1024)) (sym (c.next_list.auto.list ∙ given)) c.truncate.ensures.items

pub returns-in-None : goal.returns-in-None
returns-in-None c =
    λ g w h.
    next_untold g w c.deref_mut.result.now c.next_list.new.list c.args.room h.sound h.known (c.in-None.ensures g w h)
    (c.deref_mut.ensures.len ∙ (c.in_ok-list.ensures.len ∙ c.min.ensures)) _

use Rattle.std.proofs.Common.{sym, ◌∙◌}
use Rattle.note.proofs.Asked.{linearized_told, linearized_refused}
use Rattle.note.proofs.asking.linearized.Goals as goal

pub returns-in-Ok : goal.returns-in-Ok
returns-in-Ok c =
    λ g w h.
    let given = c.deref_mut.ensures.len in
    linearized_told g c.args.list.now c.deref_mut.result.now c.linearize_in.new.output _ c.truncate.new.self.items c.in-Ok.n c.in_ok-output.output.len c.args.room (c.in-Ok.ensures g w h)
    (given ∙ c.in_ok-output.ensures.len) (sym (c.linearize_in.auto.output ∙ given)) c.truncate.ensures.items

pub returns-in-Err : goal.returns-in-Err
returns-in-Err c =
    λ g w h.
    linearized_refused g c.args.list.now c.deref_mut.result.now c.linearize_in.new.output c.args.room c.in-Err.refusal (c.in-Err.ensures g w h) (c.deref_mut.ensures.len ∙ c.in_ok-output.ensures.len)

use Rattle.std.proofs.Common.{sym, subst}
use Rattle.cells.proofs.Equal.{phrase_told}
use Rattle.steps.specs.Joins.{JoinOf}
use Rattle.std.proofs.lemmas.Bool.Decides.{not_from_Decides}
use Rattle.steps.proofs.Joining.{join_predicts, join_combines, join_none}
use Rattle.steps.proofs.joins.join.Goals as goal

pub returns-then-eq : goal.returns-then-eq
returns-then-eq c =
    join_predicts c.args.x c.predicted.result c.args.d c.args.s c.args.awaited c.args.made c.requires.argument c.requires.unread ((phrase_told c.args.made.left c.args.awaited c.eq.result c.eq.ensures).0 c.if-eq.true) c.predicted.ensures

pub returns-in_err-end : goal.returns-in_err-end
returns-in_err-end c =
    subst (JoinOf c.args.x c.args.d c.args.s c.args.made) (sym c.from_residual.ensures)
    (join_none c.args.x c.args.d c.args.s c.args.awaited c.args.made c.requires.argument (not_from_Decides c.eq.result (phrase_told c.args.made.left c.args.awaited c.eq.result c.eq.ensures) c.if-eq.false) c.in_err-end.ensures)

pub returns : goal.returns
returns c =
    join_combines c.args.x c.combined.result c.args.d c.args.s c.in_ok-end.end c.args.awaited c.args.made c.requires.argument c.requires.unread c.in_ok-end.ensures c.combined.ensures

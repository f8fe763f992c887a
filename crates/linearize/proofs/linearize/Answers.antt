use Rattle.std.proofs.Common.{◌≡◌, ◌<◌, length, false, None, Err, is_some, is_ok, sym, refl, ap, ◌∙◌, subst, arith, rules}
use Rattle.std.proofs.lemmas.Result.{err_from_is_err_and}
use Rattle.faults.proofs.Exact.{sound_faultless}
use Rattle.chart.specs.Written.{start_written}
use Rattle.linearize.specs.declared.refusal.Unlinearized.TheVariants.{NoTree}
use Rattle.linearize.specs.Reading.{StartRead}
use Rattle.linearize.specs.Linearizes.{Linearizes}
use Rattle.linearize.specs.Nodes.{most_length}
use Rattle.linearize.proofs.Final.{writes_none_lem, started_lem, refused_lem, too_short_lem, room_there, put_string}
use Rattle.linearize.proofs.linearize.Goals as goal

pub invariant_of-written : goal.invariant_of-written
invariant_of-written g c = record { faultless = sound_faultless (g.S.Source.meaning c.args.source.now) c.requires }

pub returns-in_err-ok_or : goal.returns-in_err-ok_or
returns-in_err-ok_or g c =
    let none : is_some c.read_start.result ≡ false = sym c.ok_or.ensures.variant ∙ ap is_ok c.in_err-ok_or.was in
    let unread : start_written (g.S.Source.meaning c.args.source.now) c.args.list.now ≡ None = subst (StartRead (g.S.Source.meaning c.args.source.now) c.args.list.now c.read_start.new.nodes) none c.read_start.ensures in
    let p = err_from_is_err_and c.from_residual.result c.from_residual.ensures.1 in
    let e : c.from_residual.result ≡ Err NoTree = p.1 ∙ ap Err (p.2 ∙ refused_lem c.read_start.result NoTree c.in_err-ok_or.field-0.0 none (sym c.ok_or.ensures.value ∙ c.in_err-ok_or.was)) in
    subst (Linearizes (g.S.Source.meaning c.args.source.now) c.args.list.now c.args.output.now c.args.output.now) (sym e)
    (writes_none_lem (g.S.Source.meaning c.args.source.now) c.args.list.now unread, refl)

pub returns-then-nodes-output : goal.returns-then-nodes-output
returns-then-nodes-output g c =
    let there = started_lem (g.S.Source.meaning c.args.source.now) c.args.list.now c.read_start.new.nodes c.read_start.result (sym c.ok_or.ensures.variant ∙ ap is_ok c.in_ok-ok_or.was) c.read_start.ensures in
    let b : length c.args.output.now < most_length = search rules in
    too_short_lem (g.S.Source.meaning c.args.source.now) c.args.list.now c.read_start.new.nodes c.args.output.now (omega (arith, c.if-list-gt-NUMBERS.false)) b there c.if-nodes-output.true

pub write_constituent-requires : goal.write_constituent-requires
write_constituent-requires g c =
    let there = started_lem (g.S.Source.meaning c.args.source.now) c.args.list.now c.read_start.new.nodes c.read_start.result (sym c.ok_or.ensures.variant ∙ ap is_ok c.in_ok-ok_or.was) c.read_start.ensures in
    let b : length c.args.output.now < most_length = search rules in
    record {
      table = there.0;
      tree = room_there (g.S.Source.meaning c.args.source.now) c.args.list.now c.read_start.new.nodes (length c.args.output.now) b there c.if-nodes-output.false;
    }

pub returns : goal.returns
returns g c =
    let there = started_lem (g.S.Source.meaning c.args.source.now) c.args.list.now c.read_start.new.nodes c.read_start.result (sym c.ok_or.ensures.variant ∙ ap is_ok c.in_ok-ok_or.was) c.read_start.ensures in
    let b : length c.args.output.now < most_length = search rules in
    put_string (g.S.Source.meaning c.args.source.now) c.args.list.now c.read_start.new.nodes c.args.output.now c.write_constituent.new.output c.write_constituent.result (omega (arith, c.if-list-gt-NUMBERS.false)) b
    there c.if-nodes-output.false c.write_constituent.ensures

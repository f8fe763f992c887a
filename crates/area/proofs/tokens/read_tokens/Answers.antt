use Rattle.std.proofs.Common.{◌≡◌, length, ◌∙◌, arith, drop-set-lt}
use Rattle.std.proofs.lemmas.Iterator.{YieldsList-from_take}
use Rattle.std.proofs.lemmas.Iterator.Adapters.{YieldsList-from_rev_slice}
use Rattle.std.proofs.lemmas.Iterator.Consumers.{YieldsList-from_enumerate, YieldsList-turn, YieldsList-end}
use Rattle.std.proofs.lemmas.List.{length_push}
use Rattle.std.proofs.lemmas.List.FromFn.{length-enumerate_from}
use Rattle.area.proofs.FarEnd.{from_last, from_last_at, from_last_length, read_again, read_done, token_there}
use Rattle.area.proofs.tokens.read_tokens.Goals as goal

pub loop-i-preserved : goal.loop-i-preserved
loop-i-preserved c =
    let t = from_last_at c.args.cells.now c.args.held _ c.in-Some.i c.in-Some.cell.now c.requires.0 (YieldsList-turn (YieldsList-from_enumerate (YieldsList-from_take c.args.held (YieldsList-from_rev_slice c.args.cells.now (cc)) (cc)) (cc)) c.loop-i.yielded _ c.loop-i.yielded_by _ _ (c.in-Some.i, c.in-Some.cell) c.in-Some.is c.next.ensures.steps) in
    let more = length_push c.loop-i.yielded (c.in-Some.i, c.in-Some.cell) in (
      λ w e h. read_again w c.loop-i.tokens _ c.in-Some.i c.token_in.result _ more t.1 (omega (arith, t.0, c.requires.1)) (token_there c.args.cells.now w _ c.token_in.result c.in-Some.cell.now h (omega (arith, e, t.0)) t.2 c.token_in.ensures) (c.loop-i.invariant.0 w e h),
      drop-set-lt c.args.held c.loop-i.tokens c.in-Some.i c.token_in.result (omega (arith, t.0, t.1)) ∙ c.loop-i.invariant.1,
    )

pub returns : goal.returns
returns c =
    let t = YieldsList-end (YieldsList-from_enumerate (YieldsList-from_take c.args.held (YieldsList-from_rev_slice c.args.cells.now (cc)) (cc)) (cc)) c.loop-i.yielded _ c.loop-i.yielded_by _ _ c.in-None.is c.next.ensures.steps in
    let all : length c.loop-i.yielded ≡ c.args.held = omega (arith, t.1, length-enumerate_from 0 (from_last c.args.cells.now c.args.held), from_last_length c.args.cells.now c.args.held c.requires.0) in
    record { front = λ w e h. read_done w c.loop-i.tokens c.args.held _ e all (omega (arith, c.requires.1)) (c.loop-i.invariant.0 w e h); rest = c.loop-i.invariant.1 }

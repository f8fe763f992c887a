use Rattle.std.proofs.Common.{◌<◌, length, add-one, arith, rules}
use Rattle.linearize.proofs.Skipping.{skip_more, skip_inside, skip_all}
use Rattle.linearize.proofs.nodes.argument_start.Goals as goal

pub loop-j-init : goal.loop-j-init
loop-j-init c = add-one c.args.i

pub loop-j-preserved : goal.loop-j-preserved
loop-j-preserved c = skip_more c.args.nodes.now _ c.loop-j.j c.loop-j.at (omega (arith, c.loop-j.auto.j)) c.loop-j.invariant

pub bounds-nodes-at : goal.bounds-nodes-at
bounds-nodes-at c = skip_inside c.args.nodes.now c.args.i c.args.k c.loop-j.j c.loop-j.at c.requires.reached (omega (arith, c.loop-j-test.true)) c.loop-j.invariant

pub offset_bounds-nodes-at : goal.offset_bounds-nodes-at
offset_bounds-nodes-at c = let h : c.loop-j.at < length c.args.nodes.now = bounds-nodes-at c in search rules

pub returns : goal.returns
returns c =
    skip_all c.args.nodes.now c.args.i c.args.k c.loop-j.j c.loop-j.at c.requires.reached (omega (arith, c.loop-j-test.false)) (λ h. c.loop-j.auto.j-end h) c.loop-j.invariant

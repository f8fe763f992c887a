use Rattle.std.proofs.Common.{suc, ◌<◌, length, get_or, add-one, arith, rules}
use Rattle.faults.proofs.Made.{made_sound}
use Rattle.faults.specs.Parts.{arguments_of}
use Rattle.linearize.proofs.Taking.{walk_first, walk_done, walk_all, walk_stops, walk_inside, walk_more}
use Rattle.linearize.proofs.written.Written.arguments_end.Goals as goal

pub loop-k-init : goal.loop-k-init
loop-k-init g c =
    let G = g.S.Source.meaning c.args.self.now.grammar.source.now in
    walk_first G c.args.self.now.list.now (arguments_of G (get_or c.args.self.now.list.now c.args.i 0)) (suc c.args.i) _ (add-one c.args.i) c.requires.trees

pub returns-in_default : goal.returns-in_default
returns-in_default g c = walk_done (g.S.Source.meaning c.args.self.now.grammar.source.now) c.args.self.now.list.now (get_or c.args.self.now.list.now c.args.i 0) (suc c.args.i) c.loop-k.k c.loop-k.at c.loop-k.invariant c.in_default.ensures

pub returns-then-not-makes : goal.returns-then-not-makes
returns-then-not-makes g c =
    walk_stops (g.S.Source.meaning c.args.self.now.grammar.source.now) c.args.self.now.list.now (get_or c.args.self.now.list.now c.args.i 0) (suc c.args.i) c.loop-k.k c.loop-k.at c.in-Some.category c.loop-k.invariant c.in-Some.ensures
    c.if-not-makes.ensures

pub bounds-nodes-at : goal.bounds-nodes-at
bounds-nodes-at g c =
    let G = g.S.Source.meaning c.args.self.now.grammar.source.now in
    let inside = walk_inside G c.args.self.now.list.now (arguments_of G (get_or c.args.self.now.list.now c.args.i 0)) (suc c.args.i) c.loop-k.k c.loop-k.at c.in-Some.category c.loop-k.invariant c.if-not-makes.ensures in
    omega (arith, inside, c.requires.table.room)

pub offset_bounds-nodes-at : goal.offset_bounds-nodes-at
offset_bounds-nodes-at g c = let h : c.loop-k.at < length c.args.nodes.now = bounds-nodes-at g c in search rules

pub loop-k-preserved : goal.loop-k-preserved
loop-k-preserved g c =
    walk_more (g.S.Source.meaning c.args.self.now.grammar.source.now) c.args.self.now.list.now c.args.nodes.now (get_or c.args.self.now.list.now c.args.i 0) (suc c.args.i) c.loop-k.k c.loop-k.at c.in-Some.category c.requires.table c.loop-k.invariant
    c.in-Some.ensures c.if-not-makes.ensures

pub returns : goal.returns
returns g c =
    walk_all (g.S.Source.meaning c.args.self.now.grammar.source.now) (made_sound (g.S.Source.meaning c.args.self.now.grammar.source.now) c.args.self.now.grammar.faultless) c.args.self.now.list.now (get_or c.args.self.now.list.now c.args.i 0) (suc c.args.i) c.loop-k.k c.loop-k.at (omega (arith, c.loop-k-test.false)) c.loop-k.invariant

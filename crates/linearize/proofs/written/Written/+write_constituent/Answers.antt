use Rattle.std.proofs.Common.{◌+◌, ◌-◌, ◌<◌, length, arith, rules}
use Rattle.faults.proofs.Made.{made_sound}
use Rattle.linearize.proofs.Prefixes.{prefix_ends, prefix_all}
use Rattle.linearize.proofs.Filling.{table_later, token_step, argument_step, room_for, filled_as, fill_last, token_room, fill_token, argument_room, fill_argument, fill_nothing}
use Rattle.linearize.proofs.written.Written.+write_constituent.Goals as goal
use Rattle.linearize.proofs.written.Written.+write_constituent.Goals.{in-Token, in-Argument+then-length_at-gt0, in-Argument+else-length_at-gt0}

pub returns-in_default : goal.returns-in_default
returns-in_default g t c =
    λ u a.
    let G = g.S.Source.meaning c.args.self.now.grammar.source.now in
    fill_last G u c.args.constituent c.loop-j.j c.args.from c.loop-j.at c.args.output.now c.loop-j.output
    (prefix_ends G c.args.self.now.list.now c.args.i u a c.args.constituent c.loop-j.j c.in_default.ensures) (c.loop-j.invariant u a)

pub returns : goal.returns
returns g t c =
    λ u a.
    let G = g.S.Source.meaning c.args.self.now.grammar.source.now in
    fill_last G u c.args.constituent c.loop-j.j c.args.from c.loop-j.at c.args.output.now c.loop-j.output
    (prefix_all G (made_sound G c.args.self.now.grammar.faultless) u c.args.constituent c.loop-j.j (omega (arith, c.loop-j-test.false))) (c.loop-j.invariant u a)

pub bounds-output-at : goal.bounds-output-at
bounds-output-at g t c =
    let G = g.S.Source.meaning c.args.self.now.grammar.source.now in
    let u = c.requires.tree in
    let S = token_step G (made_sound G c.args.self.now.grammar.faultless) c.args.self.now.list.now c.args.nodes.now c.args.i u.0 c.requires.table u.1 c.args.constituent c.loop-j.j c.in-Some.symbol c.in-Token.t c.in-Token.is c.in-Some.ensures in
    let n = token_room G c.args.self.now.list.now c.args.nodes.now c.args.i u.0 c.args.constituent c.loop-j.j c.in-Token.t c.args.from c.loop-j.at (length c.args.output.now) S (c.loop-j.invariant u.0 u.1).0
    (room_for G c.args.self.now.list.now c.args.i c.args.constituent c.args.from (length c.args.output.now) u u.0 u.1 _) in
    omega (arith, n, c.loop-j.auto.output)

pub offset_bounds-output-at : goal.offset_bounds-output-at
offset_bounds-output-at g t c = let h : c.loop-j.at < length c.loop-j.output = bounds-output-at g t c in search rules

pub overflow_add-at : goal.overflow_add-at
overflow_add-at g t c = let h : c.loop-j.at < length c.loop-j.output = bounds-output-at g t c in search rules

pub argument_start-argument-requires-clause-reached : goal.argument_start-argument-requires-clause-reached
argument_start-argument-requires-clause-reached g t c =
    let G = g.S.Source.meaning c.args.self.now.grammar.source.now in
    let u = c.requires.tree in
    let S = argument_step G (made_sound G c.args.self.now.grammar.faultless) c.args.self.now.list.now c.args.nodes.now c.args.i u.0 c.requires.table u.1 c.args.constituent c.loop-j.j c.in-Some.symbol c.in-Argument.k c.in-Argument.l c.in-Argument.is c.in-Some.ensures in
    S.reached

pub bounds-nodes-argument : goal.bounds-nodes-argument
bounds-nodes-argument g t c =
    let G = g.S.Source.meaning c.args.self.now.grammar.source.now in
    let u = c.requires.tree in
    let S = argument_step G (made_sound G c.args.self.now.grammar.faultless) c.args.self.now.list.now c.args.nodes.now c.args.i u.0 c.requires.table u.1 c.args.constituent c.loop-j.j c.in-Some.symbol c.in-Argument.k c.in-Argument.l c.in-Argument.is c.in-Some.ensures in
    omega (arith, S.inside, c.requires.table.room, c.argument_start-argument.ensures)

pub offset_bounds-nodes-argument : goal.offset_bounds-nodes-argument
offset_bounds-nodes-argument g t c = let h : c.argument_start-argument.result < length c.args.nodes.now = bounds-nodes-argument g t c in search rules

pub write_constituent-at-requires : goal.write_constituent-at-requires
write_constituent-at-requires g t c κs =
    λ h.
    let G = g.S.Source.meaning c.args.self.now.grammar.source.now in
    let u = c.requires.tree in
    let S = argument_step G (made_sound G c.args.self.now.grammar.faultless) c.args.self.now.list.now c.args.nodes.now c.args.i u.0 c.requires.table u.1 c.args.constituent c.loop-j.j c.in-Some.symbol c.in-Argument.k c.in-Argument.l c.in-Argument.is c.in-Some.ensures in
    let R = argument_room G c.args.self.now.list.now c.args.nodes.now c.args.i u.0 c.args.constituent c.loop-j.j c.in-Argument.k c.in-Argument.l c.args.from c.loop-j.at c.argument_start-argument.result (length c.args.output.now) S c.argument_start-argument.ensures (c.loop-j.invariant u.0 u.1).0
    (room_for G c.args.self.now.list.now c.args.i c.args.constituent c.args.from (length c.args.output.now) u u.0 u.1 _) in
    let falls : length c.args.self.now.list.now - c.argument_start-argument.result < t = omega (arith, c.decreases, S.later, S.inside, c.argument_start-argument.ensures) in
    (falls, (h, (table_later G c.args.self.now.list.now c.args.nodes.now c.args.i c.argument_start-argument.result (omega (arith, S.later, c.argument_start-argument.ensures)) c.requires.table, (R.0, R.1, omega (arith, R.2, c.loop-j.auto.output)))))

pub loop-j-preserved : goal.loop-j-preserved
loop-j-preserved g t c =
    λ u a.
    let G = g.S.Source.meaning c.args.self.now.grammar.source.now in
    let room = room_for G c.args.self.now.list.now c.args.i c.args.constituent c.args.from (length c.args.output.now) c.requires.tree u a (c.loop-j.j + 1) in
    elim c.match-symbol.branch [
      | in-Token w ↦
          let S = token_step G (made_sound G c.args.self.now.grammar.faultless) c.args.self.now.list.now c.args.nodes.now c.args.i u c.requires.table a c.args.constituent c.loop-j.j c.in-Some.symbol w.in-Token.t w.in-Token.is c.in-Some.ensures in
          filled_as G u c.args.constituent (c.loop-j.j + 1) c.args.from (c.loop-j.at + 1) c.match-symbol.at c.args.output.now _ c.match-symbol.output w.at-is w.output-is
          (fill_token G c.args.self.now.list.now c.args.nodes.now c.args.i u c.args.constituent c.loop-j.j w.in-Token.t c.args.from c.loop-j.at c.args.output.now c.loop-j.output S c.loop-j.auto.output room (c.loop-j.invariant u a))
      | in-Argument+then-length_at-gt0 w ↦
          let S = argument_step G (made_sound G c.args.self.now.grammar.faultless) c.args.self.now.list.now c.args.nodes.now c.args.i u c.requires.table a c.args.constituent c.loop-j.j c.in-Some.symbol w.in-Argument.k w.in-Argument.l w.in-Argument.is c.in-Some.ensures in
          filled_as G u c.args.constituent (c.loop-j.j + 1) c.args.from w.write_constituent-at.result c.match-symbol.at c.args.output.now w.write_constituent-at.new.output c.match-symbol.output w.at-is w.output-is
          (fill_argument G c.args.self.now.list.now c.args.nodes.now c.args.i u c.args.constituent c.loop-j.j w.in-Argument.k w.in-Argument.l c.args.from c.loop-j.at w.write_constituent-at.result w.argument_start-argument.result
          c.args.output.now c.loop-j.output w.write_constituent-at.new.output S w.argument_start-argument.ensures room (c.loop-j.invariant u a) w.write_constituent-at.ensures)
      | in-Argument+else-length_at-gt0 w ↦
          let S = argument_step G (made_sound G c.args.self.now.grammar.faultless) c.args.self.now.list.now c.args.nodes.now c.args.i u c.requires.table a c.args.constituent c.loop-j.j c.in-Some.symbol w.in-Argument.k w.in-Argument.l w.in-Argument.is c.in-Some.ensures in
          filled_as G u c.args.constituent (c.loop-j.j + 1) c.args.from c.loop-j.at c.match-symbol.at c.args.output.now c.loop-j.output c.match-symbol.output w.at-is w.output-is
          (fill_nothing G c.args.self.now.list.now c.args.nodes.now c.args.i u c.args.constituent c.loop-j.j w.in-Argument.k w.in-Argument.l c.args.from c.loop-j.at w.argument_start-argument.result w.length_at.result
          c.args.output.now c.loop-j.output c.requires.table S w.argument_start-argument.ensures w.length_at.ensures w.if-length_at-gt0.false (c.loop-j.invariant u a))
    ]

pub after_dot-requires : goal.after_dot-requires
after_dot-requires g t c = made_sound (g.S.Source.meaning c.args.self.now.grammar.source.now) c.args.self.now.grammar.faultless

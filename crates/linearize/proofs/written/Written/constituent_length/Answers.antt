use Rattle.std.proofs.Common.{ℕ, List, length, ap, ◌∙◌, arith}
use Rattle.faults.proofs.Made.{made_sound}
use Rattle.linearize.specs.Nodes.{length_told}
use Rattle.linearize.proofs.Prefixes.{prefix_ends, prefix_all, symbol_step, step_reached, total_more}
use Rattle.linearize.proofs.written.Written.constituent_length.Goals as goal

pub symbol_length-requires-clause-reached : goal.symbol_length-requires-clause-reached
symbol_length-requires-clause-reached g c =
    let G = g.S.Source.meaning c.args.self.now.grammar.source.now in
    let ns = c.args.self.now.list.now in
    let t = c.requires.tree in
    let S = symbol_step G (made_sound G c.args.self.now.grammar.faultless) ns c.args.nodes.now c.args.i t.0 c.requires.table t.1 c.args.constituent c.loop-j.j c.in-Some.symbol c.in-Some.ensures in
    step_reached G ns c.args.nodes.now c.args.i t.0 c.args.constituent c.loop-j.j c.in-Some.symbol S

pub loop-j-preserved : goal.loop-j-preserved
loop-j-preserved g c =
    λ t a.
    let G = g.S.Source.meaning c.args.self.now.grammar.source.now in
    let ns = c.args.self.now.list.now in
    let S = symbol_step G (made_sound G c.args.self.now.grammar.faultless) ns c.args.nodes.now c.args.i t c.requires.table a c.args.constituent c.loop-j.j c.in-Some.symbol c.in-Some.ensures in
    total_more G ns c.args.nodes.now c.args.i t c.requires.table c.args.constituent c.loop-j.j c.in-Some.symbol S c.loop-j.total c.symbol_length.result c.saturating_add-total.result (c.loop-j.invariant t a)
    c.symbol_length.ensures c.saturating_add-total.ensures

pub returns-in_default : goal.returns-in_default
returns-in_default g c =
    λ t a. c.loop-j.invariant t a ∙ ap (λ (u : List ℕ). length_told (length u))
    (prefix_ends (g.S.Source.meaning c.args.self.now.grammar.source.now) c.args.self.now.list.now c.args.i t a c.args.constituent c.loop-j.j c.in_default.ensures)

pub returns : goal.returns
returns g c =
    λ t a. c.loop-j.invariant t a ∙ ap (λ (u : List ℕ). length_told (length u))
    (prefix_all (g.S.Source.meaning c.args.self.now.grammar.source.now) (made_sound (g.S.Source.meaning c.args.self.now.grammar.source.now) c.args.self.now.grammar.faultless) t c.args.constituent c.loop-j.j (omega (arith, c.loop-j-test.false)))

pub after_dot-requires : goal.after_dot-requires
after_dot-requires g c = made_sound (g.S.Source.meaning c.args.self.now.grammar.source.now) c.args.self.now.grammar.faultless

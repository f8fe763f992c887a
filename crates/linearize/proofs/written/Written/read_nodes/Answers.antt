use Rattle.std.proofs.Common.{◌≡◌, ℕ, suc, ◌-◌, List, is_some, sym, subst, arith}
use Rattle.grammar.specs.Trees.{Tree}
use Rattle.linearize.specs.Nodes.{Table}
use Rattle.linearize.specs.Reading.{TreesAt, TableRead}
use Rattle.linearize.proofs.Tables.{table_more, none_whole}
use Rattle.linearize.proofs.written.Written.read_nodes.Goals as goal

pub read_node-requires-clause-table : goal.read_node-requires-clause-table
read_node-requires-clause-table g c =
    let e : c.loop-i.i ≡ suc (c.loop-i.i - 1) = omega (arith, c.loop-i-test.true) in
    subst (Table (g.S.Source.meaning c.args.self.now.grammar.source.now) c.args.self.now.list.now c.loop-i.nodes) e c.loop-i.invariant.0

pub read_node-requires-clause-trees : goal.read_node-requires-clause-trees
read_node-requires-clause-trees g c =
    let e : c.loop-i.i ≡ suc (c.loop-i.i - 1) = omega (arith, c.loop-i-test.true) in
    subst (λ (i : ℕ). (trees : List Tree) × TreesAt (g.S.Source.meaning c.args.self.now.grammar.source.now) c.args.self.now.list.now i trees) e c.loop-i.invariant.1

pub returns-in_err-node : goal.returns-in_err-node
returns-in_err-node g c = subst (λ o. TableRead (g.S.Source.meaning c.args.self.now.grammar.source.now) c.args.self.now.list.now c.loop-i.nodes (is_some o)) (sym c.from_residual.ensures) (none_whole (g.S.Source.meaning c.args.self.now.grammar.source.now) c.args.self.now.list.now (c.loop-i.i - 1) c.in_err-node.ensures)

pub loop-i-preserved : goal.loop-i-preserved
loop-i-preserved g c =
    let G = g.S.Source.meaning c.args.self.now.grammar.source.now in
    let e : c.loop-i.i ≡ suc (c.loop-i.i - 1) = omega (arith, c.loop-i-test.true) in
    table_more G c.args.self.now.list.now c.loop-i.nodes (c.loop-i.i - 1) c.in_ok-node.node (omega (arith, c.loop-i-test.true, c.loop-i.auto.i)) (subst (Table G c.args.self.now.list.now c.loop-i.nodes) e c.loop-i.invariant.0) c.in_ok-node.ensures

use Rattle.std.proofs.Common.{sym, subst}
use Rattle.faults.proofs.Made.{made_sound}
use Rattle.linearize.specs.Reading.{NodeRead}
use Rattle.linearize.proofs.Tables.{no_arguments, tree_read, node_read}
use Rattle.linearize.proofs.written.Written.read_node.Goals as goal

pub returns-in_err-end : goal.returns-in_err-end
returns-in_err-end g c = subst (NodeRead (g.S.Source.meaning c.args.self.now.grammar.source.now) c.args.self.now.list.now c.args.i) (sym c.from_residual-in_err-end.ensures)
    (no_arguments (g.S.Source.meaning c.args.self.now.grammar.source.now) c.args.self.now.list.now c.args.i c.in_ok-place.field-0 c.requires.range c.in_ok-place.ensures c.in_err-end.ensures)

pub constituent_length-requires-clause-tree : goal.constituent_length-requires-clause-tree
constituent_length-requires-clause-tree g c =
    let t = tree_read (g.S.Source.meaning c.args.self.now.grammar.source.now) c.args.self.now.list.now c.args.i c.in_ok-end.end c.in_ok-place.field-0 c.requires.range c.in_ok-place.ensures c.in_ok-end.ensures in
    (t.0, t.1)

pub constituent_length-requires-2-clause-tree : goal.constituent_length-requires-2-clause-tree
constituent_length-requires-2-clause-tree g c =
    let t = tree_read (g.S.Source.meaning c.args.self.now.grammar.source.now) c.args.self.now.list.now c.args.i c.in_ok-end.end c.in_ok-place.field-0 c.requires.range c.in_ok-place.ensures c.in_ok-end.ensures in
    (t.0, t.1)

pub constituent_length-requires-3-clause-tree : goal.constituent_length-requires-3-clause-tree
constituent_length-requires-3-clause-tree g c =
    let t = tree_read (g.S.Source.meaning c.args.self.now.grammar.source.now) c.args.self.now.list.now c.args.i c.in_ok-end.end c.in_ok-place.field-0 c.requires.range c.in_ok-place.ensures c.in_ok-end.ensures in
    (t.0, t.1)

pub returns : goal.returns
returns g c =
    let G = g.S.Source.meaning c.args.self.now.grammar.source.now in
    let t = tree_read G c.args.self.now.list.now c.args.i c.in_ok-end.end c.in_ok-place.field-0 c.requires.range c.in_ok-place.ensures c.in_ok-end.ensures in
    node_read G (made_sound G c.args.self.now.grammar.faultless) c.args.self.now.list.now c.args.i c.in_ok-end.end c.constituent_length.result c.constituent_length-2.result c.constituent_length-3.result t c.constituent_length.ensures c.constituent_length-2.ensures c.constituent_length-3.ensures

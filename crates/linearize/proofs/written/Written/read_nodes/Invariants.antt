use Rattle.std.proofs.Common.{List}
use Rattle.grammar.specs.Trees.{Tree}
use Rattle.linearize.specs.Nodes.{Table}
use Rattle.linearize.specs.Reading.{TreesAt}
use Rattle.linearize.proofs.written.Written.read_nodes.Given as goal

abbrev pub invariant-loop-i : goal.invariant-loop-i
invariant-loop-i g l = Table (g.S.Source.meaning l.self.grammar.source.now) l.self.list.now l.nodes l.i × ((trees : List Tree) × TreesAt (g.S.Source.meaning l.self.grammar.source.now) l.self.list.now l.i trees)

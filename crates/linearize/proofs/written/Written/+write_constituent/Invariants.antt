use Rattle.std.proofs.Common.{◌-◌, length}
use Rattle.grammar.specs.Trees.{Tree}
use Rattle.linearize.specs.Nodes.{TreeAt}
use Rattle.linearize.proofs.Filling.{Filled}
use Rattle.linearize.proofs.written.Written.+write_constituent.Given as goal

abbrev pub decreases-write_constituent : goal.decreases-write_constituent
decreases-write_constituent g l = length l.self.now.list.now - l.i

abbrev pub invariant-loop-j : goal.invariant-loop-j
invariant-loop-j g l = (t : Tree) → TreeAt (g.S.Source.meaning l.self.grammar.source.now) l.self.list.now l.i t → Filled (g.S.Source.meaning l.self.grammar.source.now) t l.constituent l.j l.from l.at l.initial.output l.output

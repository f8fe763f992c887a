use Rattle.std.proofs.Common.{◌≡◌, length}
use Rattle.grammar.specs.Trees.{Tree}
use Rattle.linearize.specs.Nodes.{TreeAt, length_told}
use Rattle.linearize.proofs.Prefixes.{prefix_of}
use Rattle.linearize.proofs.written.Written.constituent_length.Given as goal

abbrev pub invariant-loop-j : goal.invariant-loop-j
invariant-loop-j g l = (t : Tree) → TreeAt (g.S.Source.meaning l.self.grammar.source.now) l.self.list.now l.i t → l.total ≡ length_told (length (prefix_of (g.S.Source.meaning l.self.grammar.source.now) t l.constituent l.j))

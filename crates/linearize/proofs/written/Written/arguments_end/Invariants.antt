use Rattle.std.proofs.Common.{suc, get_or}
use Rattle.faults.specs.Parts.{arguments_of}
use Rattle.linearize.proofs.Taking.{Walked}
use Rattle.linearize.proofs.written.Written.arguments_end.Given as goal

abbrev pub invariant-loop-k : goal.invariant-loop-k
invariant-loop-k g l = Walked (g.S.Source.meaning l.self.grammar.source.now) l.self.list.now (arguments_of (g.S.Source.meaning l.self.grammar.source.now) (get_or l.self.list.now l.i 0)) (suc l.i) l.k l.at

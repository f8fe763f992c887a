use Rattle.std.proofs.Common.{◌≡◌, rules, tests, is_some, sym, ◌∙◌, subst}
use Rattle.linearize.specs.Reading.{StartRead}
use Rattle.linearize.proofs.Tables.{start_other, start_made}
use Rattle.linearize.proofs.written.Written.read_start.Goals as goal
use Rattle.linearize.proofs.written.Written.read_start.Goals.{then-makes, else-makes}

pub returns : goal.returns
returns g c =
    let m = g.S.Source.meaning c.args.self.now.grammar.source.now in
    let ns = c.args.self.now.list.now in
    let read = StartRead m ns c.read_nodes.new.nodes in
    let said : is_some c.then_some.result ≡ c.if-makes.then_some = search (rules, tests) in
    subst read (sym said)
    (elim c.if-makes.branch [
      | then-makes w ↦ subst read (sym w.then_some-is) (start_made m ns c.read_nodes.new.nodes c.start.result c.start.ensures c.in_ok-read_nodes.ensures (sym w.if-makes.true ∙ c.makes.ensures))
      | else-makes w ↦ subst read (sym (w.then_some-is ∙ w.if-makes.false)) (start_other m ns c.start.result c.start.ensures c.in_ok-read_nodes.ensures.1 (sym w.if-makes.false ∙ c.makes.ensures))
    ])

use Rattle.std.proofs.Common.{sym}
use Rattle.steps.proofs.Moving.{next_finish, dot_few}
use Rattle.steps.proofs.moves.next_of.Goals as goal

pub returns-in-None : goal.returns-in-None
returns-in-None g c =
    next_finish (g.S.Source.meaning c.args.source.now) c.args.tokens.now c.args.x c.finished.result (sym c.in-None.ensures) c.finished.ensures

pub before_token-requires : goal.before_token-requires
before_token-requires g c =
    record {
      tokens = c.requires.tokens;
      dot = dot_few (g.S.Source.meaning c.args.source.now) c.requires.sound c.args.x.rule.place c.args.x.constituent c.args.x.dot (sym c.in-Some-Token.ensures);
    }

pub before_argument-requires : goal.before_argument-requires
before_argument-requires g c =
    record {
      tokens = c.requires.tokens;
      dot = dot_few (g.S.Source.meaning c.args.source.now) c.requires.sound c.args.x.rule.place c.args.x.constituent c.args.x.dot (sym c.in-Some-Argument.ensures);
    }

use Rattle.std.proofs.Common.{refl, ap, arith}
use Rattle.strike.specs.Strike.{with_places}
use Rattle.strike.proofs.Marks.{more_struck}
use Rattle.strike.proofs.strike_layer.Strike.mark.Goals as goal

pub returns : goal.returns
returns g c =
    record {
      small = omega arith;
      over = refl;
      marks = refl;
      means = ap (with_places (g.S.Source.meaning c.args.self.now.source))
          (more_struck c.args.self.now.marks (g.S.Source.meaning c.args.self.now.source).places c.args.place (omega arith));
    }

use Rattle.std.proofs.Common.{refl, ap}
use Rattle.strike.specs.Strike.{with_places}
use Rattle.strike.proofs.Marks.{none_struck}
use Rattle.strike.proofs.strike_layer.Strike.over.Goals as goal

pub returns : goal.returns
returns g c =
    record {
      over = refl;
      marks = refl;
      means = ap (with_places (g.S.Source.meaning c.args.source)) (none_struck 512 (g.S.Source.meaning c.args.source).places);
    }

use Rattle.std.proofs.Common.{◌≡◌, Some, Option, Decides, subst}
use Rattle.std.specs.Option.{option_eq}
use Rattle.std.proofs.lemmas.Bool.Decides.{Decides-at}
use Rattle.fact_log.specs.declared.things.Thing.{Thing}
use Rattle.fact_log.specs.contracts.things.ThingPartialEq.TheImpl as the_thing
use Rattle.fact_log.proofs.Equal.{some_decides}
use Rattle.fact_log.proofs.view.Index.has.Goals as goal

pub returns : goal.returns
returns c =
    subst (λ (o : Option Thing). Decides c.eq.result (o ≡ Some c.args.thing.now)) c.thing_at.ensures
    (Decides-at c.eq.result (option_eq the_thing.ghosts.eq c.thing_at.result (Some c.args.thing.now)) c.eq.ensures (some_decides c.thing_at.result c.args.thing.now))

use Rattle.std.proofs.Common.{◌≡◌, Some, sym, ap, ◌∙◌}
use Rattle.grammar.specs.Grammar.{from_one}
use Rattle.cells.specs.declared.Span.TheVariants.{Read}
use Rattle.cells.specs.Facts.{list_of}
use Rattle.frontier.proofs.Running.{offers_read}
use Rattle.frontier.proofs.offers.offered_within.Goals as goal

pub returns : goal.returns
returns c =
    λ g e.
    let phrase = c.in_ok-at.field-0 in
    let is : Some (Read c.in_ok-a.a c.in_ok-a.b) ≡ from_one (list_of phrase.spans) c.args.s = ap Some (sym c.in_ok-a.ensures) ∙ c.in_ok-at-2.ensures in
    offers_read g c.args.tokens.now c.args.x c.args.d c.args.s c.in_ok-a.a c.in_ok-a.b phrase e (sym c.in_ok-at.ensures) (sym is) c.running.result c.running.ensures

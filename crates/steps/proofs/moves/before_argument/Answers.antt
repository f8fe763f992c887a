use Rattle.std.proofs.Common.{rules, ◌≡◌, Some, sym, ap, ◌∙◌}
use Rattle.cells.specs.declared.Span.TheVariants.{Read}
use Rattle.steps.specs.Steps.{span_at}
use Rattle.steps.proofs.Moving.{next_no_span, next_copied}
use Rattle.steps.proofs.moves.before_argument.Goals as goal

pub returns-in-Some-Read : goal.returns-in-Some-Read
returns-in-Some-Read c =
    λ g a.
    let e : Some (Read c.in-Some-Read.a c.in-Some-Read.b) ≡ span_at c.args.x c.args.d c.args.s = ap Some (sym c.in-Some-Read.field-0-is) ∙ c.in-Some-Read.ensures in
    next_copied g c.args.tokens.now c.args.x c.args.d c.args.s c.in-Some-Read.a c.in-Some-Read.b c.copied.result c.map_or.result a e c.copied.ensures (search rules)

pub returns-in-None : goal.returns-in-None
returns-in-None c = λ g a. next_no_span g c.args.tokens.now c.args.x c.args.d c.args.s a c.in-None.ensures

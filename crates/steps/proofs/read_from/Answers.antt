use Rattle.std.proofs.Common.{◌≡◌, ℕ, Bool, false, Some, sym, ap, ◌∙◌, subst}
use Rattle.std.proofs.lemmas.Bool.{ne_eqb}
use Rattle.std.specs.Bool.{then_some}
use Rattle.grammar.specs.Grammar.{from_one}
use Rattle.cells.specs.declared.Span.TheVariants.{Unread, Read}
use Rattle.cells.specs.Facts.{list_of}
use Rattle.cells.proofs.Equal.{phrase_told}
use Rattle.steps.specs.Steps.{ReadFrom}
use Rattle.steps.proofs.Reading.{not_read, read_decided}
use Rattle.steps.proofs.read_from.Goals as goal
use Rattle.steps.proofs.read_from.Goals.{then-start-k, else-start-k}

pub returns-in_err-start : goal.returns-in_err-start
returns-in_err-start c =
    let at : Some Unread ≡ from_one (list_of c.args.y.spans) c.args.s = ap Some (sym c.in_err-start.ensures) ∙ c.in_ok-at.ensures in
    rw c.from_residual-in_err-start.ensures (not_read c.args.x c.args.y c.args.s c.args.k (Some Unread) c.requires at (λ m e. cc))

pub returns : goal.returns
returns c =
    let y = c.args.y in
    let start = c.in_ok-start.start in
    let end = c.in_ok-start.end in
    let at : Some (Read start end) ≡ from_one (list_of y.spans) c.args.s = ap Some (sym c.in_ok-start.ensures) ∙ c.in_ok-at.ensures in
    let told : (b : Bool) → c.if-start-k.then_some ≡ b → c.then_some.result ≡ then_some b end = λ b e. c.then_some.ensures ∙ ap (λ (v : Bool). then_some v end) e in
    elim c.if-start-k.branch as (λ _. ReadFrom c.args.x c.args.s c.args.k y c.then_some.result) [
      | then-start-k w ↦
          read_decided c.args.x y c.read_as-whole.result c.args.s c.args.k end w.eq.result c.then_some.result c.requires (ap (λ (i : ℕ). Some (Read i end)) (sym w.if-start-k.true) ∙ at) c.read_as-whole.ensures (phrase_told y c.read_as-whole.result w.eq.result w.eq.ensures) (told _ w.then_some-is)
      | else-start-k w ↦
          subst (ReadFrom c.args.x c.args.s c.args.k y) (sym (told false (w.then_some-is ∙ ne_eqb start c.args.k w.if-start-k.false))) (not_read c.args.x y c.args.s c.args.k (Some (Read start end)) c.requires at (λ m e. let same : start ≡ c.args.k = cc in w.if-start-k.false same))
    ]

use Rattle.std.proofs.Common.{◌≡◌, ℕ, ◌+◌, List, set, refl, sym, ap, ◌∙◌, arith}
use Rattle.cells.specs.declared.Cell.{Cell}
use Rattle.cells.specs.declared.Link.{Link}
use Rattle.fact_log.specs.Links.{with_link}
use Rattle.fact_log.specs.Index.{cell_of, links}
use Rattle.fact_log.proofs.Entering.{entered, entered_nothing, headed}
use Rattle.fact_log.proofs.index.enter.Goals as goal

pub returns-in_default : goal.returns-in_default
returns-in_default c =
    let r = c.requires.range in
    λ top nt fits x. entered_nothing c.args.cells.now c.args.slot c.args.base c.args.order top c.args.n c.requires.numbers.0 r.1 nt (sym c.in_default.ensures) x

pub returns : goal.returns
returns c =
    let cs : List Cell = c.args.cells.now in
    let s : ℕ = c.args.slot in
    let n : ℕ = c.args.n in
    let first : ℕ = c.args.base + c.bucket.result in
    let mid : List Cell = set cs first c.set_link.new.cell in
    let r = c.requires.range in
    let one : c.set_link.new.cell ≡ with_link (cell_of cs first) s (record { head = n; next = (links cs s first).next }) =
    c.set_link.ensures ∙ ap (λ (y : Link). with_link (cell_of cs first) s (record { head = n; next = y.next })) c.link-old.ensures in
    let two : c.set_link-2.new.cell ≡ with_link (cell_of mid n) s (record { head = (links mid s n).head; next = (links cs s first).head }) =
    c.set_link-2.ensures ∙ (ap (λ (y : Link). with_link (cell_of mid n) s (record { head = y.head; next = c.link-old.result.head })) c.link-own.ensures
    ∙ ap (λ (y : Link). with_link (cell_of mid n) s (record { head = (links mid s n).head; next = y.head })) c.link-old.ensures) in
    λ top nt fits x.
    entered cs _ s c.args.base c.args.order top n c.bucket.result c.in-Some.thing c.requires.numbers.0 r.1 nt fits c.bucket.ensures.bound c.bucket.ensures.value (sym c.in-Some.ensures)
    (headed cs mid _ s first n c.set_link.new.cell c.set_link-2.new.cell c.requires.numbers.0 (omega (arith, c.bucket.ensures.bound, r.3)) r.2 one refl two refl) x

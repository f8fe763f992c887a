use Rattle.std.proofs.Common.{ℕ, take, sym, ap, ◌∙◌, subst}
use Rattle.rows.specs.declared.counts.Counts.{Counts}
use Rattle.rows.specs.Counted.{CountsOf}
use Rattle.rows.specs.Links.{Linked}
use Rattle.closing.specs.Ready.{grammar_in}
use Rattle.area.proofs.numbers.Numbers.source.Goals as goal

pub returns : goal.returns
returns c =
    λ g w h.
    let cs = c.args.cells.now in
    let n = c.args.self.counts in
    let is = c.grammar_cells.ensures.cells g h.counted in
    let o = c.rows_in.ensures in (
      o.meant ∙ (ap (λ (b : ℕ). grammar_in cs b n) is ∙ h.meant),
      o.links (subst (λ (b : ℕ). Linked (take b cs) n) (sym is) h.linked),
      o.lent ∙ ap (λ (b : ℕ). take b cs) is,
      subst (λ (m : Counts). CountsOf g m) (sym o.counts) h.counted,
    )

-- What the first cells of a list mean.
use Rattle.std.proofs.Common.{◌≡◌, ℕ, List, take, sym, ap, ◌∙◌, subst}
use Rattle.cells.specs.declared.Cell.{Cell}
use Rattle.rows.specs.declared.counts.Counts.{Counts}
use Rattle.rows.specs.Meaning.{rows_meaning}
use Rattle.rows.specs.Links.{Linked}
use Rattle.closing.specs.Ready.{grammar_in}

pub meant_in : (cs xs : List Cell) (base : ℕ) (n counts : Counts) → xs ≡ take base cs → n ≡ counts → rows_meaning xs n ≡ grammar_in cs base counts
unfolding grammar_in
meant_in cs xs base n counts e f = ap (λ v. rows_meaning v n) e ∙ ap (rows_meaning (take base cs)) f

pub linked_in : (cs xs : List Cell) (base : ℕ) (n counts : Counts) → xs ≡ take base cs → n ≡ counts → Linked (take base cs) counts → Linked xs n
linked_in cs xs base n counts e f l = subst (λ (v : List Cell). Linked v n) (sym e) (subst (λ (m : Counts). Linked (take base cs) m) (sym f) l)

-- One token goes on where tokens repeat (`runs_one`), and an item before a read part offers that one (`offers_read`).
use Rattle.std.proofs.Common.{◌≡◌, ℕ, ◌+◌, ◌<◌, ◌≤◌, List, length, get_or, Some, None, Option, sym, ap, ◌∙◌, subst, arith}
use Rattle.std.specs.List.{slice_get}
use Rattle.std.proofs.lemmas.Option.{slice_get-get_or}
use Rattle.grammar.specs.Grammar.{Grammar, from_one}
use Rattle.chart.specs.Chart.{Reads}
use Rattle.chart.proofs.Spans.{nth_inside}
use Rattle.cells.specs.declared.Span.TheVariants.{Read}
use Rattle.cells.specs.declared.Phrase.{Phrase}
use Rattle.cells.specs.declared.Item.{Item}
use Rattle.cells.specs.Facts.{list_of}
use Rattle.steps.specs.Nexts.{BeforeArgument}
use Rattle.steps.specs.Steps.{Copied}
use Rattle.frontier.specs.Offers.{Only, Runs, Offers, before, within, Offered}

-- where they go on
runs_at : (w : List ℕ) (a b k t : ℕ) (h : Runs w a b k t) → (k ≤ length w) × (h.upto + k ≡ a + length w)
runs_at w a b k t h = (omega (arith, h.again.ends), omega (arith, h.once.ends, h.again.ends))

runs_token : (w : List ℕ) (a b k t : ℕ) (h : Runs w a b k t) (at : ℕ) → at + k ≡ a + length w → slice_get w at ≡ Some t
runs_token w a b k t h at e = let i : at ≡ h.upto = omega (arith, (runs_at w a b k t h).1) in ap (slice_get w) i ∙ h.next

-- past the end nothing goes on
pub runs_outside : (w : List ℕ) (a b k at : ℕ) → at + k ≡ a + length w → length w ≤ at → Only (Runs w a b k) None
runs_outside w a b k at e l t h = let i = nth_inside w at t (runs_token w a b k t h at e) in omega (arith, i)

pub runs_one : (w : List ℕ) (a b k at m : ℕ) → k ≤ length w → at + k ≡ a + length w → at < length w → at < b → Copied w a at k (Some m) → Only (Runs w a b k) (Some (get_or w at 0))
runs_one w a b k at m kn e l lb c =
    let u = c.0 in
    let end : m ≡ length w = omega (arith, c.1.ends, c.2.ends) in (
      record { upto = at; string = u; once = c.1; again = subst (λ (v : ℕ). Reads w k v u) end c.2; inside = lb; next = slice_get-get_or w at 0 l },
      λ v h. let one = runs_token w a b k v h at e in let two = slice_get-get_or w at 0 l in cc,
    )

-- before ⟨d;s⟩ that is read from a to b
runs_only : (g : Grammar) (w : List ℕ) (x : Item) (d s a b : ℕ) (X : Phrase) → BeforeArgument g x d s → from_one (list_of x.rule.arguments) d ≡ Some X → from_one (list_of X.spans) s ≡ Some (Read a b)
    → (v : ℕ) → Offers g w x v → Runs w a b x.end v
runs_only g w x d s a b X e there is v (before m f) = absurd (let z : ◌≡◌ {A = ℕ} 0 1 = cc in omega arith)
runs_only g w x d s a b X e there is v (within f c a' b' Y i p q h) =
    let fd : f ≡ d = cc in
    let cs : c ≡ s = cc in
    let here : from_one (list_of x.rule.arguments) d ≡ Some Y = ap (from_one (list_of x.rule.arguments)) (sym fd) ∙ p in
    let same : Y ≡ X = cc in
    let span : from_one (list_of X.spans) s ≡ Some (Read a' b') = subst (λ (Z : Phrase). from_one (list_of Z.spans) s ≡ Some (Read a' b')) same (ap (from_one (list_of Y.spans)) (sym cs) ∙ q) in
    let ea : a' ≡ a = cc in
    let eb : b' ≡ b = cc in
    subst (λ (z : ℕ). Runs w z b x.end v) ea (subst (λ (z : ℕ). Runs w a' z x.end v) eb h)

pub offers_read : (g : Grammar) (w : List ℕ) (x : Item) (d s a b : ℕ) (X : Phrase) → BeforeArgument g x d s → from_one (list_of x.rule.arguments) d ≡ Some X → from_one (list_of X.spans) s ≡ Some (Read a b)
    → (r : Option ℕ) → Only (Runs w a b x.end) r → Offered g w x r
offers_read g w x d s a b X e there is None o = λ v k. o v (runs_only g w x d s a b X e there is v k)
offers_read g w x d s a b X e there is (Some t) o = (within d s a b X e there is o.0, λ v k. o.1 v (runs_only g w x d s a b X e there is v k))

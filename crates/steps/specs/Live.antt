-- The live places of a category, in ascending order. Assumes nothing.
use Rattle.std.specs.Prelude.{◌≡◌, ℕ, suc, ◌<◌, ◌≤◌, Some, None, Option, MatchOption}
use Rattle.grammar.specs.Grammar.{Grammar, Production, production_at}
use Rattle.chart.specs.Chart.{Live}

-- Place p is live and makes the category c.
abbrev pub LiveOf : Grammar → ℕ → ℕ → Type 0
LiveOf g c p = (q : Production) × Live g p q × (q.result ≡ c)

-- The first of these from place m on: absent just where there is none.
abbrev pub FirstLive : Grammar → ℕ → ℕ → Option ℕ → Type 0
FirstLive g c m r = MatchOption r ((p : ℕ) → m ≤ p → LiveOf g c p → ⊥) (λ p. (m ≤ p) × LiveOf g c p × ((x : ℕ) → m ≤ x → x < p → LiveOf g c x → ⊥))

-- The first live place after place p that makes what p makes, be p live or not: none where p is empty.
pub record NextLive (g : Grammar) (p : ℕ) (r : Option ℕ) : Type 0 where
  pub filled : (q : Production) → production_at g p ≡ Some q → FirstLive g q.result (suc p) r
  pub empty : production_at g p ≡ None → r ≡ None

-- A weighted sum as a loop over the pairs of two lists comes to it. Assumes nothing but the laws.
use Rattle.std.proofs.Common.{◌≡◌, ℕ, ◌⊎◌, List, [], ◌∷◌, sym, ap, ◌∙◌, inl, inr}
use Rattle.algebra.specs.Laws.{Laws}
use Rattle.algebra.specs.Sums.{sum_of, weighted}

module _ {A : Type 0} {nought unit : A} {plus times : A → A → A} {reads : ℕ → A} {writes : A → ℕ} (laws : Laws nought unit plus times reads writes) where
  -- one pair more
  pub weighted_more : (total : A) (ws vs ws' vs' : List ℕ) (w v : ℕ) → ws ≡ w ∷ ws' → vs ≡ v ∷ vs'
      → plus (plus total (times (reads w) (reads v))) (sum_of nought plus (weighted times reads ws' vs')) ≡ plus total (sum_of nought plus (weighted times reads ws vs))
  weighted_more total ws vs ws' vs' w v e f =
      laws.sum_assoc total (times (reads w) (reads v)) (sum_of nought plus (weighted times reads ws' vs'))
      ∙ sym (ap (λ l. plus total (sum_of nought plus (weighted times reads l vs))) e ∙ ap (λ l. plus total (sum_of nought plus (weighted times reads (w ∷ ws') l))) f)

  -- no pair is left
  pub weighted_all : (total : A) (ws vs : List ℕ) → (ws ≡ []) ⊎ (vs ≡ []) → plus total (sum_of nought plus (weighted times reads ws vs)) ≡ total
  weighted_all total [] vs none = laws.sum_zero total
  weighted_all total (w ∷ ws) [] none = laws.sum_zero total
  weighted_all total (w ∷ ws) (v ∷ vs) (inl e) = ap (λ l. plus total (sum_of nought plus (weighted times reads l (v ∷ vs)))) e ∙ laws.sum_zero total
  weighted_all total (w ∷ ws) (v ∷ vs) (inr e) = ap (λ l. plus total (sum_of nought plus (weighted times reads (w ∷ ws) l))) e ∙ laws.sum_zero total

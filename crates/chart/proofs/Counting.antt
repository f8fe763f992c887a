-- Two lists without repetition that hold the same members have one length, `same_length`, and one sum, `one_sum`. So cells
-- in use and the bound on heights are each one number.
use Rattle.std.proofs.Common.{◌≡◌, ℕ, suc, ◌+◌, ◌≤◌, List, [], ◌∷◌, map, length, sym, refl, ap, ◌∙◌, subst, inl, inr, arith}
use Rattle.algebra.specs.Laws.{Laws}
use Rattle.algebra.specs.Sums.{sum_of}
use Rattle.algebra.proofs.Sums.{sum_exchange}
use Rattle.grammar.specs.Grammar.{Grammar}
use Rattle.chart.specs.Chart.{Member, Apart, Enumerates, CellsInUse, Bound}

-- xs without the member at a place.
without : {X : Type 0} (x : X) (xs : List X) → Member x xs → List X
without x [] h = absurd h
without x (y ∷ ys) (inl e) = ys
without x (y ∷ ys) (inr h) = y ∷ without x ys h

without_length : {X : Type 0} (x : X) (xs : List X) (h : Member x xs) → length xs ≡ suc (length (without x xs h))
unfolding without
without_length x [] h = absurd h
without_length x (y ∷ ys) (inl e) = refl
without_length x (y ∷ ys) (inr h) = ap suc (without_length x ys h)

-- Another member is still there.
without_member : {X : Type 0} (x z : X) (xs : List X) (h : Member x xs) → ¬ (z ≡ x) → Member z xs → Member z (without x xs h)
unfolding without
without_member x z [] h n m = absurd h
without_member x z (y ∷ ys) (inl e) n (inl q) = absurd (n (q ∙ sym e))
without_member x z (y ∷ ys) (inl e) n (inr m) = m
without_member x z (y ∷ ys) (inr h) n (inl q) = inl q
without_member x z (y ∷ ys) (inr h) n (inr m) = inr (without_member x z ys h n m)

-- A list without repetition is no longer than one that has its members.
pub no_longer : {X : Type 0} (xs ys : List X) → Apart xs → ((x : X) → Member x xs → Member x ys) → length xs ≤ length ys
no_longer [] ys a f = omega arith
no_longer {X} (x ∷ xs) ys a f =
    let h : Member x ys = f x (inl refl) in
    let rest : length xs ≤ length (without x ys h) = no_longer xs (without x ys h) a.1 (λ z m. without_member x z ys h (λ e. a.0 (subst (λ v. Member v xs) e m)) (f z (inr m))) in
    omega (arith, without_length x ys h)

pub same_length : {X : Type 0} (P : X → Type 0) (xs ys : List X) → Enumerates P xs → Enumerates P ys → length xs ≡ length ys
same_length P xs ys a b =
    let to = no_longer xs ys a.apart (λ x m. (b.exactly x).1 ((a.exactly x).0 m)) in
    let from = no_longer ys xs b.apart (λ x m. (a.exactly x).1 ((b.exactly x).0 m)) in
    omega arith

without_less : {X : Type 0} (x z : X) (xs : List X) (h : Member x xs) → Member z (without x xs h) → Member z xs
unfolding without
without_less x z [] h m = absurd h
without_less x z (y ∷ ys) (inl e) m = inr m
without_less x z (y ∷ ys) (inr h) (inl q) = inl q
without_less x z (y ∷ ys) (inr h) (inr m) = inr (without_less x z ys h m)

without_apart : {X : Type 0} (x : X) (xs : List X) (h : Member x xs) → Apart xs → Apart (without x xs h)
unfolding without
without_apart x [] h a = absurd h
without_apart x (y ∷ ys) (inl e) a = a.1
without_apart x (y ∷ ys) (inr h) a = ((λ m. a.0 (without_less x y ys h m)), without_apart x ys h a.1)

-- What was taken out is not there.
without_gone : {X : Type 0} (x : X) (xs : List X) (h : Member x xs) → Apart xs → Member x (without x xs h) → ⊥
unfolding without
without_gone x [] h a m = absurd h
without_gone x (y ∷ ys) (inl e) a m = a.0 (subst (λ v. Member v ys) e m)
without_gone x (y ∷ ys) (inr h) a (inl q) = a.0 (subst (λ v. Member v ys) q h)
without_gone x (y ∷ ys) (inr h) a (inr m) = without_gone x ys h a.1 m

-- Sums over two lists without repetition that hold the same members are equal.
module _ {A : Type 0} {nought unit : A} {plus times : A → A → A} {reads : ℕ → A} {writes : A → ℕ} (laws : Laws nought unit plus times reads writes) where
  sum_without : {X : Type 0} (f : X → A) (x : X) (xs : List X) (h : Member x xs) → sum_of nought plus (map f xs) ≡ plus (f x) (sum_of nought plus (map f (without x xs h)))
  unfolding without
  sum_without f x [] h = absurd h
  sum_without f x (y ∷ ys) (inl e) = ap (λ z. plus (f z) (sum_of nought plus (map f ys))) (sym e)
  sum_without f x (y ∷ ys) (inr h) = ap (plus (f y)) (sum_without f x ys h) ∙ sum_exchange laws (f y) (f x) (sum_of nought plus (map f (without x ys h)))

  pub same_sum : {X : Type 0} (f : X → A) (xs ys : List X) → Apart xs → Apart ys → ((x : X) → Member x xs → Member x ys) → ((x : X) → Member x ys → Member x xs)
      → sum_of nought plus (map f xs) ≡ sum_of nought plus (map f ys)
  same_sum f [] [] a b to from = refl
  same_sum f [] (y ∷ ys) a b to from = absurd (from y (inl refl))
  same_sum {X} f (x ∷ xs) ys a b to from =
      let h : Member x ys = to x (inl refl) in
      let rest = same_sum f xs (without x ys h) a.1 (without_apart x ys h b)
      (λ z m. without_member x z ys h (λ e. a.0 (subst (λ v. Member v xs) e m)) (to z (inr m)))
      (λ z m. elim (from z (without_less x z ys h m)) [ inl e ↦ absurd (without_gone x ys h b (subst (λ v. Member v (without x ys h)) e m)) | inr n ↦ n ]) in
      ap (plus (f x)) rest ∙ sym (sum_without f x ys h)

  pub one_sum : {X : Type 0} (P : X → Type 0) (f : X → A) (xs ys : List X) → Enumerates P xs → Enumerates P ys → sum_of nought plus (map f xs) ≡ sum_of nought plus (map f ys)
  one_sum P f xs ys a b = same_sum f xs ys a.apart b.apart (λ x m. (b.exactly x).1 ((a.exactly x).0 m)) (λ x m. (a.exactly x).1 ((b.exactly x).0 m))

pub cells_one : (g : Grammar) (w : List ℕ) (m n : ℕ) → CellsInUse g w m → CellsInUse g w n → m ≡ n
cells_one g w m n a b = a.total ∙ ap (λ x. Rattle.chart.specs.Chart.grammar_cells g + length w + x) (same_length (Rattle.chart.specs.Chart.Chart g w) a.facts b.facts a.listed b.listed) ∙ sym b.total

pub bound_one : (g : Grammar) (w : List ℕ) (m n : ℕ) → Bound g w m → Bound g w n → m ≡ n
bound_one g w m n a b = omega (arith, a.total, b.total, same_length (Rattle.chart.specs.Chart.Made g w) a.phrases b.phrases a.listed b.listed)

-- `steps`, `joins` and `begins` list exactly what the steps of the chart lead to, where `bares` lists the bare rules.
use Rattle.std.proofs.Common.{◌≡◌, ℕ, suc, ◌+◌, ◌-◌, true, cond, ◌&&◌, eqb, ◌↔◌, List, [], ◌∷◌, Some, None, Option, sym, refl, ap, ◌∙◌, subst, inl, inr, arith}
use Rattle.std.specs.List.{slice_get}
use Rattle.std.proofs.lemmas.Bool.Decides.{Decides-eqb, Decides-and}
use Rattle.grammar.specs.declared.Symbol.{Symbol}
use Rattle.grammar.specs.declared.Symbol.TheVariants.{Token, Argument}
use Rattle.grammar.specs.Grammar.{Grammar, from_one}
use Rattle.chart.specs.Chart.{Reading, unread, read, Phrase, Rule, Fact, made, item, Reads, reading_at, read_as, left_read, with_argument, BareRule, after_dot, Begin, begin, Step, scan, predict_bare, finish, copy, Join, predict, combine, Member}
use Rattle.chart.specs.Sums.{same_phrase, rules_for}
use Rattle.chart.proofs.Phrases.{phrase_test}
use Rattle.chart.proofs.Matching.{put_here}
use Rattle.chart.proofs.Listing.{in_left, in_right, of_append, in_map, of_map, in_kept, of_kept}
use Rattle.samples.proofs.Saturation.{Before, ended, token, unread_in, read_in, nothing, before_reading, before_argument, before_symbol, stands_before, is_token, reads, between, steps_before, steps, combined, joins_before, joins, begins}
use Rattle.samples.proofs.Tests.{reads_test, read_between, in_if, of_if, one_of}

-- What an item stands before, in the words of the chart.
abbrev pub Stands : Grammar → Rule → ℕ → ℕ → Before → Type 0
Stands g r l i ended = after_dot g r l i ≡ None
Stands g r l i (token t) = after_dot g r l i ≡ Some (Token t)
Stands g r l i (unread_in d s X) = (after_dot g r l i ≡ Some (Argument d s)) × (from_one r.arguments d ≡ Some X) × (reading_at X s ≡ Some unread)
Stands g r l i (read_in d s a b) = (X : Phrase) × (after_dot g r l i ≡ Some (Argument d s)) × (from_one r.arguments d ≡ Some X) × (reading_at X s ≡ Some (read a b))
Stands g r l i nothing = Unit {0}

stands_reading : (g : Grammar) (r : Rule) (l i d s : ℕ) (X : Phrase) → after_dot g r l i ≡ Some (Argument d s) → from_one r.arguments d ≡ Some X
    → (o : Option Reading) → reading_at X s ≡ o → Stands g r l i (before_reading d s X o)
stands_reading g r l i d s X e a None u = tt
stands_reading g r l i d s X e a (Some unread) u = (e, a, u)
stands_reading g r l i d s X e a (Some (read x y)) u = (X, e, a, u)

stands_argument : (g : Grammar) (r : Rule) (l i d s : ℕ) → after_dot g r l i ≡ Some (Argument d s)
    → (o : Option Phrase) → from_one r.arguments d ≡ o → Stands g r l i (before_argument d s o)
stands_argument g r l i d s e None a = tt
stands_argument g r l i d s e (Some X) a = stands_reading g r l i d s X e a (reading_at X s) refl

stands_symbol : (g : Grammar) (r : Rule) (l i : ℕ) (o : Option Symbol) → after_dot g r l i ≡ o → Stands g r l i (before_symbol r o)
stands_symbol g r l i None e = e
stands_symbol g r l i (Some (Token t)) e = e
stands_symbol g r l i (Some (Argument d s)) e = stands_argument g r l i d s e (from_one r.arguments d) refl

pub stands : (g : Grammar) (r : Rule) (l i : ℕ) → Stands g r l i (stands_before g r l i)
stands g r l i = stands_symbol g r l i (after_dot g r l i) refl

pub before_argument_lem : (g : Grammar) (r : Rule) (l i d s : ℕ) (X : Phrase) (m : Reading) → after_dot g r l i ≡ Some (Argument d s) → from_one r.arguments d ≡ Some X
    → reading_at X s ≡ Some m → stands_before g r l i ≡ before_reading d s X (Some m)
before_argument_lem g r l i d s X m e a u = ap (before_symbol r) e ∙ ap (before_argument d s) a ∙ ap (before_reading d s X) u

is_token_lem : (o : Option ℕ) (t : ℕ) → is_token t o ≡ true → o ≡ Some t
is_token_lem None t e = absurd (let z : ◌≡◌ {A = ℕ} 0 1 = cc in omega arith)
is_token_lem (Some x) t e = ap Some ((Decides-eqb x t).0 e)

module _ (g : Grammar) (w : List ℕ) (bares : List Rule) (all : (r : Rule) → Member r bares ↔ BareRule g r) where
  own_in : (q : Rule) (X : Phrase) → q.left ≡ X → BareRule g q → Member q (rules_for X bares)
  own_in q X e b = in_kept (λ r. same_phrase r.left X) q bares ((all q).1 b) ((phrase_test q.left X).1 e)

  pub step_listed : {x z : Fact} → Step g w x z → Member z (steps g w bares x)
  step_listed (scan {r = r} {l = l} {j = j} {i = i} {k = k} {t = t} e n) =
      subst (λ b. Member (item r l j (suc i) (suc k)) (steps_before w bares r l j i k b)) (sym (ap (before_symbol r) e))
      (in_if (is_token t (slice_get w k)) (item r l j (suc i) (suc k)) (item r l j (suc i) (suc k) ∷ []) (ap (is_token t) n ∙ (Decides-eqb t t).1 refl) (inl refl))
  step_listed (predict_bare {r = r} {q = q} {l = l} {j = j} {i = i} {k = k} {d = d} {s = s} e a u b) =
      subst (λ v. Member (item q s k 0 k) (steps_before w bares r l j i k v)) (sym (before_argument_lem g r l i d s q.left unread e a u))
      (in_map (λ p. item p s k 0 k) q (rules_for q.left bares) (own_in q q.left refl b))
  step_listed (finish {r = r} {l = l} {j = j} {i = i} {k = k} e) =
      subst (λ b. Member (made (left_read r l j k)) (steps_before w bares r l j i k b)) (sym (ap (before_symbol r) e)) (inl refl)
  step_listed (copy {r = r} {l = l} {j = j} {i = i} {k = k} {d = d} {s = s} {a = a} {b = b} {m = m} {X = X} {u = u} e x y ab kn) =
      let is : u ≡ between w a b = read_between w a b u ab in
      let end : m ≡ k + (b - a) = omega (arith, ab.ends, kn.ends) in
      let first = (reads_test w a b (between w a b)).1 (subst (Reads w a b) is ab) in
      let again = (reads_test w k (k + (b - a)) (between w a b)).1 (subst (Reads w k (k + (b - a))) is (subst (λ n. Reads w k n u) end kn)) in
      let both = reads w a b (between w a b) && reads w k (k + (b - a)) (between w a b) in
      let passes : both ≡ true = ap (λ v. v && reads w k (k + (b - a)) (between w a b)) first ∙ again in
      subst (λ v. Member (item r l j (suc i) m) (steps_before w bares r l j i k v)) (sym (before_argument_lem g r l i d s X (read a b) e x y))
      (in_if both (item r l j (suc i) m) (item r l j (suc i) (k + (b - a)) ∷ []) passes (inl (ap (item r l j (suc i)) end)))

  pub listed_step : (x z : Fact) → Member z (steps g w bares x) → Step g w x z
  listed_step (made r) z m = absurd m
  listed_step (item r l j i k) z m = go (stands_before g r l i) (stands g r l i) m
    where
      go : (b : Before) → Stands g r l i b → Member z (steps_before w bares r l j i k b) → Step g w (item r l j i k) z
      go ended e m = subst (Step g w (item r l j i k)) (sym (one_of z (made (left_read r l j k)) m)) (finish e)
      go (token t) e m =
          let h = of_if (is_token t (slice_get w k)) z (item r l j (suc i) (suc k) ∷ []) m in
          subst (Step g w (item r l j i k)) (sym (one_of z (item r l j (suc i) (suc k)) h.1)) (scan e (is_token_lem (slice_get w k) t h.0))
      go (unread_in d s X) e m =
          let h = of_map (λ q. item q s k 0 k) z (rules_for X bares) m in
          let own = of_kept (λ q. same_phrase q.left X) h.0 bares h.1 in
          let same : h.0.left ≡ X = (phrase_test h.0.left X).0 own.1 in
          subst (Step g w (item r l j i k)) (sym h.2) (predict_bare {q = h.0} e.0 (e.1 ∙ ap Some (sym same)) (ap (λ Y. reading_at Y s) same ∙ e.2) ((all h.0).0 own.0))
      go (read_in d s a b) e m =
          let first = reads w a b (between w a b) in
          let again = reads w k (k + (b - a)) (between w a b) in
          let h = of_if (first && again) z (item r l j (suc i) (k + (b - a)) ∷ []) m in
          let both = (Decides-and first again (reads_test w a b (between w a b)) (reads_test w k (k + (b - a)) (between w a b))).0 h.0 in
          subst (Step g w (item r l j i k)) (sym (one_of z (item r l j (suc i) (k + (b - a))) h.1)) (copy e.1 e.2 e.3 both.0 both.1)
      go nothing e m = absurd m

  pub begin_listed : {z : Fact} → Begin g z → Member z (begins g bares)
  begin_listed (begin {r = r} b c) = in_map (λ q. item q 1 0 0 0) r _ (in_kept (λ q. eqb q.left.category g.start) r bares ((all r).1 b) ((Decides-eqb r.left.category g.start).1 c))

  pub listed_begin : (z : Fact) → Member z (begins g bares) → Begin g z
  listed_begin z m =
      let h = of_map (λ q. item q 1 0 0 0) z _ m in
      let own = of_kept (λ q. eqb q.left.category g.start) h.0 bares h.1 in
      subst (Begin g) (sym h.2) (begin ((all h.0).0 own.0) ((Decides-eqb h.0.left.category g.start).0 own.1))

module _ (g : Grammar) where
  pub join_listed : {x y z : Fact} → Join g x y z → Member z (joins g x y)
  join_listed (predict {r = r} {q = q} {l = l} {j = j} {i = i} {k = k} {d = d} {s = s} e a u) =
      subst (λ b. Member (item q s k 0 k) (joins_before r l j i k q b)) (sym (before_argument_lem g r l i d s q.left unread e a u))
      (in_left (item q s k 0 k) (cond (same_phrase q.left q.left) (item q s k 0 k ∷ []) []) (combined r l j i k q d s q.left (reading_at q.left s))
      (in_if (same_phrase q.left q.left) (item q s k 0 k) (item q s k 0 k ∷ []) ((phrase_test q.left q.left).1 refl) (inl refl)))
  join_listed (combine {r = r} {q = q} {l = l} {j = j} {i = i} {k = k} {d = d} {s = s} {m = m} {X = X} e x u is) =
      let z = item (with_argument r d q.left) l j (suc i) m in
      let there : reading_at q.left s ≡ Some (read k m) = ap (λ Y. reading_at Y s) is ∙ put_here X.readings s unread (read k m) u in
      subst (λ b. Member z (joins_before r l j i k q b)) (sym (before_argument_lem g r l i d s X unread e x u))
      (in_right z (cond (same_phrase q.left X) (item q s k 0 k ∷ []) []) (combined r l j i k q d s X (reading_at q.left s))
      (subst (λ o. Member z (combined r l j i k q d s X o)) (sym there)
      (in_if (same_phrase q.left (read_as X s k m)) z (z ∷ []) ((phrase_test q.left (read_as X s k m)).1 is) (inl refl))))

  pub listed_join : (x y z : Fact) → Member z (joins g x y) → Join g x y z
  listed_join (made r) y z m = absurd m
  listed_join (item r l j i k) (item q n a b c) z m = absurd m
  listed_join (item r l j i k) (made q) z m = go (stands_before g r l i) (stands g r l i) m
    where
      passes : (d s : ℕ) (X : Phrase) → Stands g r l i (unread_in d s X) → (o : Option Reading) → Member z (combined r l j i k q d s X o) → Join g (item r l j i k) (made q) z
      passes d s X e None m = absurd m
      passes d s X e (Some unread) m = absurd m
      passes d s X e (Some (read a n)) m =
          let h = of_if (same_phrase q.left (read_as X s k n)) z (item (with_argument r d q.left) l j (suc i) n ∷ []) m in
          subst (Join g (item r l j i k) (made q)) (sym (one_of z _ h.1)) (combine e.0 e.1 e.2 ((phrase_test q.left (read_as X s k n)).0 h.0))

      go : (b : Before) → Stands g r l i b → Member z (joins_before r l j i k q b) → Join g (item r l j i k) (made q) z
      go ended e m = absurd m
      go (token t) e m = absurd m
      go (unread_in d s X) e m = elim (of_append z (cond (same_phrase q.left X) (item q s k 0 k ∷ []) []) (combined r l j i k q d s X (reading_at q.left s)) m) [
        | inl n ↦
            let h = of_if (same_phrase q.left X) z (item q s k 0 k ∷ []) n in
            let same : q.left ≡ X = (phrase_test q.left X).0 h.0 in
            subst (Join g (item r l j i k) (made q)) (sym (one_of z (item q s k 0 k) h.1)) (predict e.0 (e.1 ∙ ap Some (sym same)) (ap (λ Y. reading_at Y s) same ∙ e.2))
        | inr n ↦ passes d s X e (reading_at q.left s) n
      ]
      go (read_in d s a b) e m = absurd m
      go nothing e m = absurd m

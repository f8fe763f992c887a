-- `frontier` lists the tokens of the frontier, where `facts_of` lists the chart.
use Rattle.std.proofs.Common.{◌≡◌, ℕ, ◌+◌, ◌<◌, true, ◌&&◌, eqb, ltb, ◌↔◌, List, [], ◌∷◌, ◌++◌, length, drop, Some, None, Option, sym, refl, ap, ◌∙◌, subst, inl, arith}
use Rattle.std.specs.List.{slice_get}
use Rattle.std.proofs.lemmas.List.{append-nil, drop_all}
use Rattle.std.proofs.lemmas.Bool.Decides.{Decides-eqb, Decides-and, Decides-ltb}
use Rattle.grammar.specs.declared.Symbol.TheVariants.{Token}
use Rattle.grammar.specs.Grammar.{Grammar}
use Rattle.chart.specs.Chart.{read, Rule, Fact, made, item, Reads, Chart, Frontier, before, within, Member, Enumerates}
use Rattle.chart.proofs.Listing.{in_joined, of_joined}
use Rattle.samples.proofs.Saturation.{Before, ended, token, unread_in, read_in, nothing, before_symbol, stands_before, reads, facts_of, listed, next_before, next, frontier}
use Rattle.samples.proofs.Tests.{reads_test, in_if, of_if, one_of}
use Rattle.samples.proofs.Stepping.{Stands, stands, before_argument_lem}

-- What is read up to the end of w.
read_rest : (w : List ℕ) (k : ℕ) (u : List ℕ) → Reads w k (length w) u → u ≡ drop k w
read_rest w k u h = sym (h.tokens ∙ ap (λ x. u ++ x) (drop_all (length w) w (omega arith)) ∙ append-nil u)

of_listed : (o : Option ℕ) (t : ℕ) → Member t (listed o) → o ≡ Some t
of_listed None t m = absurd m
of_listed (Some x) t m = ap Some (sym (one_of t x m))

module _ (g : Grammar) (w : List ℕ) (chart : Enumerates (Chart g w) (facts_of g w)) where
  frontier_listed : (t : ℕ) → Frontier g w t → Member t (frontier g w)
  frontier_listed t (before {r = r} {l = l} {j = j} {i = i} c e) =
      in_joined (next g w) (item r l j i (length w)) t (facts_of g w) ((chart.exactly (item r l j i (length w))).1 c)
      (subst (λ b. Member t (next_before w (length w) b)) (sym (ap (before_symbol r) e))
      (in_if (eqb (length w) (length w)) t (t ∷ []) ((Decides-eqb (length w) (length w)).1 refl) (inl refl)))
  frontier_listed t (within {r = r} {l = l} {j = j} {i = i} {k = k} {d = d} {s = s} {a = a} {b = b} {c = c} {X = X} {u = u} ch e x y ac kn lt n) =
      let v = drop k w in
      let is : u ≡ v = read_rest w k u kn in
      let end : c ≡ a + length v = sym ac.ends ∙ ap (λ z. a + length z) is in
      let first : reads w a (a + length v) v ≡ true = (reads_test w a (a + length v) v).1 (subst (Reads w a (a + length v)) is (subst (λ m. Reads w a m u) end ac)) in
      let again : reads w k (length w) v ≡ true = (reads_test w k (length w) v).1 (subst (Reads w k (length w)) is kn) in
      let inside : ltb (a + length v) b ≡ true = (Decides-ltb (a + length v) b).1 (subst (λ m. m < b) end lt) in
      let test = (Decides-and (reads w a (a + length v) v) (reads w k (length w) v && ltb (a + length v) b) ((λ p. p), (λ p. p))
      (Decides-and (reads w k (length w) v) (ltb (a + length v) b) ((λ p. p), (λ p. p)) ((λ p. p), (λ p. p)))).1 (first, (again, inside)) in
      let there : slice_get w (a + length v) ≡ Some t = ap (slice_get w) (sym end) ∙ n in
      in_joined (next g w) (item r l j i k) t (facts_of g w) ((chart.exactly (item r l j i k)).1 ch)
      (subst (λ q. Member t (next_before w k q)) (sym (before_argument_lem g r l i d s X (read a b) e x y))
      (in_if (reads w a (a + length v) v && (reads w k (length w) v && ltb (a + length v) b)) t (listed (slice_get w (a + length v))) test
      (subst (λ o. Member t (listed o)) (sym there) (inl refl))))

  listed_frontier : (t : ℕ) → Member t (frontier g w) → Frontier g w t
  listed_frontier t m = let h = of_joined (next g w) t (facts_of g w) m in has_next h.0 ((chart.exactly h.0).0 h.1) h.2
    where
      stands_at : (r : Rule) (l j i k : ℕ) → Chart g w (item r l j i k) → (q : Before) → Stands g r l i q → Member t (next_before w k q) → Frontier g w t
      stands_at r l j i k c ended e m = absurd m
      stands_at r l j i k c (token x) e m =
          let h = of_if (eqb k (length w)) t (x ∷ []) m in
          before (subst (λ n. Chart g w (item r l j i n)) ((Decides-eqb k (length w)).0 h.0) c) (e ∙ ap (λ n. Some (Token n)) (sym (one_of t x h.1)))
      stands_at r l j i k c (unread_in d s X) e m = absurd m
      stands_at r l j i k c (read_in d s a b) e m =
          let v = drop k w in
          let h = of_if (reads w a (a + length v) v && (reads w k (length w) v && ltb (a + length v) b)) t (listed (slice_get w (a + length v))) m in
          let test = (Decides-and (reads w a (a + length v) v) (reads w k (length w) v && ltb (a + length v) b) (reads_test w a (a + length v) v)
          (Decides-and (reads w k (length w) v) (ltb (a + length v) b) (reads_test w k (length w) v) (Decides-ltb (a + length v) b))).0 h.0 in
          within c e.1 e.2 e.3 test.0 test.1.0 test.1.1 (of_listed (slice_get w (a + length v)) t h.1)
      stands_at r l j i k c nothing e m = absurd m

      has_next : (x : Fact) → Chart g w x → Member t (next g w x) → Frontier g w t
      has_next (made r) c m = absurd m
      has_next (item r l j i k) c m = stands_at r l j i k c (stands_before g r l i) (stands g r l i) m

  pub frontier_exactly : (t : ℕ) → Frontier g w t ↔ Member t (frontier g w)
  frontier_exactly t = (frontier_listed t, listed_frontier t)

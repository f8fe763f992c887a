-- What `saturated` lists is the chart, each fact once, where `bares` lists the bare rules.
use Rattle.std.proofs.Common.{◌≡◌, ℕ, zero, suc, Bool, true, false, cond, ◌⊎◌, ◌↔◌, List, [], ◌∷◌, ◌++◌, Some, sym, refl, subst, inl, inr, arith}
use Rattle.std.specs.List.{flat_map}
use Rattle.std.proofs.lemmas.Bool.Decides.{not_from_Decides}
use Rattle.grammar.specs.Grammar.{Grammar}
use Rattle.chart.specs.Chart.{Rule, Fact, BareRule, Begin, Step, Join, Chart, first, one, two, Member, Apart, Enumerates}
use Rattle.chart.proofs.Listing.{in_left, in_right, of_append, in_joined, of_joined}
use Rattle.chart.proofs.Smallest.{least}
use Rattle.samples.proofs.Saturation.{among, steps, joins, paired, leads_to, saturated, begins, chart_within}
use Rattle.samples.proofs.Tests.{among_test}
use Rattle.samples.proofs.Stepping.{step_listed, listed_step, begin_listed, listed_begin, join_listed, listed_join}

abbrev Seen : List Fact → List Fact → Fact → Type 0
Seen done todo z = Member z done ⊎ Member z todo

-- The facts seen so far are in the chart, no fact is done twice, and what begins, or follows from facts that are done, is seen.
record Partial (g : Grammar) (w : List ℕ) (done todo : List Fact) : Type 0 where
  pub apart : Apart done
  pub sound : (z : Fact) → Seen done todo z → Chart g w z
  pub begun : (z : Fact) → Begin g z → Seen done todo z
  pub stepped : (x z : Fact) → Member x done → Step g w x z → Seen done todo z
  pub met : (x y z : Fact) → Member x done → Member y done → Join g x y z → Seen done todo z

-- A fact that is done already.
passed_by : (g : Grammar) (w : List ℕ) (done : List Fact) (x : Fact) (todo : List Fact) → Member x done → Partial g w done (x ∷ todo) → Partial g w done todo
passed_by g w done x todo here p = record {
  apart = p.apart;
  sound = λ z s. elim s [ inl m ↦ p.sound z (inl m) | inr m ↦ p.sound z (inr (inr m)) ];
  begun = λ z b. again z (p.begun z b);
  stepped = λ y z m s. again z (p.stepped y z m s);
  met = λ y v z m n s. again z (p.met y v z m n s);
}
  where
    again : (z : Fact) → Seen done (x ∷ todo) z → Seen done todo z
    again z (inl m) = inl m
    again z (inr (inl e)) = inl (subst (λ v. Member v done) (sym e) here)
    again z (inr (inr m)) = inr m

module _ (g : Grammar) (w : List ℕ) (bares : List Rule) (all : (r : Rule) → Member r bares ↔ BareRule g r) where
  -- A fact that is new.
  taken_in : (done : List Fact) (x : Fact) (todo : List Fact) → ¬ Member x done → Partial g w done (x ∷ todo)
      → Partial g w (x ∷ done) (leads_to g w bares x (x ∷ done) ++ todo)
  taken_in done x todo new p = record {
    apart = (new, p.apart);
    sound = known;
    begun = λ z b. again z (p.begun z b);
    stepped = from_one_lem;
    met = from_two;
  }
    where
      here : Chart g w x
      here = p.sound x (inr (inl refl))

      again : (z : Fact) → Seen done (x ∷ todo) z → Seen (x ∷ done) (leads_to g w bares x (x ∷ done) ++ todo) z
      again z (inl m) = inl (inr m)
      again z (inr (inl e)) = inl (inl e)
      again z (inr (inr m)) = inr (in_right z (leads_to g w bares x (x ∷ done)) todo m)

      done_known : (z : Fact) → Member z (x ∷ done) → Chart g w z
      done_known z (inl e) = subst (Chart g w) (sym e) here
      done_known z (inr m) = p.sound z (inl m)

      lead_known : (z : Fact) → Member z (leads_to g w bares x (x ∷ done)) → Chart g w z
      lead_known z m = elim (of_append z (steps g w bares x) (flat_map (paired g x) (x ∷ done)) m) [
        | inl n ↦ one here (listed_step g w bares all x z n)
        | inr n ↦
            let h = of_joined (paired g x) z (x ∷ done) n in
            let other = done_known h.0 h.1 in
            elim (of_append z (joins g x h.0) (joins g h.0 x) h.2) [
              | inl a ↦ two here other (listed_join g x h.0 z a)
              | inr b ↦ two other here (listed_join g h.0 x z b)
            ]
      ]

      known : (z : Fact) → Seen (x ∷ done) (leads_to g w bares x (x ∷ done) ++ todo) z → Chart g w z
      known z (inl m) = done_known z m
      known z (inr m) = elim (of_append z (leads_to g w bares x (x ∷ done)) todo m) [ inl n ↦ lead_known z n | inr n ↦ p.sound z (inr (inr n)) ]

      led : (z : Fact) → Member z (leads_to g w bares x (x ∷ done)) → Seen (x ∷ done) (leads_to g w bares x (x ∷ done) ++ todo) z
      led z m = inr (in_left z (leads_to g w bares x (x ∷ done)) todo m)

      from_one_lem : (y z : Fact) → Member y (x ∷ done) → Step g w y z → Seen (x ∷ done) (leads_to g w bares x (x ∷ done) ++ todo) z
      from_one_lem y z (inl e) s = led z (in_left z (steps g w bares x) (flat_map (paired g x) (x ∷ done)) (step_listed g w bares all (subst (λ v. Step g w v z) e s)))
      from_one_lem y z (inr m) s = again z (p.stepped y z m s)

      pair_led : (y z : Fact) → Member y (x ∷ done) → Member z (paired g x y) → Seen (x ∷ done) (leads_to g w bares x (x ∷ done) ++ todo) z
      pair_led y z m n = led z (in_right z (steps g w bares x) (flat_map (paired g x) (x ∷ done)) (in_joined (paired g x) y z (x ∷ done) m n))

      from_two : (y v z : Fact) → Member y (x ∷ done) → Member v (x ∷ done) → Join g y v z → Seen (x ∷ done) (leads_to g w bares x (x ∷ done) ++ todo) z
      from_two y v z (inl e) n s = pair_led v z n (in_left z (joins g x v) (joins g v x) (join_listed g (subst (λ a. Join g a v z) e s)))
      from_two y v z (inr m) (inl e) s = pair_led y z (inr m) (in_right z (joins g x y) (joins g y x) (join_listed g (subst (λ a. Join g y a z) e s)))
      from_two y v z (inr m) (inr n) s = again z (p.met y v z m n s)

  -- Nothing is left.
  complete : (done : List Fact) → Partial g w done [] → Enumerates (Chart g w) done
  complete done p = record {
    apart = p.apart;
    exactly = λ z. (
      (λ m. p.sound z (inl m)),
      (λ c. least g w (λ x. Member x done) (record {
        begins = λ x b. seen x (p.begun x b);
        steps = λ x y m s. seen y (p.stepped x y m s);
        joins = λ x y v m n s. seen v (p.met x y v m n s);
      }) c),
    );
  }
    where
      seen : (z : Fact) → Seen done [] z → Member z done
      seen z (inl m) = m
      seen z (inr m) = absurd m

  lists : (n : ℕ) (done todo facts : List Fact) → Partial g w done todo → saturated g w bares n done todo ≡ Some facts → Enumerates (Chart g w) facts
  lists zero done [] facts p e = let is : done ≡ facts = cc in subst (Enumerates (Chart g w)) is (complete done p)
  lists zero done (x ∷ todo) facts p e = absurd (let z : ◌≡◌ {A = ℕ} 0 1 = cc in omega arith)
  lists (suc n) done [] facts p e = let is : done ≡ facts = cc in subst (Enumerates (Chart g w)) is (complete done p)
  lists (suc n) done (x ∷ todo) facts p e = go (among x done) refl (lists n done todo facts) (lists n (x ∷ done) (leads_to g w bares x (x ∷ done) ++ todo) facts) e
    where
      go : (b : Bool) → among x done ≡ b
          → (Partial g w done todo → saturated g w bares n done todo ≡ Some facts → Enumerates (Chart g w) facts)
          → (Partial g w (x ∷ done) (leads_to g w bares x (x ∷ done) ++ todo) → saturated g w bares n (x ∷ done) (leads_to g w bares x (x ∷ done) ++ todo) ≡ Some facts → Enumerates (Chart g w) facts)
          → cond b (saturated g w bares n done todo) (saturated g w bares n (x ∷ done) (leads_to g w bares x (x ∷ done) ++ todo)) ≡ Some facts
          → Enumerates (Chart g w) facts
      go true h old new e = old (passed_by g w done x todo ((among_test x done).0 h) p) e
      go false h old new e = new (taken_in done x todo (not_from_Decides (among x done) (among_test x done) h) p) e

  pub chart_listed : (n : ℕ) (facts : List Fact) → chart_within n g w bares ≡ Some facts → Enumerates (Chart g w) facts
  chart_listed n facts e = lists n [] (begins g bares) facts (record {
    apart = tt;
    sound = λ z s. elim s [ inl m ↦ absurd m | inr m ↦ first (listed_begin g w bares all z m) ];
    begun = λ z b. inr (begin_listed g w bares all b);
    stepped = λ x z m s. absurd m;
    met = λ x y z m n s. absurd m;
  }) e

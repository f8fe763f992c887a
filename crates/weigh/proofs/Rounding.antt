-- A round, from one row to the next (`rounded`), the rounds (`rounds_again`), and the value of the start phrase (`start_found`, `start_none`).
use Rattle.std.proofs.Common.{◌≡◌, ℕ, zero, suc, ◌+◌, ◌-◌, ◌<◌, ◌≤◌, List, [], ◌∷◌, ◌++◌, map, length, get_or, drop, replicate, Some, None, sym, refl, ap, ◌∙◌, subst, inl, add-one, arith, length-drop}
use Rattle.std.proofs.Math.ListN.{length-replicate, get_or-replicate}
use Rattle.std.proofs.lemmas.List.Prefix.{front_from_reads}
use Rattle.std.proofs.lemmas.List.{same_lists, get_or-drop, get_or_default}
use Rattle.algebra.specs.Laws.{Laws}
use Rattle.algebra.specs.Sums.{sum_of}
use Rattle.grammar.specs.Grammar.{Grammar}
use Rattle.chart.specs.Chart.{read, reading_at, Phrase, Rule, RuleOf, is_bare, is_made, bare, Made, Member, Enumerates, start_read}
use Rattle.chart.specs.Sums.{rule_value, rules_for, value_after, bare_rules, made_rules, same_phrase}
use Rattle.chart.proofs.Faultless.{faultless_sound}
use Rattle.chart.proofs.Listing.{of_kept}
use Rattle.chart.proofs.Phrases.{phrase_test}
use Rattle.chart.proofs.Starts.{bare_unread}
use Rattle.chart.proofs.Sums.{rules_listed, rules_from_facts, round_in_any_order, sum_of_trees}
use Rattle.cells.specs.declared.Cell.{Cell}
use Rattle.cells.specs.declared.Phrase as cell
use Rattle.cells.specs.Facts.{phrase_of}
use Rattle.weigh.specs.declared.table.Table.{Table}
use Rattle.weigh.specs.Listed.{facts_in}
use Rattle.weigh.specs.Numbers.{NumberOf}
use Rattle.weigh.specs.Weighed.{Ready, width, IndexOf, First, weight_in, sum_for, Past, Filled, Copied, RulesAdded, BareAdded, Rounded, RoundedTo, StartIs, SumIs, Cleared}
use Rattle.weigh.proofs.Indexing.{index_found, not_found, index_inside}
use Rattle.weigh.proofs.Listed.{facts_listed}
use Rattle.weigh.proofs.Living.{live_listed}
use Rattle.weigh.proofs.Summing.{past_more, summed_none, first_copied}

-- the rules of the chart can be listed
pub rules_there : (g : Grammar) (w : List ℕ) (cs : List Cell) (t : Table) (phrases : List Phrase) → Ready g w cs t phrases → (rules : List Rule) × Enumerates (RuleOf g w) rules
rules_there g w cs t phrases h =
    let places = live_listed g h.sound in
    let facts = facts_in cs t.base (t.end - t.base) in (
      bare_rules g places.0 ++ made_rules facts,
      rules_from_facts g (faultless_sound g h.sound) w places.0 facts places.1 (facts_listed g w cs t.base t.end h.limit h.state h.whole),
    )

module _ {A : Type 0} {nought unit : A} {plus times : A → A → A} {reads : ℕ → A} {writes : A → ℕ} (laws : Laws nought unit plus times reads writes) (g : Grammar) (cs : List Cell) (t : Table) (weights : List ℕ) where
  pub rounded : (w₀ w₁ w₂ w₃ w₄ : List ℕ) → Filled (width t) (width t + width t) (writes nought) w₀ w₁ → BareAdded nought plus times reads g cs t weights w₁ w₂
      → RulesAdded nought plus times reads cs t weights w₂ w₃ (made_rules (facts_in cs t.base (t.end - t.base))) → Copied (width t) w₃ w₄ → Rounded nought plus times reads g cs t weights w₀ w₄
  rounded w₀ w₁ w₂ w₃ w₄ fill bares mades copied w phrases rules h ready all row =
      let f : Phrase → A = value_after nought plus times (weight_in reads weights) rules h in
      let facts = facts_in cs t.base (t.end - t.base) in
      let x = bares w phrases f ready (summed_none laws g w cs t phrases weights f w₀ w₁ ready row fill) in
      let y = mades g w phrases f (bare_rules g x.0) ready x.2 in
      let done = bare_rules g x.0 ++ made_rules facts in
      let listed : Enumerates (RuleOf g w) done =
      rules_from_facts g (faultless_sound g ready.sound) w x.0 facts x.1 (facts_listed g w cs t.base t.end ready.limit ready.state ready.whole) in
      let next : (X : Phrase) → sum_for nought plus times (weight_in reads weights) f done X ≡ value_after nought plus times (weight_in reads weights) rules (suc h) X =
      (λ X. sym (round_in_any_order laws g w rules all (weight_in reads weights) h X (rules_for X done) (rules_listed g w done listed X))) in (
        first_copied laws g w cs t phrases (value_after nought plus times (weight_in reads weights) rules (suc h)) w₃ w₄ ready (λ X i ix. y.0.second X i ix ∙ next X) copied,
        λ j le. copied.high j (omega (arith, le)) ∙ (y.1 j le ∙ (x.3 j le ∙ fill.high j le)),
      )

  pub rounds_first : (work : List ℕ) → RoundedTo nought plus times reads g cs t weights work work 0
  rounds_first work w phrases rules ready all row = (row, λ j le. refl)

  pub rounds_again : (before now after : List ℕ) (h : ℕ) → RoundedTo nought plus times reads g cs t weights before now h → Rounded nought plus times reads g cs t weights now after → RoundedTo nought plus times reads g cs t weights before after (h + 1)
  rounds_again before now after h a b w phrases rules ready all row =
      let x = a w phrases rules ready all row in
      let y = b w phrases rules h ready all x.0 in
      (subst (λ (n : ℕ). First reads g phrases after (value_after nought plus times (weight_in reads weights) rules n)) (sym (add-one h)) y.0, past_more (width t) before now after x.1 y.1)

  -- before the first round
  pub first_zero : (w : List ℕ) (phrases : List Phrase) (before after : List ℕ) → Ready g w cs t phrases → Filled 0 (width t) (writes nought) before after → First reads g phrases after (λ X. nought)
  first_zero w phrases before after ready fill X i ix =
      let lt = index_inside g w cs t phrases X i ready ix in
      ap reads (fill.inside i (omega arith) lt) ∙ laws.reads_writes nought

  -- a phrase without a rule is worth zero
  none_kept : (X : Phrase) (rules : List Rule) → ((r : Rule) → Member r rules → r.left ≡ X → ⊥) → rules_for X rules ≡ []
  none_kept X rules none = go (rules_for X rules) (λ r m. let k = of_kept (λ v. same_phrase v.left X) r rules m in none r k.0 ((phrase_test r.left X).0 k.1))
    where
      go : (kept : List Rule) → ((r : Rule) → Member r kept → ⊥) → kept ≡ []
      go [] f = refl
      go (r ∷ kept) f = absurd (f r (inl refl))

  worth_zero : (w : List ℕ) (rules : List Rule) (h : ℕ) (X : Phrase) → Enumerates (RuleOf g w) rules → ((r : Rule) → RuleOf g w r → r.left ≡ X → ⊥) → value_after nought plus times (weight_in reads weights) rules h X ≡ nought
  worth_zero w rules zero X all none = refl
  worth_zero w rules (suc h) X all none =
      ap (λ (l : List Rule). sum_of nought plus (map (rule_value times (weight_in reads weights) (value_after nought plus times (weight_in reads weights) rules h)) l)) (none_kept X rules (λ r m. none r ((all.exactly r).0 m)))

  start_rule : (w : List ℕ) (r : Rule) → RuleOf g w r → r.left ≡ start_read g w → (Made g w (start_read g w) → ⊥) → ⊥
  start_rule w r (is_made c) e none = none (r, c, e)
  start_rule w r (is_bare b) e none =
      let is : bare g b.production.result ≡ start_read g w = sym (ap (λ (v : Rule). v.left) b.is) ∙ e in
      let u = bare_unread g b.production.result 1 (read 0 (length w)) (ap (λ (X : Phrase). reading_at X 1) is) in
      let z : ◌≡◌ {A = ℕ} 0 1 = cc in
      omega arith

  pub start_found : (w work : List ℕ) (X : cell.Phrase) (k : ℕ) (v : A) → phrase_of X ≡ start_read g w → NumberOf cs t.base t.end X (Some k) → v ≡ reads (get_or work (t.categories + k) 0) → StartIs nought plus times reads g w cs t weights work v
  start_found w work X k v is o e phrases rules h ready all row =
      e ∙ row (start_read g w) (t.categories + k) (subst (λ (Y : Phrase). IndexOf g phrases Y (t.categories + k)) is (index_found g w cs t phrases X k ready o))

  pub start_none : (w work : List ℕ) (X : cell.Phrase) (v : A) → phrase_of X ≡ start_read g w → NumberOf cs t.base t.end X None → v ≡ nought → StartIs nought plus times reads g w cs t weights work v
  start_none w work X v is o e phrases rules h ready all row =
      let none : Made g w (start_read g w) → ⊥ = (λ m. not_found g w cs t phrases X ready o (subst (Made g w) (sym is) m)) in
      e ∙ sym (worth_zero w rules h (start_read g w) all (λ r ro l. start_rule w r ro l none))

  pub sum_known : (w : List ℕ) (phrases : List Phrase) (depth : ℕ) (before after done : List ℕ) (v : A) → Ready g w cs t phrases → Filled 0 (width t) (writes nought) before after → RoundedTo nought plus times reads g cs t weights after done depth
      → StartIs nought plus times reads g w cs t weights done v → SumIs nought plus times reads g w depth weights v
  sum_known w phrases depth before after done v ready fill rounds start =
      let rules = rules_there g w cs t phrases ready in
      let x = rounds w phrases rules.0 ready rules.1 (first_zero w phrases before after ready fill) in
      let sum = sum_of_trees laws g (faultless_sound g ready.sound) w rules.0 rules.1 (weight_in reads weights) depth in
      (sum.0, λ ts e. start phrases rules.0 depth ready rules.1 x.0 ∙ sum.1 ts e)

  pub rounds_past : (w : List ℕ) (phrases : List Phrase) (depth : ℕ) (before after done : List ℕ) → Ready g w cs t phrases → Filled 0 (width t) (writes nought) before after → RoundedTo nought plus times reads g cs t weights after done depth
      → Past (width t) before done
  rounds_past w phrases depth before after done ready fill rounds j le =
      let rules = rules_there g w cs t phrases ready in
      (rounds w phrases rules.0 ready rules.1 (first_zero w phrases before after ready fill)).1 j le ∙ fill.high j (omega (arith, le))

-- what is left when all is cleared
pub cleared : (n v q : ℕ) (before done after : List ℕ) → n ≡ q + q → n ≤ length before → length after ≡ length before → Past q before done → Filled 0 n v done after → Cleared n v before after
cleared n v q before done after is room len past fill =
    let count : length (replicate n v) ≡ n = length-replicate n v in
    let front : after ≡ replicate n v ++ drop (length (replicate n v)) after =
    front_from_reads 0 after (replicate n v) (omega (arith, count, len, room))
    (λ i lt. fill.inside i (omega arith) (omega (arith, lt, count)) ∙ sym (get_or-replicate n i v 0 (omega (arith, lt, count)))) in
    let rest : drop n after ≡ drop n before =
    same_lists (drop n after) (drop n before) (length-drop n after ∙ (ap (λ (k : ℕ). k - n) len ∙ sym (length-drop n before)))
    (λ k d lt.
    let inside : n + k < length after = omega (arith, lt, length-drop n after) in
    get_or-drop n after k d
    ∙ (get_or_default after (n + k) d 0 inside
    ∙ (fill.high (n + k) (omega arith) ∙ (past (n + k) (omega (arith, is)) ∙ (get_or_default before (n + k) 0 d (omega (arith, inside, len)) ∙ sym (get_or-drop n before k d)))))) in
    front ∙ (ap (λ (k : ℕ). replicate n v ++ drop k after) count ∙ ap (λ (l : List ℕ). replicate n v ++ l) rest)

-- The tests of `Saturation` decide what they are named for. Assumes nothing.
use Rattle.std.proofs.Common.{◌≡◌, ℕ, ◌+◌, ◌-◌, ◌≤◌, Bool, true, false, cond, ◌&&◌, eqb, leb, List, [], ◌∷◌, ◌++◌, length, take, drop, Decides, sym, refl, ap, ◌∙◌, inl, inr, arith, drop-drop, take_at}
use Rattle.std.proofs.lemmas.Bool.Decides.{Decides-eqb, Decides-and, Decides-or, Decides-like, leb_tells}
use Rattle.chart.specs.Chart.{Phrase, Rule, Fact, made, item, Reads, Member}
use Rattle.chart.specs.Sums.{same_phrase}
use Rattle.chart.proofs.Phrases.{phrase_test}
use Rattle.samples.proofs.Saturation.{same_phrases, same_rule, same_fact, among, begins_with, reads, between, has}

phrases_test : (Xs Ys : List Phrase) → Decides (same_phrases Xs Ys) (Xs ≡ Ys)
phrases_test [] [] = ((λ e. refl), (λ e. refl))
phrases_test [] (Y ∷ Ys) = ((λ e. cc), (λ e. cc))
phrases_test (X ∷ Xs) [] = ((λ e. cc), (λ e. cc))
phrases_test (X ∷ Xs) (Y ∷ Ys) =
    Decides-like (same_phrase X Y && same_phrases Xs Ys) (λ p. let h = p.0 in let k = p.1 in cc) (λ p. ((cc), (cc)))
    (Decides-and (same_phrase X Y) (same_phrases Xs Ys) (phrase_test X Y) (phrases_test Xs Ys))

rule_test : (r q : Rule) → Decides (same_rule r q) (r ≡ q)
rule_test r q =
    Decides-like (same_rule r q) (λ p i. record { left = p.1.0 i; place = p.0 i; arguments = p.1.1 i })
    (λ p. (ap (λ x. x.place) p, (ap (λ x. x.left) p, ap (λ x. x.arguments) p)))
    (Decides-and (eqb r.place q.place) (same_phrase r.left q.left && same_phrases r.arguments q.arguments) (Decides-eqb r.place q.place)
    (Decides-and (same_phrase r.left q.left) (same_phrases r.arguments q.arguments) (phrase_test r.left q.left) (phrases_test r.arguments q.arguments)))

fact_test : (x y : Fact) → Decides (same_fact x y) (x ≡ y)
fact_test (made r) (made q) = Decides-like (same_rule r q) (λ p. ap made p) (λ p. cc) (rule_test r q)
fact_test (made r) (item q m a b c) = ((λ e. cc), (λ e. cc))
fact_test (item r l j i k) (made q) = ((λ e. cc), (λ e. cc))
fact_test (item r l j i k) (item q m a b c) =
    Decides-like (eqb k c && (eqb i b && (eqb j a && (eqb l m && same_rule r q))))
    (λ p. let h1 = p.0 in let h2 = p.1.0 in let h3 = p.1.1.0 in let h4 = p.1.1.1.0 in let h5 = p.1.1.1.1 in cc)
    (λ p. ((cc), ((cc), ((cc), ((cc), (cc))))))
    (Decides-and (eqb k c) (eqb i b && (eqb j a && (eqb l m && same_rule r q))) (Decides-eqb k c)
    (Decides-and (eqb i b) (eqb j a && (eqb l m && same_rule r q)) (Decides-eqb i b)
    (Decides-and (eqb j a) (eqb l m && same_rule r q) (Decides-eqb j a)
    (Decides-and (eqb l m) (same_rule r q) (Decides-eqb l m) (rule_test r q)))))

pub among_test : (x : Fact) (ys : List Fact) → Decides (among x ys) (Member x ys)
among_test x [] = ((λ e. absurd (let z : ◌≡◌ {A = ℕ} 0 1 = cc in omega arith)), (λ m. absurd m))
among_test x (y ∷ ys) = Decides-or (same_fact x y) (among x ys) (fact_test x y) (among_test x ys)

pub has_test : (c : ℕ) (ds : List ℕ) → Decides (has c ds) (Member c ds)
has_test c [] = ((λ e. absurd (let z : ◌≡◌ {A = ℕ} 0 1 = cc in omega arith)), (λ m. absurd m))
has_test c (d ∷ ds) = Decides-or (eqb c d) (has c ds) (Decides-eqb c d) (has_test c ds)

begins_test : (us xs : List ℕ) → Decides (begins_with us xs) (xs ≡ us ++ drop (length us) xs)
begins_test [] xs = ((λ e. refl), (λ e. refl))
begins_test (u ∷ us) [] = ((λ e. cc), (λ e. cc))
begins_test (u ∷ us) (x ∷ xs) =
    Decides-like (eqb u x && begins_with us xs)
    (λ p. let h = p.0 in let k = p.1 in cc)
    (λ p. ((cc), (cc)))
    (Decides-and (eqb u x) (begins_with us xs) (Decides-eqb u x) (begins_test us xs))

decides_leb : (a b : ℕ) → Decides (leb a b) (a ≤ b)
decides_leb a b = elim (leb_tells a b) [
  | inl p ↦ ((λ e. p.1), (λ h. p.0))
  | inr p ↦ ((λ e. absurd (let z : ◌≡◌ {A = ℕ} 0 1 = (let f = p.0 in cc) in omega arith)), (λ h. absurd (omega (arith, p.1))))
]

pub reads_test : (w : List ℕ) (j k : ℕ) (u : List ℕ) → Decides (reads w j k u) (Reads w j k u)
reads_test w j k u =
    Decides-like (reads w j k u)
    (λ p. record { inside = p.0; ends = p.1.0; tokens = p.1.1 ∙ ap (λ x. u ++ x) (drop-drop (length u) j w ∙ ap (λ n. drop n w) p.1.0) })
    (λ h. (h.inside, (h.ends, h.tokens ∙ ap (λ x. u ++ x) (sym (drop-drop (length u) j w ∙ ap (λ n. drop n w) h.ends)))))
    (Decides-and (leb k (length w)) (eqb (j + length u) k && begins_with u (drop j w)) (decides_leb k (length w))
    (Decides-and (eqb (j + length u) k) (begins_with u (drop j w)) (Decides-eqb (j + length u) k) (begins_test u (drop j w))))

-- What is read from a to b is `between w a b`.
pub read_between : (w : List ℕ) (a b : ℕ) (u : List ℕ) → Reads w a b u → u ≡ between w a b
read_between w a b u h = sym (ap (take (b - a)) h.tokens ∙ take_at u (drop b w) (b - a) (omega (arith, h.ends)))

-- A list that stands under a test.
pub in_if : {X : Type 0} (b : Bool) (x : X) (xs : List X) → b ≡ true → Member x xs → Member x (cond b xs [])
in_if true x xs e m = m
in_if false x xs e m = absurd (let z : ◌≡◌ {A = ℕ} 0 1 = cc in omega arith)

pub of_if : {X : Type 0} (b : Bool) (x : X) (xs : List X) → Member x (cond b xs []) → (b ≡ true) × Member x xs
of_if true x xs m = (refl, m)
of_if false x xs m = absurd m

pub one_of : {X : Type 0} (x y : X) → Member x (y ∷ []) → x ≡ y
one_of x y (inl e) = e
one_of x y (inr m) = absurd m

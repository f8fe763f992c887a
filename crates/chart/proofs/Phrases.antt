-- Two phrases are equal or not: `phrase_test`, `phrase_discrete`.
use Rattle.std.proofs.Common.{◌≡◌, Bool, true, false, ◌&&◌, eqb, List, [], ◌∷◌, Decides, refl, ap}
use Rattle.std.proofs.lemmas.Bool.Decides.{Decides-eqb, Decides-and, Decides-like, not_from_Decides}
use Rattle.chart.specs.Chart.{Reading, unread, read, Phrase}
use Rattle.chart.specs.Sums.{same_reading, same_readings, same_phrase}

reading_test : (m n : Reading) → Decides (same_reading m n) (m ≡ n)
reading_test unread unread = ((λ e. refl), (λ e. refl))
reading_test unread (read c d) = ((λ e. cc), (λ e. cc))
reading_test (read a b) unread = ((λ e. cc), (λ e. cc))
reading_test (read a b) (read c d) =
    Decides-like (eqb a c && eqb b d) (λ p. let h = p.0 in let k = p.1 in cc) (λ p. ((cc), (cc))) (Decides-and (eqb a c) (eqb b d) (Decides-eqb a c) (Decides-eqb b d))

readings_test : (ms ns : List Reading) → Decides (same_readings ms ns) (ms ≡ ns)
readings_test [] [] = ((λ e. refl), (λ e. refl))
readings_test [] (n ∷ ns) = ((λ e. cc), (λ e. cc))
readings_test (m ∷ ms) [] = ((λ e. cc), (λ e. cc))
readings_test (m ∷ ms) (n ∷ ns) =
    Decides-like (same_reading m n && same_readings ms ns) (λ p. let h = p.0 in let k = p.1 in cc) (λ p. ((cc), (cc)))
    (Decides-and (same_reading m n) (same_readings ms ns) (reading_test m n) (readings_test ms ns))

pub phrase_test : (X Y : Phrase) → Decides (same_phrase X Y) (X ≡ Y)
phrase_test X Y =
    Decides-like (same_phrase X Y) (λ p i. record { category = p.0 i; readings = p.1 i }) (λ p. (ap (λ Z. Z.category) p, ap (λ Z. Z.readings) p))
    (Decides-and (eqb X.category Y.category) (same_readings X.readings Y.readings) (Decides-eqb X.category Y.category) (readings_test X.readings Y.readings))

pub phrase_discrete : (X Y : Phrase) → Dec (X ≡ Y)
phrase_discrete X Y = go (same_phrase X Y) refl
  where
    go : (b : Bool) → same_phrase X Y ≡ b → Dec (X ≡ Y)
    go true e = yes ((phrase_test X Y).0 e)
    go false e = no (not_from_Decides (same_phrase X Y) (phrase_test X Y) e)

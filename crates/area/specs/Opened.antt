-- What opening and feeding leave in an area. Assumes nothing.
use Rattle.std.specs.Prelude.{◌≡◌, ℕ, ◌+◌, List, [], ◌∷◌, ◌++◌, length, Ok, Err, Option, Result, MatchOption}
use Rattle.grammar.specs.Grammar.{Grammar}
use Rattle.grammar.specs.Trees.{Tree, StartTree}
use Rattle.faults.specs.Sound.{Sound}
use Rattle.soundness.specs.Opening.{Refused}
use Rattle.cells.specs.declared.Cell.{Cell}
use Rattle.area.specs.declared.numbers.Numbers.{Numbers}
use Rattle.area.specs.declared.fault.OpeningFault.{OpeningFault}
use Rattle.area.specs.declared.fault.OpeningFault.TheVariants.{Unsound, TooShort}
use Rattle.area.specs.Held.{Held, TooFew, Unmoved, AllZero}

-- The numbers with one token more, and the facts up to e.
abbrev pub one_more : Numbers → ℕ → Numbers
one_more n e = record { counts = n.counts; held = n.held + 1; end = e }

-- Extending by t: the area holds w with t, and nothing that stands in it moved; or the cells in use for that would be more than there are, and it is as it was.
abbrev pub Extended : Grammar → List ℕ → ℕ → List Cell → List Cell → Numbers → Option Numbers → Type 0
Extended g w t cs cs' n r =
    MatchOption r (TooFew g (w ++ (t ∷ [])) (length cs) × (cs' ≡ cs)) (λ m. (m ≡ one_more n m.end) × Held g (w ++ (t ∷ [])) cs' m × Unmoved cs cs')

-- Opening with the grammar g: the area holds it and no token; or it is refused, and every cell is zero.
abbrev pub Opening : Grammar → List Cell → Result Numbers OpeningFault → Type 0
Opening g cs (Ok n) = Held g [] cs n × ((t : Tree) × StartTree g t)
Opening g cs (Err (Unsound f)) = Refused g f × AllZero cs
Opening g cs (Err TooShort) = Sound g × ((t : Tree) × StartTree g t) × TooFew g [] (length cs) × AllZero cs

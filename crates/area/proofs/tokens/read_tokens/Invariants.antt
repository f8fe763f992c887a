use Rattle.std.proofs.Common.{◌≡◌, ℕ, List, length, drop}
use Rattle.area.specs.Held.{TokensIn}
use Rattle.area.proofs.FarEnd.{ReadTo}
use Rattle.area.proofs.tokens.read_tokens.Given as goal

abbrev pub invariant-loop-i : goal.invariant-loop-i
invariant-loop-i l =
    ((w : List ℕ) → length w ≡ l.held → TokensIn l.cells w → ReadTo w l.tokens (length l.yielded)) × (drop l.held l.tokens ≡ drop l.held l.initial.tokens)

-- An area that was opened holds the grammar and no token.
use Rattle.std.proofs.Common.{◌≡◌, ℕ, List, [], Some, Ok, Err, Result, subst, arith}
use Rattle.std.specs.Result.{result_ok}
use Rattle.grammar.specs.Grammar.{Grammar}
use Rattle.cells.specs.declared.Cell.{Cell}
use Rattle.area.specs.declared.numbers.Numbers.{Numbers}
use Rattle.area.specs.declared.fault.OpeningFault.{OpeningFault}
use Rattle.area.specs.Held.{Held}
use Rattle.area.specs.Opened.{Opening}

pub opened_held : (g : Grammar) (cs : List Cell) (r : Result Numbers OpeningFault) (n : Numbers) → Some n ≡ result_ok r → Opening g cs r → Held g [] cs n
opened_held g cs (Ok m) n e o = let same : m ≡ n = cc in subst (λ (v : Numbers). Held g [] cs v) same o.0
opened_held g cs (Err f) n e o = absurd (let y : ◌≡◌ {A = ℕ} 0 1 = cc in omega arith)

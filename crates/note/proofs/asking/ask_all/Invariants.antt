use Rattle.std.proofs.Common.{◌≡◌, ℕ, List, length, take}
use Rattle.grammar.specs.Grammar.{Grammar}
use Rattle.area.specs.Held.{Held}
use Rattle.note.specs.Promises.{AllAnswered}
use Rattle.note.proofs.asking.ask_all.Given as goal

abbrev pub invariant-loop-question : goal.invariant-loop-question
invariant-loop-question l =
    ◌≡◌ (length l.cells) (length l.initial.cells)
    × ((g : Grammar) (w : List ℕ) → Held g w l.initial.cells l.initial.numbers → (v : List ℕ) × Held g v l.cells l.numbers × AllAnswered g (length l.initial.cells) w (take l.question-index l.questions) l.answers.items v)

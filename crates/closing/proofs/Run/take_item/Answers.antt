use Rattle.std.proofs.Common.{subst, inl, inr}
use Rattle.steps.specs.declared.next.Next.{Next}
use Rattle.steps.specs.Nexts.{NextOf}
use Rattle.closing.specs.Runs.{grammar_of}
use Rattle.chart.specs.Chart.{one}
use Rattle.cells.specs.declared.Fact.TheVariants.{Item}
use Rattle.closing.proofs.Turns.{moved_turned, idle_turned}
use Rattle.closing.proofs.Run.take_item.Goals as goal

pub add-requires : goal.add-requires
add-requires c =
    record {
      ready = c.requires.ready;
      fact = one (c.requires.ready.state.sound (Item c.args.x) (c.args.at, c.requires.taken.0, c.requires.taken.1, c.requires.taken.2)) c.in-Moves.ensures.0;
    }

pub returns-in-Moves : goal.returns-in-Moves
returns-in-Moves c =
    moved_turned (grammar_of c.args.self.now c.args.cells.now) c.args.self.now.tokens.now c.args.cells.now c.add.new.cells c.args.self.now.room.base c.args.end c.args.self.now.room.limit c.args.at c.args.x c.args.wait c.in-Moves.fact c.add.result c.requires.told c.in_default.not-Part c.in-Moves.ensures c.add.ensures

pub returns-in-Waits : goal.returns-in-Waits
returns-in-Waits c =
    let r = c.args.self.now in
    let g = grammar_of r c.args.cells.now in
    elim c.in-Waits.is [
      | inl h ↦ let n = subst (λ (y : Next). NextOf g r.tokens.now c.args.x y) h.2 c.next_for.ensures in absurd (c.in_default.not-Part h.0 h.1 (c.requires.told.parts h.0 h.1 n.0 n.1))
      | inr h ↦
          idle_turned g r.tokens.now c.args.cells.now r.room.base c.args.end r.room.limit c.args.at c.args.x c.args.wait c.requires.ready.state c.requires.told c.in_default.not-Part
          (subst (λ (y : Next). NextOf g r.tokens.now c.args.x y) h c.next_for.ensures).0
    ]

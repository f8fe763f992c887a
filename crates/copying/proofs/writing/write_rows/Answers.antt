use Rattle.std.proofs.Common.{◌≡◌, ◌+◌, ◌≤◌, length, Some, None, sym, ap, ◌∙◌, add-one, arith}
use Rattle.std.specs.List.{slice_get}
use Rattle.grammar.specs.Grammar.{from_one}
use Rattle.faults.proofs.Made.{below_there}
use Rattle.copying.specs.Written.{written}
use Rattle.copying.proofs.Runs.{row_step, row_end, none_end}
use Rattle.copying.proofs.writing.write_rows.Goals as goal

pub write-requires : goal.write-requires
write-requires g c =
    let room = c.requires.room in
    let rows = room.0 in
    let here : slice_get rows c.loop-i.i ≡ Some c.in-Some.next = sym (room.1 (c.loop-i.i + 1) (Some c.in-Some.next) c.in-Some.ensures ∙ ap (from_one rows) (add-one c.loop-i.i)) in
    let there = below_there rows c.loop-i.i c.in-Some.next here in
    omega (arith, there, room.3, c.loop-i.auto.cells)

pub loop-i-preserved : goal.loop-i-preserved
loop-i-preserved g c = λ rows answers few.
    let here : slice_get rows c.loop-i.i ≡ Some c.in-Some.next = sym (answers (c.loop-i.i + 1) (Some c.in-Some.next) c.in-Some.ensures ∙ ap (from_one rows) (add-one c.loop-i.i)) in
    let there = below_there rows c.loop-i.i c.in-Some.next here in (
      omega (arith, there),
      row_step rows c.loop-i.i c.args.cell c.in-Some.next c.loop-i.cells c.write.new.cells (written c.args.cell rows c.args.cells.now) here c.write.ensures (c.loop-i.invariant rows answers few).1,
    )

pub returns-in_default : goal.returns-in_default
returns-in_default g c = λ rows answers few.
    let inv = c.loop-i.invariant rows answers few in
    let end : length rows ≤ c.loop-i.i = none_end rows c.loop-i.i (sym (answers (c.loop-i.i + 1) None c.in_default.ensures ∙ ap (from_one rows) (add-one c.loop-i.i))) in (
      omega (arith, inv.0, end),
      row_end rows c.loop-i.i c.args.cell c.loop-i.cells (written c.args.cell rows c.args.cells.now) end inv.1,
    )

pub returns : goal.returns
returns g c = λ rows answers few.
    let inv = c.loop-i.invariant rows answers few in
    let end : length rows ≤ c.loop-i.i = omega (arith, few, c.loop-i-test.false) in (
      omega (arith, inv.0, few, c.loop-i-test.false),
      row_end rows c.loop-i.i c.args.cell c.loop-i.cells (written c.args.cell rows c.args.cells.now) end inv.1,
    )

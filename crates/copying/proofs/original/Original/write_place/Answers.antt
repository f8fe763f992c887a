use Rattle.std.proofs.Common.{ℕ, ◌+◌, ◌-◌, ◌∷◌, drop, set, Some, Option, sym, subst, arith}
use Rattle.faults.proofs.Made.{made_sound}
use Rattle.grammar.specs.Grammar.{Production}
use Rattle.copying.specs.Places.{Firsts}
use Rattle.copying.proofs.Links.{behind, place_row_lem, place_counted, dead_by_heights, firsts_live, firsts_dead}
use Rattle.copying.proofs.original.Original.write_place.Goals as goal

pub overflow_sub-first : goal.overflow_sub-first
overflow_sub-first g c =
    let m = g.S.Source.meaning c.args.self.now.grammar.source.now in
    omega (arith, c.requires.part, (place_counted m (made_sound m c.args.self.now.grammar.faultless) c.args.place c.in-Some.filled c.unwrap_or-count.result c.arity.result c.in-Some.ensures c.arity.ensures c.unwrap_or-count.ensures).1)

pub bounds-firsts-result : goal.bounds-firsts-result
bounds-firsts-result g c =
    let m = g.S.Source.meaning c.args.self.now.grammar.source.now in
    let q = behind m (made_sound m c.args.self.now.grammar.faultless) c.args.place c.in-Some.filled c.in-Some.ensures in
    omega (arith, q.2, q.4, c.requires.linked.room)

pub bounds-firsts-result-then-not-is_dead : goal.bounds-firsts-result-then-not-is_dead
bounds-firsts-result-then-not-is_dead g c =
    let m = g.S.Source.meaning c.args.self.now.grammar.source.now in
    let q = behind m (made_sound m c.args.self.now.grammar.faultless) c.args.place c.in-Some.filled c.in-Some.ensures in
    omega (arith, q.2, q.4, c.requires.linked.room)

pub returns-then-not-is_dead : goal.returns-then-not-is_dead
returns-then-not-is_dead g c =
    let m = g.S.Source.meaning c.args.self.now.grammar.source.now in
    let hs = c.args.self.now.heights.now in
    let sound = made_sound m c.args.self.now.grammar.faultless in
    let q = behind m sound c.args.place c.in-Some.filled c.in-Some.ensures in
    let rest = drop (c.args.place + 1) m.places in
    let count = place_counted m sound c.args.place c.in-Some.filled c.unwrap_or-count.result c.arity.result c.in-Some.ensures c.arity.ensures c.unwrap_or-count.ensures in
    let alive = dead_by_heights m hs c.args.place q.0 _ c.args.self.now.least q.1 (c.if-not-is_dead.ensures sound) in
    let live : Firsts hs c.args.cell (Some q.0 ∷ rest) (set c.args.firsts.now q.0.result c.args.cell) =
    firsts_live hs c.args.firsts.now c.args.cell q.0 rest c.requires.linked q.4 alive in
    record {
      part = omega (arith, count.1, c.requires.part);
      row = place_row_lem m hs c.args.firsts.now c.args.place c.args.cell (c.args.end - c.unwrap_or-count.result) c.unwrap_or-count.result c.in-Some.filled rest c.args.cells.now c.write-2.new.cells q.0 q.1 q.2 q.3 count.0 q.4 c.requires.linked c.write-2.ensures;
      linked =
          subst (λ (o : Option Production). Firsts hs c.args.cell (o ∷ rest) (set c.args.firsts.now c.in-Some.filled.result c.args.cell)) (sym q.1)
          (subst (λ (r : ℕ). Firsts hs c.args.cell (Some q.0 ∷ rest) (set c.args.firsts.now r c.args.cell)) q.2 live);
    }

pub returns-else-not-is_dead : goal.returns-else-not-is_dead
returns-else-not-is_dead g c =
    let m = g.S.Source.meaning c.args.self.now.grammar.source.now in
    let hs = c.args.self.now.heights.now in
    let sound = made_sound m c.args.self.now.grammar.faultless in
    let q = behind m sound c.args.place c.in-Some.filled c.in-Some.ensures in
    let rest = drop (c.args.place + 1) m.places in
    let count = place_counted m sound c.args.place c.in-Some.filled c.unwrap_or-count.result c.arity.result c.in-Some.ensures c.arity.ensures c.unwrap_or-count.ensures in
    let dead = dead_by_heights m hs c.args.place q.0 _ c.args.self.now.least q.1 (c.if-not-is_dead.ensures sound) in
    record {
      part = omega (arith, count.1, c.requires.part);
      row = place_row_lem m hs c.args.firsts.now c.args.place c.args.cell (c.args.end - c.unwrap_or-count.result) c.unwrap_or-count.result c.in-Some.filled rest c.args.cells.now c.write-2.new.cells q.0 q.1 q.2 q.3 count.0 q.4 c.requires.linked c.write-2.ensures;
      linked =
          subst (λ (o : Option Production). Firsts hs c.args.cell (o ∷ rest) c.args.firsts.now) (sym q.1)
          (firsts_dead hs c.args.firsts.now c.args.cell q.0 rest c.requires.linked dead);
    }

use Rattle.std.proofs.Common.{◌≡◌, ℕ, ◌+◌, ◌*◌, sym, subst, arith}
use Rattle.weigh.specs.declared.table.Table.{Table}
use Rattle.weigh.specs.Weighed.{Ready, width, Cleared}
use Rattle.weigh.proofs.Rounding.{sum_known, rounds_past, cleared}
use Rattle.weigh.proofs.weighing.weigh.Goals as goal

pub returns : goal.returns
returns g c =
    let gr = (g.S.Source.meaning c.args.chart.now.source.now) in
    let table : Table = record { base = c.args.chart.now.room.base; end = c.args.chart.now.end; categories = c.categories.result; phrases = c.args.request.now.phrases } in
    let numbered = c.requires.numbered in
    let ready : Ready gr c.args.chart.now.tokens.now c.args.chart.now.cells.now table numbered.0 =
    record { sound = c.requires.sound; limit = c.args.chart.now.room.limit; state = c.requires.stands.state; whole = c.requires.stands.whole; numbered = numbered.1; categories = c.categories.ensures; total = sym numbered.2 } in
    let zero = g.V.Algebra.writes g.V.Algebra.nought in
    let both : ℕ = 2 * (c.categories.result + c.args.request.now.phrases) in
    let is : both ≡ width table + width table = omega arith in
    let past =
    rounds_past g.met.V.Algebra.lawful gr c.args.chart.now.cells.now table c.args.request.now.weights.now c.args.chart.now.tokens.now numbered.0 c.args.request.now.depth c.args.work.now c.clear.new.work c.rounds.new.work ready c.clear.ensures c.rounds.ensures in
    record {
      sum =
          sum_known g.met.V.Algebra.lawful gr c.args.chart.now.cells.now table c.args.request.now.weights.now c.args.chart.now.tokens.now numbered.0 c.args.request.now.depth c.args.work.now c.clear.new.work c.rounds.new.work c.start_value-value.result ready c.clear.ensures
          c.rounds.ensures (c.start_value-value.ensures c.args.request.now.weights.now);
      cleared =
          subst (λ (n : ℕ). Cleared (2 * (n + c.args.request.now.phrases)) zero c.args.work.now c.clear-2.new.work) c.categories.ensures
          (cleared both zero (width table) c.args.work.now c.rounds.new.work c.clear-2.new.work is (omega (arith, c.requires.work, c.categories.ensures)) (omega arith) past c.clear-2.ensures);
    }

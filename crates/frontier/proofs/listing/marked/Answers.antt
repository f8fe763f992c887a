use Rattle.std.proofs.Common.{◌≡◌, ℕ, ◌+◌, Bool, List, ◌++◌, length, take, drop, sym, ap, ◌∙◌, arith}
use Rattle.std.proofs.lemmas.List.{take_all}
use Rattle.frontier.specs.Listing.{marked_of}
use Rattle.frontier.proofs.Numbers.{counted, marked_fewer, count_more, count_same, written_more, written_same}
use Rattle.frontier.proofs.listing.marked.Goals as goal
use Rattle.frontier.proofs.listing.marked.Goals.{then-m, else-m}

pub returns-then-count-list : goal.returns-then-count-list
returns-then-count-list c = (omega (arith, c.count.ensures, counted c.args.marks.now, c.if-count-list.true), (cc))

pub bounds-list-n : goal.bounds-list-n
bounds-list-n c =
    let fewer = marked_fewer c.args.marks.now c.loop-t.t c.loop-t-test.true c.if-m.true in
    omega (arith, fewer, c.loop-t.invariant.1, c.loop-t.auto.list, c.count.ensures, counted c.args.marks.now, c.if-count-list.false)

pub loop-t-preserved : goal.loop-t-preserved
loop-t-preserved c = elim c.if-m.branch [
  | then-m w ↦
      let fewer = marked_fewer c.args.marks.now c.loop-t.t c.loop-t-test.true w.if-m.true in (
        omega (arith, w.n-is),
        w.n-is ∙ count_more c.args.marks.now c.loop-t.t c.loop-t.n c.loop-t-test.true w.if-m.true c.loop-t.invariant.1,
        w.list-is
            ∙ (written_more c.args.marks.now c.args.list.now c.loop-t.list c.loop-t.t c.loop-t.n c.loop-t-test.true w.if-m.true c.loop-t.invariant.1
            (omega (arith, fewer, c.loop-t.invariant.1, c.count.ensures, counted c.args.marks.now, c.if-count-list.false)) c.loop-t.invariant.2
            ∙ ap (λ (n : ℕ). marked_of (take (c.loop-t.t + 1) c.args.marks.now) ++ drop n c.args.list.now) (sym w.n-is)),
      )
  | else-m w ↦ (
    omega (arith, w.n-is),
    w.n-is ∙ count_same c.args.marks.now c.loop-t.t c.loop-t.n c.loop-t-test.true w.if-m.false c.loop-t.invariant.1,
    w.list-is
        ∙ (written_same c.args.marks.now c.args.list.now c.loop-t.list c.loop-t.t c.loop-t.n c.loop-t-test.true w.if-m.false c.loop-t.invariant.2
        ∙ ap (λ (n : ℕ). marked_of (take (c.loop-t.t + 1) c.args.marks.now) ++ drop n c.args.list.now) (sym w.n-is)),
  )
]

pub returns : goal.returns
returns c =
    let all = take_all c.loop-t.t c.args.marks.now (omega arith) in
    let size : c.loop-t.n ≡ length (marked_of c.args.marks.now) = c.loop-t.invariant.1 ∙ ap (λ (marks : List Bool). length (marked_of marks)) all in
    (size, omega (arith, size, c.count.ensures, counted c.args.marks.now, c.if-count-list.false), c.loop-t.invariant.2 ∙ ap (λ (marks : List Bool). marked_of marks ++ drop c.loop-t.n c.args.list.now) all)

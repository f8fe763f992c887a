use Rattle.std.proofs.Common.{refl}
use Rattle.note.proofs.asking.ask.Goals as goal

pub returns-in-Feed-clause-answered : goal.returns-in-Feed-clause-answered
returns-in-Feed-clause-answered c = rw c.in-Feed.is (c.fed-told.ensures)

pub returns-in_ok-next-in-Next-clause-answered : goal.returns-in_ok-next-in-Next-clause-answered
returns-in_ok-next-in-Next-clause-answered c = rw c.in-Next.is (λ g w h. (w, h, (c.in_ok-next-in-Next.ensures g w h, refl)))

pub returns-in-Verdict-clause-answered : goal.returns-in-Verdict-clause-answered
returns-in-Verdict-clause-answered c = rw c.in-Verdict.is (λ g w h. (w, h, (c.is_complete.ensures g w h, refl)))

pub returns-in_ok-linearized-in-Linearize-clause-answered : goal.returns-in_ok-linearized-in-Linearize-clause-answered
returns-in_ok-linearized-in-Linearize-clause-answered c = rw c.in-Linearize.is (λ g w h. (w, h, (c.in_ok-linearized-in-Linearize.ensures g w h, refl)))

-- What is known of an area that a note holds.
use Rattle.std.proofs.Common.{◌≡◌, ℕ, ◌+◌, ◌≤◌, List, [], length, Err, arith}
use Rattle.grammar.specs.Grammar.{Grammar}
use Rattle.grammar.specs.Trees.{Tree, StartTree}
use Rattle.cells.specs.declared.Cell.{Cell}
use Rattle.area.specs.declared.numbers.Numbers.{Numbers}
use Rattle.area.specs.Held.{Held}
use Rattle.area.specs.declared.fault.OpeningFault.{OpeningFault}
use Rattle.area.specs.declared.fault.OpeningFault.TheVariants as opening
use Rattle.area.specs.Opened.{Opening}
use Rattle.calls.specs.Fed.{Fed}
use Rattle.calls.specs.declared.refusal.FeedingRefusal.{FeedingRefusal}
use Rattle.calls.specs.declared.refusal.FeedingRefusal.TheVariants.{UnknownToken, FullNote, NoTree, TooShort}
use Rattle.calls.proofs.Feedings.{used}
use Rattle.note.specs.declared.accepted.Accepted.{Accepted}
use Rattle.note.specs.Promises.{AcceptedAs, OpeningRefused, Openable, OpenState, NotFed}

-- the facts and the tokens have room in the area
pub in_area : (g : Grammar) (w : List ℕ) (cs : List Cell) (n : Numbers) → Held g w cs n → n.end + n.held ≤ length cs
in_area g w cs n h =
    let l = h.charted.state.log in
    let within = l.within in
    let many = h.many in
    let fits = h.fits in
    omega arith

-- a refused feeding
pub not_fed : (g : Grammar) (w : List ℕ) (t : ℕ) (cs cs' : List Cell) (r : FeedingRefusal) → Fed g w t cs cs' (Err r) → NotFed g w t (length cs) r × (cs' ≡ cs)
not_fed g w t cs cs' UnknownToken f = (f.0, f.1)
not_fed g w t cs cs' FullNote f = ((f.0, f.1), f.2)
not_fed g w t cs cs' NoTree f = ((f.0, f.1, f.2), f.3)
not_fed g w t cs cs' TooShort f = ((f.0, f.1), f.2)

pub refused_fed : (g : Grammar) (w : List ℕ) (t : ℕ) (old : OpenState) (cs : List Cell) (n : Numbers) (r : FeedingRefusal) → Fed g w t old.area.now cs (Err r) → n ≡ old.numbers → NotFed g w t (length old.area.now) r × ((cs ≡ old.area.now) × (n ≡ old.numbers))
refused_fed g w t old cs n r f e = let k = not_fed g w t old.area.now cs r f in (k.0, (k.1, e))

-- a refused opening
pub opening_refused : (g : Grammar) (cs : List Cell) (f : OpeningFault) → Opening g cs (Err f) → OpeningRefused g (length cs) f
opening_refused g cs (opening.Unsound f) k = k.0
opening_refused g cs opening.TooShort k = (k.0, k.1, k.2)

pub accepted_as : (g : Grammar) (cs : List Cell) (n : Numbers) (a : Accepted) → a.numbers ≡ n → a.used ≡ n.end + n.held → Held g [] cs n → (t : Tree) × StartTree g t → AcceptedAs g cs a
accepted_as g cs n a e u h t = rw e (record { held = h; tree = t; used = rw u (used g [] cs n h); fits = rw u (in_area g [] cs n h) })

-- an opening that was not refused
pub openable : (g : Grammar) (cs : List Cell) (n : Numbers) → Held g [] cs n → (t : Tree) × StartTree g t → Openable g (length cs)
openable g cs n h t = (h.sound, t, n.end + n.held, used g [] cs n h, in_area g [] cs n h)

-- The number of each refusal. Assumes nothing.
use Rattle.std.specs.Prelude.{ℕ}
use Rattle.calls.specs.declared.refusal.FeedingRefusal.{FeedingRefusal}
use Rattle.calls.specs.declared.refusal.FeedingRefusal.TheVariants.{UnknownToken, FullNote, NoTree, TooShort}

abbrev pub feeding_number : FeedingRefusal → ℕ
feeding_number UnknownToken = 9
feeding_number FullNote = 10
feeding_number NoTree = 11
feeding_number TooShort = 8

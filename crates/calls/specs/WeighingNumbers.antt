-- The number of each refusal of weighing. Assumes nothing.
use Rattle.std.specs.Prelude.{ℕ}
use Rattle.calls.specs.declared.weighing_refusal.WeighingRefusal.{WeighingRefusal}
use Rattle.calls.specs.declared.weighing_refusal.WeighingRefusal.TheVariants.{BadDepth, TooFewValues}

abbrev pub weighing_number : WeighingRefusal → ℕ
weighing_number BadDepth = 13
weighing_number TooFewValues = 12

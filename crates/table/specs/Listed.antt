-- The refusals of a layer as lists, for each case its number, then its values; and what a refusal leaves. Assumes nothing.
use Rattle.std.specs.Prelude.{◌≡◌, ℕ, List, [], ◌∷◌}
use Rattle.table.specs.declared.layer_refusal.LayerRefusal.{LayerRefusal}
use Rattle.table.specs.declared.layer_refusal.LayerRefusal.TheVariants.{NoRoom}

abbrev pub refusal_listed : LayerRefusal → List ℕ
refusal_listed NoRoom = 15 ∷ []

-- A layer s refused with 15, and is now t: as it was.
pub record Refused {L : Type 0} (s t : L) (e : LayerRefusal) : Type 0 where
  pub cause : refusal_listed e ≡ 15 ∷ []
  pub same : t ≡ s

-- Reading a list that has one value throughout.
use Rattle.std.proofs.Common.{◌≡◌, ℕ, zero, suc, get_or, replicate, refl}

pub get_d_replicate : {X : Type 0} (n p : ℕ) (z : X) → get_or (replicate n z) p z ≡ z
get_d_replicate zero p z = refl
get_d_replicate (suc n) zero z = refl
get_d_replicate (suc n) (suc p) z = get_d_replicate n p z

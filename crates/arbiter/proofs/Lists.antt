-- A list of one value, read at that value as default.
use Rattle.std.proofs.Common.{◌≡◌, ℕ, zero, suc, get_or, replicate, refl}

pub getD_replicate_same : {X : Type 0} (n i : ℕ) (x : X) → get_or (replicate n x) i x ≡ x
getD_replicate_same zero i x = refl
getD_replicate_same (suc n) zero x = refl
getD_replicate_same (suc n) (suc i) x = getD_replicate_same n i x

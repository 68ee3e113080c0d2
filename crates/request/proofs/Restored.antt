-- A row of a list that was changed twice and then set back.
use Rattle.std.proofs.Common.{◌≡◌, ◌∙◌, ℕ, List, slice_index_or, slice_set}
use Rattle.std.proofs.Math.Seq.{set-set}
use Rattle.std.proofs.lemmas.List.{set-get_or}

pub restored : {X : Type 0} → (xs : List X) (i : ℕ) (a b x : X) → x ≡ slice_index_or xs i x → slice_set (slice_set (slice_set xs i a) i b) i x ≡ xs
restored xs i a b x found = set-set (slice_set xs i a) i b x ∙ (set-set xs i a x ∙ cc (found, set-get_or xs i x))

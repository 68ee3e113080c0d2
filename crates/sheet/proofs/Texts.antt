-- How the words for texts, which recur on the bytes, agree with the library's.
-- Assumes nothing.
use Rattle.std.proofs.Common.{◌≡◌, ℕ, suc, ◌+◌, true, false, cond, eqb, List, [], ◌∷◌, drop, refl, ap, ◌∙◌, arith}
use Rattle.std.specs.List.{prefix_len}
use Rattle.sheet.specs.Fields.{unpadded}

pub unpadded-drop : (bs : List ℕ) → unpadded bs ≡ drop (prefix_len (λ b. eqb b 32) bs) bs
unpadded-drop [] = refl
unpadded-drop (b ∷ bs) =
    let n = prefix_len (λ c. eqb c 32) bs in
    let more : suc n ≡ 1 + n = omega arith in
    elim (eqb b 32) as (λ t. cond t (unpadded bs) (b ∷ bs) ≡ drop (cond t (1 + n) 0) (b ∷ bs)) [
      | true ↦ unpadded-drop bs ∙ ap (λ k. drop k (b ∷ bs)) more
      | false ↦ refl
    ]

-- What a chain's `all` answers, against a test written by recursion: over a list, or over the rows below a number.
-- Assumes nothing.
use Rattle.std.proofs.Common.{◌≡◌, ℕ, zero, suc, ◌<◌, Bool, true, false, ◌&&◌, List, [], ◌∷◌, sym, refl, ap, ◌∙◌, ⊎_elim, arith}
use Rattle.std.specs.List.{All, Any}
use Rattle.std.proofs.lemmas.Bool.{and_from, and_left, and_right, cases_eq}
use Rattle.std.proofs.lemmas.List.Recursion.{and_fails_at, and_from_places}

-- std's `and_is` asks for an item, which a type parameter need not have.
module _ {X : Type 0} (F : List X → Bool) (p : X → Bool) (none : F [] ≡ true) (step : (x : X) (xs : List X) → F (x ∷ xs) ≡ (p x && F xs)) where
  pub all_is : (xs : List X) (r : Bool) → (r ≡ true → All (λ x. p x ≡ true) xs) → (r ≡ false → Any (λ x. p x ≡ false) xs) → r ≡ F xs
  all_is [] true so not_so = sym none
  all_is (x ∷ xs) true so not_so = sym (and_from_places F p none step (x ∷ xs) x (λ i l. so refl i x l))
  all_is xs false so not_so =
      let at : Any (λ x. p x ≡ false) xs = not_so refl in
      sym (and_fails_at F p none step xs at.0 at.1 at.2 (ap p at.3 ∙ at.4))

module _ (F : ℕ → Bool) (p : ℕ → Bool) (none : F 0 ≡ true) (step : (n : ℕ) → F (suc n) ≡ (p n && F n)) where
  pub below_passes : (n : ℕ) → ((k : ℕ) → k < n → p k ≡ true) → F n ≡ true
  below_passes zero h = none
  below_passes (suc n) h = step n ∙ and_from (p n) (F n) (h n (omega arith)) (below_passes n (λ k l. h k (omega arith)))

  pub below_fails : (n k : ℕ) → k < n → p k ≡ false → F n ≡ false
  below_fails zero k l e = absurd (omega arith)
  below_fails (suc n) k l e =
      ⊎_elim
      (λ here. step n ∙ and_left (p n) (F n) (ap p (sym here) ∙ e))
      (λ on. step n ∙ and_right (p n) (F n) (below_fails n k (omega arith) e))
      (cases_eq k n)

  pub below_is : (n : ℕ) (r : Bool) → (r ≡ true → (k : ℕ) → k < n → p k ≡ true) → (r ≡ false → (k : ℕ) × (k < n) × (p k ≡ false)) → r ≡ F n
  below_is n true so not_so = sym (below_passes n (so refl))
  below_is n false so not_so = let at = not_so refl in sym (below_fails n at.0 at.1 at.2)

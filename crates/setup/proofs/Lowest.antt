-- What a chain's `position` answers is the lowest row that passes.
-- Assumes nothing.
use Rattle.std.proofs.Common.{◌≡◌, ℕ, zero, suc, ◌<◌, Bool, true, false, cond, Option, Some, None, sym, refl, ap, ◌∙◌, ⊎_elim, arith}
use Rattle.std.proofs.lemmas.Bool.{cases_eq}
use Rattle.cluster.specs.Cycles.{lowest, or_else}

module _ (f : ℕ → Bool) where
  lowest_none : (n : ℕ) → ((k : ℕ) → k < n → f k ≡ false) → lowest n f ≡ None
  lowest_none zero h = refl
  lowest_none (suc n) h = ap (λ o. or_else o (cond (f n) (Some n) None)) (lowest_none n (λ k l. h k (omega arith))) ∙ ap (λ b. cond b (Some n) None) (h n (omega arith))

  lowest_some : (n i : ℕ) → i < n → f i ≡ true → lowest i f ≡ None → lowest n f ≡ Some i
  lowest_some zero i l passes none = absurd (omega arith)
  lowest_some (suc n) i l passes none =
      ⊎_elim
      (λ here. ap (λ k. lowest (suc k) f) (sym here) ∙ ap (λ o. or_else o (cond (f i) (Some i) None)) none ∙ ap (λ b. cond b (Some i) None) passes)
      (λ on. ap (λ o. or_else o (cond (f n) (Some n) None)) (lowest_some n i (omega arith) passes none))
      (cases_eq i n)

  pub lowest_is : (n : ℕ) (o : Option ℕ) → (o ≡ None → (k : ℕ) → k < n → f k ≡ false) → ((i : ℕ) → o ≡ Some i → (i < n) × (f i ≡ true) × ((k : ℕ) → k < i → f k ≡ false)) → o ≡ lowest n f
  lowest_is n None none some = sym (lowest_none n (none refl))
  lowest_is n (Some i) none some = let at = some i refl in sym (lowest_some n i at.0 at.1 (lowest_none i at.2))

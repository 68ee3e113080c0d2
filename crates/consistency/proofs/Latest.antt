-- The latest of a first date and of the dates of the marked rows: it is the least upper bound of these.
use Rattle.std.proofs.Common.{◌≡◌, ℕ, zero, suc, ◌<◌, ◌≤◌, Bool, true, sym, refl, ap, ◌∙◌, subst, inl, inr, arith}
use Rattle.std.proofs.lemmas.Bool.{cases_eq, cases_Bool}
use Rattle.consistency.specs.Dates.{latest}

module _ (first : ℕ) (marked : ℕ → Bool) (dates : ℕ → ℕ) where
  pub latest_first : (m : ℕ) → first ≤ latest first marked dates m
  latest_first zero = omega arith
  latest_first (suc m) = omega (arith, latest_first m)

  pub latest_marked : (m k : ℕ) → k < m → marked k ≡ true → dates k ≤ latest first marked dates m
  latest_marked zero k h is = omega arith
  latest_marked (suc m) k h is =
      elim (cases_eq k m) [
        | inl e ↦ subst (λ x. dates x ≤ latest first marked dates (suc m)) (sym e) (rw (sym (ap marked e) ∙ is) (omega arith))
        | inr d ↦ omega (arith, latest_marked m k (omega arith) is)
      ]

  pub latest_least : (m u : ℕ) → first ≤ u → ((k : ℕ) → k < m → marked k ≡ true → dates k ≤ u) → latest first marked dates m ≤ u
  latest_least zero u h each = h
  latest_least (suc m) u h each =
      let rest = latest_least m u h (λ k j. each k (omega arith)) in
      elim (cases_Bool (marked m)) [
        | inl is ↦ rw is (omega (arith, each m (omega arith) is))
        | inr not ↦ rw not (omega arith)
      ]

-- Only the rows before m are read.
pub latest_same : (first : ℕ) (marked : ℕ → Bool) (dates other : ℕ → ℕ) (m : ℕ) → ((k : ℕ) → k < m → dates k ≡ other k) → latest first marked dates m ≡ latest first marked other m
latest_same first marked dates other zero same = refl
latest_same first marked dates other (suc m) same = rw (latest_same first marked dates other m (λ k j. same k (omega arith)), same m (omega arith))

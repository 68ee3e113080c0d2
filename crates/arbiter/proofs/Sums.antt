-- Sums over the first sources.
use Rattle.std.proofs.Common.{◌≡◌, ℕ, zero, suc, ◌+◌, ◌<◌, ◌≤◌, min, refl, ap, inl, inr, arith}
use Rattle.std.proofs.lemmas.Bool.{cases_eq, cases_lt}
use Rattle.arbiter.specs.Counts.{sum_below}

pub sum_below_le : (n : ℕ) (f g : ℕ → ℕ) → ((o : ℕ) → o < n → f o ≤ g o) → sum_below n f ≤ sum_below n g
sum_below_le zero f g h = omega arith
sum_below_le (suc n) f g h = omega (arith, h n (omega arith), sum_below_le n f g (λ o k. h o (omega arith)))

-- One more at p makes the sum one more at least.
pub sum_below_more : (n : ℕ) (f g : ℕ → ℕ) (p : ℕ) → p < n → ((o : ℕ) → f o ≤ g o) → 1 + f p ≤ g p → 1 + sum_below n f ≤ sum_below n g
sum_below_more zero f g p k h e = omega arith
sum_below_more (suc n) f g p k h e =
    elim (cases_eq p n) [
      | inl same ↦ omega (arith, ap f same, ap g same, sum_below_le n f g (λ o j. h o))
      | inr apart ↦ omega (arith, h n, sum_below_more n f g p (omega arith) h e)
    ]

pub sum_below_zero : (n : ℕ) (f : ℕ → ℕ) → ((o : ℕ) → o < n → f o ≡ 0) → sum_below n f ≡ 0
sum_below_zero zero f h = refl
sum_below_zero (suc n) f h = omega (arith, h n (omega arith), sum_below_zero n f (λ o i. h o (omega arith)))

-- What is 0 from k on adds nothing there.
pub sum_below_cut : (n k : ℕ) (f : ℕ → ℕ) → ((o : ℕ) → k ≤ o → f o ≡ 0) → sum_below n f ≡ sum_below (min n k) f
sum_below_cut zero k f h = let e : 0 ≡ min 0 k = omega arith in ap (λ x. sum_below x f) e
sum_below_cut (suc n) k f h =
    elim (cases_lt n k) [
      | inl below ↦ (let e : suc n ≡ min (suc n) k = omega arith in ap (λ x. sum_below x f) e)
      | inr past ↦ (let e : min n k ≡ min (suc n) k = omega arith in omega (arith, h n past, sum_below_cut n k f h, ap (λ x. sum_below x f) e))
    ]

-- Sums over the first numbers.
use Rattle.std.proofs.Common.{◌≡◌, ℕ, zero, suc, ◌+◌, ◌*◌, ◌<◌, ◌≤◌, Bool, true, false, cond, refl, ap, inl, inr, arith}
use Rattle.std.proofs.lemmas.Bool.{cases_eq}
use Rattle.arbiter.specs.Counts.{sum_below}
use Rattle.arbiter.proofs.Sums.{sum_below_le}

pub cond_le : (x : Bool) (a b : ℕ) → a ≤ b → cond x a 0 ≤ cond x b 0
cond_le true a b h = h
cond_le false a b h = omega arith

-- Some more at k makes the sum so much more at least.
pub sum_below_plus : (n more : ℕ) (f g : ℕ → ℕ) (k : ℕ) → k < n → ((o : ℕ) → f o ≤ g o) → more + f k ≤ g k → more + sum_below n f ≤ sum_below n g
sum_below_plus zero more f g k l h e = absurd (omega arith)
sum_below_plus (suc n) more f g k l h e =
    elim (cases_eq k n) [
      | inl same ↦ omega (arith, ap f same, ap g same, sum_below_le n f g (λ o j. h o))
      | inr apart ↦ omega (arith, h n, sum_below_plus n more f g k (omega arith) h e)
    ]

pub sum_front : (n : ℕ) (f : ℕ → ℕ) → sum_below (suc n) f ≡ f 0 + sum_below n (λ b. f (suc b))
sum_front zero f = omega arith
sum_front (suc n) f = omega (arith, sum_front n f)

pub sum_scale : (n l : ℕ) (f : ℕ → ℕ) → sum_below n (λ b. l * f b) ≡ l * sum_below n f
sum_scale zero l f = omega arith
sum_scale (suc n) l f = omega (arith, sum_scale n l f)

pub sum_same : (n : ℕ) (f g : ℕ → ℕ) → ((b : ℕ) → f b ≡ g b) → sum_below n f ≡ sum_below n g
sum_same zero f g h = refl
sum_same (suc n) f g h = omega (arith, h n, sum_same n f g h)

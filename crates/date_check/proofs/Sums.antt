-- Sums of sums.
-- Assumes nothing.
use Rattle.std.proofs.Common.{◌≡◌, ℕ, zero, suc, ◌+◌, ◌*◌, ◌<◌, ◌≤◌, Bool, false, cond, ◌&&◌, eqb, refl, ap, ◌∙◌, inl, inr, arith}
use Rattle.std.proofs.lemmas.Bool.{cases_eq, eq-eqb, ne_eqb}
use Rattle.arbiter.specs.Counts.{sum_below}
use Rattle.arbiter.proofs.Sums.{sum_below_zero}

pub sum_below_most : (n most : ℕ) (f : ℕ → ℕ) → ((k : ℕ) → k < n → f k ≤ most) → sum_below n f ≤ n * most
sum_below_most zero most f h = omega arith
sum_below_most (suc n) most f h = omega (arith, h n (omega arith), sum_below_most n most f (λ k l. h k (omega arith)))

-- One that adds nothing leaves room for one more.
pub sum_below_gap : (n most : ℕ) (f : ℕ → ℕ) (i : ℕ) → i < n → f i ≡ 0 → ((k : ℕ) → k < n → f k ≤ most) → most + sum_below n f ≤ n * most
sum_below_gap zero most f i l e h = absurd (omega arith)
sum_below_gap (suc n) most f i l e h =
    elim (cases_eq i n) [
      | inl same ↦ omega (arith, ap f same, sum_below_most n most f (λ k j. h k (omega arith)))
      | inr apart ↦ omega (arith, h n (omega arith), sum_below_gap n most f i (omega arith) e (λ k j. h k (omega arith)))
    ]

sum_below_add : (n : ℕ) (f g : ℕ → ℕ) → sum_below n (λ o. f o + g o) ≡ sum_below n f + sum_below n g
sum_below_add zero f g = refl
sum_below_add (suc n) f g = omega (arith, sum_below_add n f g)

sum_below_none : (w : ℕ) → sum_below w (λ o. 0) ≡ 0
sum_below_none w = sum_below_zero w (λ o. 0) (λ o l. refl)

-- It does not matter which sum comes first.
pub sum_below_swap : (w n : ℕ) (f : ℕ → ℕ → ℕ) → sum_below w (λ o. sum_below n (f o)) ≡ sum_below n (λ k. sum_below w (λ o. f o k))
sum_below_swap w zero f = sum_below_none w
sum_below_swap w (suc n) f =
    sum_below_add w (λ o. f o n) (λ o. sum_below n (f o)) ∙ ap (λ x. sum_below w (λ o. f o n) + x) (sum_below_swap w n f)

-- What stands at one place only is counted once at most.
pub sum_below_once : (w p d : ℕ) (b : Bool) → sum_below w (λ o. cond (eqb p o && b) d 0) ≤ cond b d 0
sum_below_once zero p d b = omega arith
sum_below_once (suc w) p d b =
    elim (cases_eq p w) [
      | inl same ↦ rw (eq-eqb p w same) (omega (arith, sum_below_zero w (λ o. cond (eqb p o && b) d 0) (λ o l. let away : eqb p o ≡ false = ne_eqb p o (λ e. omega arith) in rw away)))
      | inr apart ↦ rw (ne_eqb p w apart) (omega (arith, sum_below_once w p d b))
    ]

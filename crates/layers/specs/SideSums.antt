-- Sums of counts over two sides.
use Rattle.std.proofs.Common.{◌≡◌, ℕ, zero, suc, ◌+◌, ◌-◌, ◌<◌, ◌≤◌, Bool, true, false, cond, not, ltb, ◌≢◌, List, get_or, sym, refl, ap, ◌∙◌, inl, inr, add-one, arith}
use mathlib.Core.Bool.{beq}
use native.Mathlib.Numerals.{unary_clauses}
use Rattle.std.proofs.lemmas.Bool.{cases_eq, eq-eqb, ne_eqb, lt-ltb, le-ltb}
use Rattle.arbiter.specs.Counts.{sum_below, counted, others_sum}
use Rattle.arbiter.proofs.Flags.{cond_mono}
use Rattle.arbiter.proofs.Sums.{sum_below_le, sum_below_zero}
use Rattle.layers.specs.Bounds.{shifted, same_side}
use Rattle.layers.specs.Shifts.{shifted_at}

-- A sum over both sides.
pub sum_below_split : (n k : ℕ) (f : ℕ → ℕ) → sum_below (n + k) f ≡ sum_below n f + sum_below k (λ q. f (n + q))
sum_below_split n zero f = simp unary_clauses (omega arith)
sum_below_split n (suc k) f = let e : n + suc k ≡ suc (n + k) = omega arith in rw e (omega (arith, sum_below_split n k f))

counted_other : (s : ℕ) (xs : List ℕ) (o : ℕ) → o ≢ s → counted s xs o ≡ get_or xs o 0
counted_other s xs o ne = rw (ne_eqb o s ne)

-- For a source of the first side: its side's counts and those of the second are all counts.
pub first_sum : (n k s : ℕ) (xs : List ℕ) → s < n → sum_below n (counted s xs) + others_sum (λ o. ltb o n) (n + k) xs ≤ sum_below (n + k) (counted s xs)
first_sum n k s xs h =
    omega (
      arith,
      sum_below_split n k (counted s xs),
      sum_below_split n k (λ o. cond (ltb o n) 0 (get_or xs o 0)),
      sum_below_zero n (λ o. cond (ltb o n) 0 (get_or xs o 0)) (λ o i. rw (lt-ltb o n i)),
      sum_below_le k (λ q. cond (ltb (n + q) n) 0 (get_or xs (n + q) 0)) (λ q. counted s xs (n + q)) (λ q i. rw (le-ltb (n + q) n (omega arith)) (omega (arith, counted_other s xs (n + q) (omega arith)))),
    )

pub first_only : (n : ℕ) (xs : List ℕ) → others_sum (λ o. ltb o n) n xs ≡ 0
first_only n xs = sum_below_zero n (λ o. cond (ltb o n) 0 (get_or xs o 0)) (λ o i. rw (lt-ltb o n i))

counted_shifted : (n s : ℕ) (xs : List ℕ) (q : ℕ) → n ≤ s → counted (s - n) (shifted n xs) q ≤ counted s xs (n + q)
counted_shifted n s xs q h =
    elim (cases_eq q (s - n)) [
      | inl e ↦ rw (eq-eqb q (s - n) e) (omega arith)
      | inr ne ↦ rw (ne_eqb q (s - n) ne) (omega (arith, shifted_at n xs q, counted_other s xs (n + q) (omega arith)))
    ]

-- The same for a source of the second side.
pub second_sum : (n k s : ℕ) (xs : List ℕ) → n ≤ s → sum_below k (counted (s - n) (shifted n xs)) + others_sum (λ o. not (ltb o n)) (n + k) xs ≤ sum_below (n + k) (counted s xs)
second_sum n k s xs h =
    omega (
      arith,
      sum_below_split n k (counted s xs),
      sum_below_split n k (λ o. cond (not (ltb o n)) 0 (get_or xs o 0)),
      sum_below_zero k (λ q. cond (not (ltb (n + q) n)) 0 (get_or xs (n + q) 0)) (λ q i. rw (le-ltb (n + q) n (omega arith))),
      sum_below_le n (λ o. cond (not (ltb o n)) 0 (get_or xs o 0)) (counted s xs) (λ o i. rw (lt-ltb o n i) (omega (arith, counted_other s xs o (omega arith)))),
      sum_below_le k (counted (s - n) (shifted n xs)) (λ q. counted s xs (n + q)) (λ q i. counted_shifted n s xs q h),
    )

-- The other side's sum never falls.
pub others_sum_le : (mine : ℕ → Bool) (n s : ℕ) (xs ys : List ℕ) → mine s ≡ true → ((o : ℕ) → o < n → o ≢ s → get_or xs o 0 ≤ get_or ys o 0) → others_sum mine n xs ≤ others_sum mine n ys
others_sum_le mine n s xs ys t h = sum_below_le n (λ o. cond (mine o) 0 (get_or xs o 0)) (λ o. cond (mine o) 0 (get_or ys o 0)) each
  where
    each : (o : ℕ) → o < n → cond (mine o) 0 (get_or xs o 0) ≤ cond (mine o) 0 (get_or ys o 0)
    each o i = elim (cases_eq o s) [ inl e ↦ rw (ap mine e ∙ t) (omega arith) | inr ne ↦ cond_mono (mine o) (get_or xs o 0) (get_or ys o 0) (h o i ne) ]

-- The other side's sum, count by count.
pub others_sum_more : (mine : ℕ → Bool) (xs : List ℕ) (o : ℕ) → others_sum mine (o + 1) xs ≡ cond (mine o) 0 (get_or xs o 0) + others_sum mine o xs
others_sum_more mine xs o = ap (λ k. others_sum mine k xs) (add-one o)

across_side : (x y : Bool) → not (beq x y) ≡ true → cond y x (not x) ≡ false
across_side true true h = sym h
across_side true false h = refl
across_side false true h = refl
across_side false false h = sym h

own_side : (x y : Bool) → not (beq x y) ≡ false → cond y x (not x) ≡ true
own_side true true h = refl
own_side true false h = sym h
own_side false true h = sym h
own_side false false h = refl

pub next_other : (n s o sum : ℕ) (xs : List ℕ) → not (beq (ltb o n) (ltb s n)) ≡ true → sum ≡ others_sum (same_side n s) o xs → sum + get_or xs o 0 ≡ others_sum (same_side n s) (o + 1) xs
next_other n s o sum xs h e = omega (arith, others_sum_more (same_side n s) xs o, ap (λ b. cond b 0 (get_or xs o 0)) (across_side (ltb o n) (ltb s n) h))

pub next_own : (n s o sum : ℕ) (xs : List ℕ) → not (beq (ltb o n) (ltb s n)) ≡ false → sum ≡ others_sum (same_side n s) o xs → sum ≡ others_sum (same_side n s) (o + 1) xs
next_own n s o sum xs h e = omega (arith, others_sum_more (same_side n s) xs o, ap (λ b. cond b 0 (get_or xs o 0)) (own_side (ltb o n) (ltb s n) h))

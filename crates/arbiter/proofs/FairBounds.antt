-- The laws of the fair bound itself.
use Rattle.std.proofs.Common.{◌≡◌, ℕ, ◌+◌, ◌<◌, ◌≤◌, min, ◌≢◌, List, length, get_or, ap, inl, inr, arith}
use Rattle.std.proofs.lemmas.List.{get_or_past}
use Rattle.std.proofs.lemmas.Bool.{cases_eq, eq-eqb, ne_eqb}
use Rattle.arbiter.specs.Counts.{sum_below, counted}
use Rattle.arbiter.specs.Fair.{fair_bound}
use Rattle.arbiter.proofs.Sums.{sum_below_le, sum_below_zero, sum_below_cut}

-- What source o adds to the bound.
abbrev share : ℕ → ℕ → List ℕ → ℕ → ℕ
share s own xs o = min (counted s xs o) own

counted_le : (s : ℕ) (xs ys : List ℕ) (o : ℕ) → (o ≢ s → get_or xs o 0 ≤ get_or ys o 0) → counted s xs o ≤ counted s ys o
counted_le s xs ys o h = elim (cases_eq o s) [ inl same ↦ rw (eq-eqb o s same) (omega arith) | inr ne ↦ rw (ne_eqb o s ne) (h ne) ]

pub fair_without_own : (n s : ℕ) (xs : List ℕ) → fair_bound n s 0 xs ≡ 0
fair_without_own n s xs = omega (arith, sum_below_zero n (share s 0 xs) (λ o i. omega arith))

pub fair_at_most_all : (n s own : ℕ) (xs : List ℕ) → fair_bound n s own xs ≤ own + sum_below n (counted s xs)
fair_at_most_all n s own xs = omega (arith, sum_below_le n (share s own xs) (counted s xs) (λ o k. omega arith))

pub fair_monotone : (n s own more : ℕ) (xs ys : List ℕ) → own ≤ more → ((o : ℕ) → o < n → o ≢ s → get_or xs o 0 ≤ get_or ys o 0) → fair_bound n s own xs ≤ fair_bound n s more ys
fair_monotone n s own more xs ys le each = omega (arith, sum_below_le n (share s own xs) (share s more ys) (λ o j. omega (arith, counted_le s xs ys o (each o j))))

-- The entries of the first n sources are all that count, for there are 32 of them.
pub fair_cut : (n k s own : ℕ) (xs : List ℕ) → length xs ≡ 32 → k ≡ min n 32 → fair_bound n s own xs ≡ own + sum_below k (share s own xs)
fair_cut n k s own xs e i = rw i (ap (λ x. own + x) (sum_below_cut n 32 (share s own xs) (λ o h. nothing o h)))
  where
    nothing : (o : ℕ) → 32 ≤ o → share s own xs o ≡ 0
    nothing o h = elim (cases_eq o s) [ inl same ↦ rw (eq-eqb o s same) (omega arith) | inr ne ↦ rw (ne_eqb o s ne, get_or_past xs o 0 (omega arith)) (omega arith) ]

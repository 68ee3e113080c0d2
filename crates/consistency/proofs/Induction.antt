-- Induction over a number that each row has, such as its release, or over the rows themselves.
use Rattle.std.proofs.Common.{ℕ, zero, suc, ◌<◌, arith}

-- What holds of a row if it holds of all rows with a smaller number holds of every row.
pub by_number : (f : ℕ → ℕ) (P : ℕ → Type 0) → ((i : ℕ) → ((k : ℕ) → f k < f i → P k) → P i) → (i : ℕ) → P i
by_number f P step i = go (suc (f i)) i (omega arith)
  where
    go : (m i : ℕ) → f i < m → P i
    go zero i h = absurd (omega arith)
    go (suc m) i h = step i (λ k j. go m k (omega arith))

pub by_rows : (P : ℕ → Type 0) → ((i : ℕ) → ((k : ℕ) → k < i → P k) → P i) → (i : ℕ) → P i
by_rows = by_number (λ i. i)

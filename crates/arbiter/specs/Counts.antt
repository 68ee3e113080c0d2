-- Counts of accesses, one entry for each source.
use Rattle.std.specs.Prelude.{◌≡◌, ℕ, zero, suc, ◌+◌, Bool, true, cond, List, length, ◌==◌, nat_le, slice_index}
use Rattle.std.specs.List.{list_all}

-- The largest count: 256 tasks with 65,535 accesses each.
abbrev pub limit : ℕ
limit = 16776960

-- Is no entry above the limit?
abbrev pub all_within : List ℕ → Bool
all_within xs = list_all (λ x. nat_le x limit) xs

-- Are these the counts of 32 sources, none above the limit?
pub record AreCounts (xs : List ℕ) : Type 0 where
  pub full : length xs ≡ 32
  pub within : all_within xs ≡ true

-- What a bound for s counts of source o: its entry, and nothing of s itself.
abbrev pub counted : ℕ → List ℕ → ℕ → ℕ
counted s xs o = cond (o == s) 0 (slice_index xs o)

-- The sum over the first n sources.
abbrev pub sum_below : ℕ → (ℕ → ℕ) → ℕ
sum_below zero f = 0
sum_below (suc n) f = f n + sum_below n f

-- The sum of the entries of the first n sources that are not mine.
abbrev pub others_sum : (ℕ → Bool) → ℕ → List ℕ → ℕ
others_sum mine n xs = sum_below n (λ o. cond (mine o) 0 (slice_index xs o))

-- The bound of arbiters that serve no other source twice while a source waits.
use Rattle.std.specs.Prelude.{ℕ, ◌+◌, min, List}
use Rattle.arbiter.specs.Counts.{counted, sum_below}

-- For source s of n: its own accesses and, of each other source, its entry, but at most one access for each own one.
abbrev pub fair_bound : ℕ → ℕ → ℕ → List ℕ → ℕ
fair_bound n s own xs = own + sum_below n (λ o. min (counted s xs o) own)

-- Bounds of the pile, worked out level by level.
use Rattle.std.specs.Prelude.{◌≡◌, ℕ, List, ◌∷◌, ◌++◌, replicate}
use Rattle.rings.specs.Rings.{ring}
use Rattle.bostan.specs.Piles.{Pile, bostan, bostan_low, low_side, cores, NewPile}

-- 4 accesses of core 1, 30 of core 2, 50 of network transmit (16) and 7 of network receive (19).
abbrev pub against_core : List ℕ
against_core = 0 ∷ 4 ∷ 30 ∷ (replicate 13 0 ++ (50 ∷ 0 ∷ 0 ∷ 7 ∷ replicate 12 0))

-- 2 accesses of core 0 and 5 of core 1.
abbrev pub against_receive : List ℕ
against_receive = 2 ∷ 5 ∷ replicate 30 0

-- Core 0 with 10 accesses of its own: in the ring of cores, alternated with the units, and behind network receive.
-- Network receive with 3 accesses of its own.
pub record Worked (a : Pile) : Type 0 where
  pub ring_of_cores : ring.bound (cores a) 0 10 against_core ≡ 24
  pub alternated : bostan_low.bound (low_side a) 0 10 against_core ≡ 48
  pub in_all : bostan.bound a 0 10 against_core ≡ 55
  pub of_receive : bostan.bound a 19 3 against_receive ≡ 6

abbrev pub WorkedBounds : Type 0
WorkedBounds = (a : Pile) → NewPile a → Worked a

-- What the bounds of layers are made of.
use Rattle.std.specs.Prelude.{ℕ, ◌-◌, Bool, cond, not, List, ◌++◌, drop, replicate, nat_lt}
use Rattle.arbiter.specs.Counts.{others_sum}
use Rattle.arbiter.specs.Meaning.{Model}
use Rattle.layers.specs.declared.pair.Pair.{Pair}
use Rattle.layers.specs.Pairs.{pair_width}

-- The counts as the second side numbers them, behind n sources of the first.
abbrev pub shifted : ℕ → List ℕ → List ℕ
shifted n xs = drop n xs ++ replicate n 0

-- Is o at the side of s, where the first side has n sources?
abbrev pub same_side : ℕ → ℕ → ℕ → Bool
same_side n s o = cond (nat_lt s n) (nat_lt o n) (not (nat_lt o n))

module _ {L R : Type 0} (l : Model L) (r : Model R) where
  -- The bound of the side of s.
  abbrev pub side_bound : Pair L R → ℕ → ℕ → List ℕ → ℕ
  side_bound a s own xs = cond (nat_lt s (l.width a.first)) (l.bound a.first s own xs) (r.bound a.second (s - l.width a.first) own (shifted (l.width a.first) xs))

  -- The accesses of the other side.
  abbrev pub other_side : Pair L R → ℕ → List ℕ → ℕ
  other_side a s xs = others_sum (same_side (l.width a.first) s) (pair_width l r a) xs

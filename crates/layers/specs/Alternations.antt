-- Alternation: the sides take turns.
use Rattle.std.specs.Prelude.{◌+◌, min, Bool, not, ◌&&◌}
use Rattle.arbiter.specs.Held.{held}
use Rattle.arbiter.specs.Meaning.{Model}
use Rattle.layers.specs.declared.alternation.Alternation.{Alternation}
use Rattle.layers.specs.declared.pair.Pair.{Pair}
use Rattle.layers.specs.Pairs.{new_pair, is_first, first_waits, second_waits}
use Rattle.layers.specs.Layers.{Formula, layer}

-- The sides as they are, and none picked from yet.
abbrev pub new_alternation : {L R : Type 0} → L → R → Alternation L R
new_alternation left right = record { pair = new_pair left right }

-- The bound b of the own side, and as much again of the other side's accesses t.
abbrev pub alternating : Formula
alternating first own b t = b + min b t

module _ {L R : Type 0} (l : Model L) (r : Model R) where
  -- Left is picked from where somebody waits there, unless it was picked from last and somebody waits at the right too.
  abbrev pub alternates : Pair L R → Bool
  alternates a = first_waits l r a && not (is_first a.latest && second_waits l r a)

  -- What an alternation of left l and right r means.
  abbrev pub alternation : Model (Alternation L R)
  alternation = held (λ a. a.pair) (layer l r alternates alternating)
